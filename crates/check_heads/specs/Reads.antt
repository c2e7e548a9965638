-- What is promised: what is known before its declaration, for the checks that follow.
use Rattle.std.specs.Prelude.{◌≡◌, true, false, List, ℕ, ◌+◌, ◌<◌, ◌≤◌, length, get_or, drop, Option, Some, None}
use Rattle.std.proofs.Math.Option.{none, some}
use Rattle.std.proofs.Math.Option as math
use Rattle.paper.specs.Words.{Word}
use Rattle.paper.specs.Trees.{Module}
use Rattle.paper.specs.Names.{the_routine, nth, sort_in, spelled, is_among, meaning}
use Rattle.paper.specs.Declarations.{data_texts, signatures}
use Rattle.paper.specs.Checks.{main_of}
use Rattle.store_cells.specs.Cells.{cells_of}
use Rattle.code.specs.Cells.{head_at, place_at}
use Rattle.code.specs.Steps.{Head, no_head, numbered}
use Rattle.code.specs.Signatures.{Heads}
use Rattle.check_names.specs.Numbers.{IsName}
use Rattle.check_names.specs.Meanings.{a_routine, cell_with, is_protected, first_meaning, cell_for, Means}
use Rattle.check_names.specs.Promises.{store_bytes, number_limit}
use Rattle.check_load.specs.Layout.{words_in, head_of, first_cell}
use Rattle.grammar.specs.Form.{Parses, Stands}
use Rattle.check_heads.specs.Stores.{Marked}
use Rattle.check_heads.specs.Trees.{heads_for, to_come, first_scopes}

-- Both stores are as loading leaves them (`Loads`), and the words are a module.
pub record Begins (text code values : List ℕ) : Type 0 where
  pub m : Module
  pub stands : Stands (sort_in (words_in text)) (Parses (sort_in (words_in text))) m
  pub heads : (i : ℕ) → i < length (words_in text) → head_at (cells_of code) i ≡ head_of (words_in text) i
  pub places : (i : ℕ) → i < length (words_in text) → place_at (cells_of code) i ≡ (nth (words_in text) i).place
  pub zeros : (k : ℕ) → k < first_meaning → get_or (cells_of values) k 0 ≡ 0
  pub table : (i : ℕ) → i < number_limit → get_or (cells_of values) (first_meaning + i) 0 ≡ first_cell (words_in text) i
  pub code-room : store_bytes ≤ length code
  pub values-room : store_bytes ≤ length values

-- The word that main begins with, none where there is no main: "18: no PROC main without parameters".
pub record MainAt (R : List Head) (main : math.Option ℕ) (r : Option ℕ) : Type 0 where
  pub missing : r ≡ None → main ≡ none
  pub found : (h : ℕ) → r ≡ Some h → main ≡ some (numbered R h)
  pub inside : (h : ℕ) → r ≡ Some h → numbered R h < length R
  pub begins : (h : ℕ) → r ≡ Some h → (get_or R (numbered R h) no_head).word ≡ h

-- ---- the table of meanings
pub record Tables (W : List Word) (m : Module) (X : List ℕ) : Type 0 where
  pub means : Means (numbered (heads_for m.routines)) W (first_scopes W m) X
  -- module data are to come
  pub coming : (i : ℕ) → IsName W i → is_among (data_texts W m.declared) (spelled W i) ≡ true → is_protected (spelled W i) ≡ false → cell_for W X i ≡ to_come
  -- a name that means a routine has one cell and no other
  pub exact : (i k : ℕ) → IsName W i → meaning (first_scopes W m) (spelled W i) ≡ the_routine k → cell_for W X i ≡ cell_with a_routine 0 0 (get_or (heads_for m.routines) k no_head).word

-- the value store: nothing but the table has changed
pub record Filled (values values' : List ℕ) : Type 0 where
  pub zeros : (k : ℕ) → k < first_meaning → get_or (cells_of values') k 0 ≡ 0
  pub beyond : drop store_bytes values' ≡ drop store_bytes values
  pub long : length values' ≡ length values

-- ---- the promise
pub record Foretells (text code values code' values' : List ℕ) (r : Option ℕ) (words : ℕ) (m : Module) : Type 0 where
  pub tables : Tables (words_in text) m (cells_of values')
  pub filled : Filled values values'
  pub heads : Heads (cells_of code') (heads_for m.routines) (signatures (words_in text) m 0 m.routines)
  pub marked : Marked code code' 2 words
  pub main : MainAt (heads_for m.routines) (main_of (words_in text) m) r

pub record Reads (text code values code' values' : List ℕ) (r : Option ℕ) : Type 0 where
  pub is : (g : Begins text code values) → Foretells text code values code' values' r g.stands.words g.m
