-- The parts of reading the heads.
use Rattle.std.specs.Prelude.{◌≡◌, Bool, true, false, ◌||◌, List, [], ℕ, ◌+◌, ◌*◌, ◌<◌, ◌≤◌, eqb, length, get_or, if◌then◌else◌, Option, Some, None}
use Rattle.paper.specs.Sorts.{bytes, equal_texts, close_paren, FUNC}
use Rattle.paper.specs.Words.{Word, word_limit}
use Rattle.paper.specs.Trees.{Declared, Parameter, Routine, Module}
use Rattle.paper.specs.Names.{sort_in, spelled}
use Rattle.paper.specs.Declarations.{routine_limit, routine_word_limit, data_texts, signatures}
use Rattle.paper.specs.Checks.{main_of}
use Rattle.store_cells.specs.Cells.{cells_of, Put}
use Rattle.code.specs.Cells.{op_at, value_at}
use Rattle.code.specs.Signatures.{types_at, head_in, signature_in, signature_end, Heads}
use Rattle.check_names.specs.Numbers.{number_of, IsName}
use Rattle.check_names.specs.Meanings.{a_routine, cell_with, is_protected, protected_cell, protects_cell, first_meaning, cell_for}
use Rattle.check_names.specs.Promises.{store_bytes, number_limit, number_at, meaning_at}
use Rattle.grammar.specs.Form.{Parses, DeclarationsAt, ParametersAt, RoutineAt, RoutinesAt}
use Rattle.check_heads.specs.Stores.{Kept, Marked, Valued, Lain, spelled_at, Spells}
use Rattle.check_heads.specs.Trees.{head_for, heads_for, to_come, data_cell, given_types, given_signature}
use Rattle.check_heads.specs.Reads.{MainAt, Tables, Filled}

abbrev pub store_cells : ℕ
store_cells = 16384

-- ---- going on to a word
unfoldable pub is_one_of : (a b sort : ℕ) → Bool
is_one_of a b s = eqb s a || eqb s b

-- there is one from `at` on
pub record Has (code : List ℕ) (at a b : ℕ) : Type 0 where
  pub n : ℕ
  pub from : at ≤ n
  pub room : n * 8 + 8 ≤ length code
  pub is : is_one_of a b (op_at (cells_of code) n) ≡ true

-- r is the first
pub record Next (code : List ℕ) (at a b r : ℕ) : Type 0 where
  pub from : at ≤ r
  pub room : r * 8 + 8 ≤ length code
  pub is : is_one_of a b (op_at (cells_of code) r) ≡ true
  pub none : (k : ℕ) → at ≤ k → k < r → is_one_of a b (op_at (cells_of code) k) ≡ false

-- ---- module data
pub record Announces (code values : List ℕ) (i : ℕ) (values' : List ℕ) : Type 0 where
  pub free : meaning_at (cells_of code) (cells_of values) i ≡ 0 → Put values values' (first_meaning + number_at (cells_of code) i) to_come
  pub taken : (meaning_at (cells_of code) (cells_of values) i ≡ 0 → ⊥) → values' ≡ values

-- Data stand from `at` on, and the table has the protected names alone.
pub record DataStand (code values : List ℕ) (at : ℕ) : Type 0 where
  pub W : List Word
  pub ds : List Declared
  pub to : ℕ
  pub form : DeclarationsAt (sort_in W) (Parses (sort_in W)) ds at to
  pub lain : Lain W code
  pub inside : to < length W
  pub cells : (j : ℕ) → IsName W j → cell_for W (cells_of values) j ≡ protected_cell (spelled W j)
  pub room : store_bytes ≤ length values

pub record DataKnown (W : List Word) (ds : List Declared) (to : ℕ) (values values' : List ℕ) (r : ℕ) : Type 0 where
  pub next : r ≡ to
  pub cells : (j : ℕ) → IsName W j → cell_for W (cells_of values') j ≡ data_cell (data_texts W ds) (spelled W j)
  pub kept : Kept values values' first_meaning store_cells

pub record Data (code values : List ℕ) (at : ℕ) (values' : List ℕ) (r : ℕ) : Type 0 where
  pub is : (g : DataStand code values at) → DataKnown g.W g.ds g.to values values' r

-- ---- parameters
-- A parameter is refused: its name is protected, or was seen in this routine, which begins at h, or it is the 65th.
unfoldable pub refuses : (cell seen h count : ℕ) → Bool
refuses cell seen h n = (protects_cell cell || eqb seen h) || eqb n routine_word_limit

unfoldable pub mark_of : Bool → ℕ
mark_of true = 1
mark_of false = 0

-- The parameter whose type is at i is marked; the cell of its name's number says from now on that it was seen.
pub record Marks (code values : List ℕ) (h i count : ℕ) (code' values' : List ℕ) : Type 0 where
  pub mark : Valued code code' i (mark_of (refuses (meaning_at (cells_of code) (cells_of values) (i + 1)) (get_or (cells_of values) (number_at (cells_of code) (i + 1)) 0) h count))
  pub seen : Put values values' (number_at (cells_of code) (i + 1)) h

-- The parameters of the routine that begins at h stand from `at` on, and none of their names was seen in it.
pub record ParametersStand (code values : List ℕ) (h at : ℕ) : Type 0 where
  pub W : List Word
  pub ps : List Parameter
  pub close : ℕ
  pub form : ParametersAt (sort_in W) (Parses (sort_in W)) ps at close
  pub closes : sort_in W close ≡ close_paren
  pub lain : Lain W code
  pub guards : (j : ℕ) → IsName W j → protects_cell (cell_for W (cells_of values) j) ≡ is_protected (spelled W j)
  pub unseen : (j : ℕ) → IsName W j → get_or (cells_of values) (number_of W j) 0 ≡ h → ⊥
  pub room : store_bytes ≤ length values

-- What was seen: in a cell that has changed stands h.
abbrev pub Sees : (values values' : List ℕ) (h : ℕ) → Type 0
Sees values values' h = (b : ℕ) → h < b → ((n : ℕ) → n < number_limit → get_or (cells_of values) n 0 < b) → (n : ℕ) → n < number_limit → get_or (cells_of values') n 0 < b

pub record ParametersMarked (W : List Word) (ps : List Parameter) (close : ℕ) (code values : List ℕ) (h at : ℕ) (code' values' : List ℕ) (r : ℕ) : Type 0 where
  pub count : r ≡ length ps
  pub types : types_at (cells_of code') r at ≡ given_types W [] 0 ps
  pub ends : at + 3 * r ≤ close + 1
  pub marked : Marked code code' at close
  pub kept : Kept values values' 0 close
  pub sees : Sees values values' h

pub record Parameters (code values : List ℕ) (h at : ℕ) (code' values' : List ℕ) (r : ℕ) : Type 0 where
  pub few : r < word_limit
  pub long : length code' ≡ length code
  pub is : (g : ParametersStand code values h at) → ParametersMarked g.W g.ps g.close code values h at code' values' r

-- ---- a routine
-- the result's type is not asked of the 65th
pub record Names (code : List ℕ) (h k : ℕ) (code' : List ℕ) (r : ℕ) : Type 0 where
  pub plain : (op_at (cells_of code) h ≡ FUNC → ⊥) → code' ≡ code
  pub plain-name : (op_at (cells_of code) h ≡ FUNC → ⊥) → r ≡ h + 1
  pub function : op_at (cells_of code) h ≡ FUNC → Valued code code' (h + 1) (mark_of (eqb k routine_limit))
  pub function-name : op_at (cells_of code) h ≡ FUNC → r ≡ h + 2

-- Routine k begins at h.
pub record RoutineStands (code values : List ℕ) (h k : ℕ) : Type 0 where
  pub W : List Word
  pub r : Routine
  pub to : ℕ
  pub form : RoutineAt (sort_in W) (Parses (sort_in W)) r h to
  pub lain : Lain W code
  pub guards : (j : ℕ) → IsName W j → protects_cell (cell_for W (cells_of values) j) ≡ is_protected (spelled W j)
  pub unseen : (j : ℕ) → IsName W j → get_or (cells_of values) (number_of W j) 0 ≡ h → ⊥
  pub room : store_bytes ≤ length values

pub record RoutineKnown (W : List Word) (t : Routine) (to : ℕ) (code values : List ℕ) (h k : ℕ) (code' values' : List ℕ) (r : ℕ) : Type 0 where
  pub name : r ≡ t.name
  pub head : head_for t ≡ head_in (cells_of code') h
  pub signature : signature_in (cells_of code') h ≡ given_signature W k t
  pub ends : signature_end (cells_of code') h ≤ to
  pub marked : Marked code code' h to
  pub kept : Kept values values' 0 to
  pub sees : Sees values values' h

pub record Begun (code values : List ℕ) (h k : ℕ) (code' values' : List ℕ) (r : ℕ) : Type 0 where
  pub long : length code' ≡ length code
  pub is : (g : RoutineStands code values h k) → RoutineKnown g.W g.r g.to code values h k code' values' r

-- ---- its name
-- the name is MAIN, and none was before
unfoldable pub main_after : (text C : List ℕ) → (name h : ℕ) → (main : Option ℕ) → Option ℕ
main_after text C name h None = if equal_texts (spelled_at text C name) (bytes "MAIN") then Some h else None
main_after text C name h (Some m) = Some m

-- A name that means nothing means the routine from now on.
pub record Takes (text code values : List ℕ) (h name : ℕ) (main : Option ℕ) (values' : List ℕ) (r : Option ℕ) : Type 0 where
  pub free : meaning_at (cells_of code) (cells_of values) name ≡ 0 → Put values values' (first_meaning + number_at (cells_of code) name) (cell_with a_routine 0 0 h)
  pub main-then : meaning_at (cells_of code) (cells_of values) name ≡ 0 → r ≡ main_after text (cells_of code) name h main
  pub taken : (meaning_at (cells_of code) (cells_of values) name ≡ 0 → ⊥) → values' ≡ values
  pub main-still : (meaning_at (cells_of code) (cells_of values) name ≡ 0 → ⊥) → r ≡ main

-- the word that a PROC without parameters begins with; none for any other
unfoldable pub main_word : (C : List ℕ) → (main : Option ℕ) → Option ℕ
main_word C None = None
main_word C (Some h) = if eqb (op_at C h) FUNC then None else if eqb (value_at C h) 0 then Some h else None

-- ---- the routines
-- The module's routines stand from `at` on; the table has its data, and nothing was seen.
pub record RoutinesStand (text code values : List ℕ) (at : ℕ) : Type 0 where
  pub W : List Word
  pub m : Module
  pub end : ℕ
  pub some : 0 < at
  pub form : RoutinesAt (sort_in W) (Parses (sort_in W)) m.routines at end
  pub lain : Lain W code
  pub spells : Spells text W code
  pub inside : end < length W
  pub cells : (j : ℕ) → IsName W j → cell_for W (cells_of values) j ≡ data_cell (data_texts W m.declared) (spelled W j)
  pub zeros : (n : ℕ) → n < first_meaning → get_or (cells_of values) n 0 ≡ 0
  pub room : store_bytes ≤ length values

pub record RoutinesKnown (W : List Word) (m : Module) (end : ℕ) (code values : List ℕ) (at : ℕ) (code' values' : List ℕ) (r : Option ℕ) : Type 0 where
  pub tables : Tables W m (cells_of values')
  pub filled : Filled values values'
  pub heads : Heads (cells_of code') (heads_for m.routines) (signatures W m 0 m.routines)
  pub marked : Marked code code' at end
  pub main : MainAt (heads_for m.routines) (main_of W m) r

pub record Routines (text code values : List ℕ) (at : ℕ) (code' values' : List ℕ) (r : Option ℕ) : Type 0 where
  pub is : (g : RoutinesStand text code values at) → RoutinesKnown g.W g.m g.end code values at code' values' r
