-- What leaving a routine promises, and what it asks of the two stores.
use Rattle.std.specs.Prelude.{◌≡◌, false, List, ◌++◌, map, ℕ, ◌+◌, ◌*◌, ◌<◌, ◌≤◌, length, get_or}
use Rattle.paper.specs.Words.{Word, word_limit}
use Rattle.paper.specs.Names.{Text, Scopes, spelled, is_among, meaning}
use Rattle.store_cells.specs.Cells.{cells_of}
use Rattle.code.specs.Cells.{op_at}
use Rattle.code.specs.Steps.{a_datum}
use Rattle.check_names.specs.Numbers.{IsName}
use Rattle.check_names.specs.Meanings.{first_meaning, is_protected, protects_cell, meaning_in, cell_for, Means}
use Rattle.check_names.specs.Promises.{store_bytes}
use Rattle.check_names.specs.declared.Scope.{Scope}
use Rattle.check_sites.specs.Sites.{Site}
use Rattle.store_writing.specs.Chains.{Chain, Rise}
use Rattle.check_sites.specs.Walks.{outer_of, name_of, KeepsAll, name_words}

-- The table says of every name, but those of some texts, what it means in these scopes.
pub record MeansBut (texts : List Text) (routine : ℕ → ℕ) (W : List Word) (S : Scopes) (X : List ℕ) : Type 0 where
  pub means : (i : ℕ) → IsName W i → is_among texts (spelled W i) ≡ false → meaning_in routine (cell_for W X i) ≡ meaning S (spelled W i)
  pub guards : (i : ℕ) → IsName W i → is_among texts (spelled W i) ≡ false → protects_cell (cell_for W X i) ≡ is_protected (spelled W i)

-- No cell before the table has changed.
pub record SameWords (values values' : List ℕ) : Type 0 where
  pub is : (k : ℕ) → k < first_meaning → get_or (cells_of values') k 0 ≡ get_or (cells_of values) k 0

-- The words of the names of so many parameters, and of data that a word leads to, keep what their names meant outside; the table may say of these names what it likes.
pub record Leaving (code values : List ℕ) (first count head : ℕ) : Type 0 where
  pub W : List Word
  pub routine : ℕ → ℕ
  pub s : Site
  pub ds : List ℕ
  pub end : ℕ
  pub code-room : store_bytes ≤ length code
  pub table : store_bytes ≤ length values
  pub near : first + 3 * count < word_limit
  pub before : head < word_limit
  pub rises : Rise head word_limit ds
  pub chain : Chain (cells_of code) head ds end
  pub inside : end < word_limit
  pub stops : op_at (cells_of code) end ≡ a_datum → ⊥
  pub keeps-parameters : KeepsAll routine W s (cells_of code) (name_words first count)
  pub keeps-data : KeepsAll routine W s (cells_of code) (map name_of ds)
  pub others : MeansBut (map (spelled W) (name_words first count ++ map name_of ds)) routine W (outer_of W s) (cells_of values)

-- Then the table says of every name what it means outside, and the scope is the outer one.
pub record Leaves (scope outer : Scope) (code values values' : List ℕ) (r : Scope) : Type 0 where
  pub means : (l : Leaving code values scope.first scope.names scope.head) → Means l.routine l.W (outer_of l.W l.s) (cells_of values')
  pub same : SameWords values values'
  pub scope-is : r ≡ outer
