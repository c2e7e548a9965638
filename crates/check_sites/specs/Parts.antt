-- A name declared in a scope, and its words.
use Rattle.std.specs.Prelude.{◌≡◌, Bool, List, map, ℕ, ◌+◌, ◌-◌, ◌<◌, ◌≤◌, eqb, length, get_or, if◌then◌else◌}
use Rattle.paper.specs.Words.{Word}
use Rattle.paper.specs.Names.{type_of, Names, text_of, Scopes, spelled, cannot_declare}
use Rattle.store_cells.specs.Cells.{cells_of}
use Rattle.code.specs.Cells.{first_window, op_at}
use Rattle.check_names.specs.Numbers.{number_of, IsName}
use Rattle.check_names.specs.Meanings.{cell_with, type_with, Means}
use Rattle.check_names.specs.Promises.{number_at}
use Rattle.check_names.specs.Promises as names
use Rattle.check_names.specs.declared.Scope.{Scope}
use Rattle.check_names.specs.Scopes.{with_used}
use Rattle.check_sites.specs.Sites.{Owns}

-- ---- words
-- r is 0 for num, 1 for bool
pub record TypeBit (s r : ℕ) : Type 0 where
  pub small : r < 2
  pub is : type_with r ≡ type_of s

-- the cell of a scope's first word
unfoldable pub base_of : (own : ℕ) → ℕ
base_of own = if eqb own 1 then first_window else 0

-- ---- cells
-- The cells from `from` on have the word v now, so many of them, and all others are as they were.
pub record Fills (before after : List ℕ) (from count v : ℕ) : Type 0 where
  pub long : length after ≡ length before
  pub here : (k : ℕ) → k < count → get_or (cells_of after) (from + k) 0 ≡ v
  pub below : (k : ℕ) → k < from → get_or (cells_of after) k 0 ≡ get_or (cells_of before) k 0
  pub above : (k : ℕ) → from + count ≤ k → get_or (cells_of after) k 0 ≡ get_or (cells_of before) k 0

-- ---- a name
-- r says whether the name at a word cannot be declared beside the names of a scope.
pub record Taken (code values : List ℕ) (own i : ℕ) (r : Bool) : Type 0 where
  pub is : (routine : ℕ → ℕ) (W : List Word) (S : Scopes) (N : Names) → Means routine W S (cells_of values) → IsName W i → number_at (cells_of code) i ≡ number_of W i → Owns own N S
      → r ≡ cannot_declare (map text_of N) (spelled W i)

-- The name at word i means, from now on, data of this kind and this value, of the type that stands before it.
pub record Makes (code values code' values' : List ℕ) (i kind own value : ℕ) : Type 0 where
  pub bool : ℕ
  pub type : TypeBit (op_at (cells_of code) (i - 1)) bool
  pub declared : names.Declared code values i (cell_with kind bool own value) code' values'

-- So it does in a scope, and has so many of its words.
pub record MakesIn (scope : Scope) (code values code' values' : List ℕ) (i kind own value words : ℕ) (r : Scope) : Type 0 where
  pub makes : Makes code values code' values' i kind own value
  pub scope-is : r ≡ with_used (scope.used + words) scope
