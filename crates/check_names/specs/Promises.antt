-- What the functions promise: every cell, and every byte, after the call.
use Rattle.std.specs.Prelude.{◌≡◌, Bool, List, ℕ, ◌+◌, ◌%◌, ◌<◌, get_or}
use Rattle.paper.specs.Names.{type_of}
use Rattle.store_cells.specs.Cells.{cells_of, Put}
use Rattle.code.specs.Cells.{head_at, value_at, place_at, link_at}
use Rattle.store_writing.specs.Promises.{tail_with, Rewritten}
use Rattle.layout.specs.Types.{type_in}
use Rattle.layout.specs.declared.types.ValueType.{ValueType}
use Rattle.check_names.specs.Meanings.{first_meaning, protects_cell, type_with, bool_in}

-- a store's 16,384 cells
abbrev pub store_bytes : ℕ
store_bytes = 65536

abbrev pub number_limit : ℕ
number_limit = 8192

-- ---- cells
-- A name's head has its number, and its length above it, as its value.
abbrev pub number_at : (C : List ℕ) → ℕ → ℕ
number_at C i = value_at C i % number_limit

abbrev pub meaning_at : (C X : List ℕ) → ℕ → ℕ
meaning_at C X i = get_or X (first_meaning + number_at C i) 0

-- ---- promises
abbrev pub Number : (code : List ℕ) (i r : ℕ) → Type 0
Number code i r = r ≡ number_at (cells_of code) i

abbrev pub Meant : (code values : List ℕ) (i r : ℕ) → Type 0
Meant code values i r = r ≡ meaning_at (cells_of code) (cells_of values) i

pub record Declared (code values : List ℕ) (i m : ℕ) (code' values' : List ℕ) : Type 0 where
  -- what the name meant, and its number as the word's link
  pub word : Rewritten code code' i (meaning_at (cells_of code) (cells_of values) i) (tail_with (place_at (cells_of code) i) (number_at (cells_of code) i))
  pub table : Put values values' (first_meaning + number_at (cells_of code) i) m

-- the word's link is a name's number
abbrev pub Links : (code : List ℕ) (i : ℕ) → Type 0
Links code i = link_at (cells_of code) i < number_limit

abbrev pub Left : (code values : List ℕ) (i : ℕ) (values' : List ℕ) → Type 0
Left code values i values' = Put values values' (first_meaning + link_at (cells_of code) i) (head_at (cells_of code) i)

abbrev pub Protects : (m : ℕ) → Bool → Type 0
Protects m r = r ≡ protects_cell m

-- ---- readings of a cell
-- r is the type that a cell says
pub record TypeOf (cell : ℕ) (r : ValueType) : Type 0 where
  pub is : type_in r ≡ type_with (bool_in cell)

-- r is the type that a word of this sort names
pub record TypeNamed (sort : ℕ) (r : ValueType) : Type 0 where
  pub is : type_in r ≡ type_of sort
