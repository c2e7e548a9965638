-- The parts of a declaration of data.
use Rattle.std.specs.Prelude.{◌≡◌, List, ℕ, ◌+◌, ◌*◌, ◌<◌, eqb, get_or, if◌then◌else◌}
use Rattle.paper.specs.Sorts.{CONST, becomes}
use Rattle.store_cells.specs.Cells.{cells_of}
use Rattle.code.specs.Cells.{op_at, value_at, place_at}
use Rattle.code.specs.Steps.{a_datum}
use Rattle.check_names.specs.Meanings.{a_variable, a_constant}
use Rattle.check_names.specs.Scopes.{Walked}
use Rattle.check_datum.specs.Answers.{Begins, Free, Says}
use Rattle.check_sites.specs.Parts.{base_of, Fills}

-- the kind that a scalar's meaning has, by the sort that its declaration begins with
unfoldable pub scalar_kind : (sort : ℕ) → ℕ
scalar_kind s = if eqb s CONST then a_constant else a_variable

-- a scalar of this kind, for which there is room, and whose value is declared
pub record Initial (code : List ℕ) (limit used kind i : ℕ) : Type 0 where
  pub kind-is : kind ≡ scalar_kind (op_at (cells_of code) i)
  pub becomes-is : op_at (cells_of code) (i + 3) ≡ becomes
  pub fits : used < limit

-- Word i is a datum's first now.
pub record SetDatum (before after : List ℕ) (i count held : ℕ) : Type 0 where
  pub op-is : op_at (cells_of after) i ≡ a_datum
  pub value-is : value_at (cells_of after) i ≡ held
  pub place_is : place_at (cells_of after) i ≡ count
  pub others : (k : ℕ) → (k ≡ i * 2 → ⊥) → (k ≡ i * 2 + 1 → ⊥) → get_or (cells_of after) k 0 ≡ get_or (cells_of before) k 0

-- So many words are used from now on, and start with a word; a routine's datum says so in its first word.
pub record Starts (code values code' values' : List ℕ) (own used count word held i : ℕ) : Type 0 where
  pub fills : Fills values values' (base_of own + used) count word
  pub own-datum : own ≡ 1 → SetDatum code code' i count held
  pub untouched : (own ≡ 1 → ⊥) → code' ≡ code

-- ---- a declaration whose name can be declared
pub record DeclaresFree (code values code' values' : List ℕ) (own limit used i : ℕ) (r : Walked) : Type 0 where
  pub is : (b : Begins code values own limit used i) → Free b → Says b code' values' r
