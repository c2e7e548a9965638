-- The words of a new call: what writing them asks and promises.
use Rattle.std.specs.Prelude.{◌≡◌, List, map, ℕ, ◌+◌, ◌*◌, ◌%◌, ◌<◌, ◌≤◌, length, get_or, take, drop, replicate, ℤ}
use Rattle.std.proofs.Math.Option.{some}
use Rattle.std.specs.Int.{w32}
use Rattle.std.proofs.Common.{to_z}
use Rattle.store_cells.specs.Cells.{cells_of}
use Rattle.code.specs.Cells.{place_at}
use Rattle.code.specs.Steps.{parts}
use Rattle.code.specs.Holds.{data_in}
use Rattle.code.specs.Windows.{steps_cell, ends_cell}

-- ---- cells that hold numbers
-- The cells from a on hold these numbers.
abbrev pub Holding : (X : List ℕ) → (a : ℕ) → List ℤ → Type 0
Holding X a zs = map (to_z w32) (take (length zs) (drop a X)) ≡ zs

-- They were written, and no other cell.
pub record Wrote (before after : List ℕ) (a : ℕ) (zs : List ℤ) : Type 0 where
  pub long : length after ≡ length before
  pub holds : Holding (cells_of after) a zs
  pub kept : (c : ℕ) → (a ≤ c → c < a + length zs → ⊥) → get_or (cells_of after) c 0 ≡ get_or (cells_of before) c 0

pub record Filled (before after : List ℕ) (at count : ℕ) (v : ℤ) (r : ℕ) : Type 0 where
  pub wrote : Wrote before after at (replicate count v)
  pub next : r ≡ at + count

-- ---- the words of a new call
-- a FOR variable's cell, and those of its loop
abbrev pub Idle : (X : List ℕ) (cell : ℕ) → Type 0
Idle X c = (get_or X c 0 ≡ 0) × (get_or X (c + ends_cell) 0 ≡ 0) × (get_or X (c + steps_cell) 0 ≡ 0)

-- The FOR variables from a cell on are 0, and so are the cells of their loops; cells before them and behind are as they were.
pub record Idled (before after : List ℕ) (at fors : ℕ) : Type 0 where
  pub long : length after ≡ length before
  pub zeros : (j : ℕ) → j < fors → get_or (cells_of after) (at + j) 0 ≡ 0
  pub ends : (j : ℕ) → j < fors → get_or (cells_of after) (at + j + ends_cell) 0 ≡ 0
  pub steps : (j : ℕ) → j < fors → get_or (cells_of after) (at + j + steps_cell) 0 ≡ 0
  pub below : (c : ℕ) → c < at → get_or (cells_of after) c 0 ≡ get_or (cells_of before) c 0
  pub above : (c : ℕ) → at + fors + steps_cell ≤ c → get_or (cells_of after) c 0 ≡ get_or (cells_of before) c 0

-- The data of a routine begin at a word, and there are cells for them from `at` on.
pub record Starts (code values : List ℕ) (first at : ℕ) : Type 0 where
  pub starts : List ℤ
  pub opens : ℕ
  pub reads : data_in (cells_of code) parts first ≡ some (starts, opens)
  pub whole : length code % 8 ≡ 0
  pub room : (at + length starts + place_at (cells_of code) opens + steps_cell) * 4 ≤ length values

pub record Started (code before after : List ℕ) (first at : ℕ) : Type 0 where
  pub long : length after ≡ length before
  pub is : (starts : List ℤ) (opens : ℕ) → data_in (cells_of code) parts first ≡ some (starts, opens) → Holding (cells_of after) at starts
  pub idle : (starts : List ℤ) (opens j : ℕ) → data_in (cells_of code) parts first ≡ some (starts, opens) → j < place_at (cells_of code) opens →
      Idle (cells_of after) (at + length starts + j)
  pub below : (c : ℕ) → c < at → get_or (cells_of after) c 0 ≡ get_or (cells_of before) c 0
  pub above : (starts : List ℤ) (opens c : ℕ) → data_in (cells_of code) parts first ≡ some (starts, opens) → at + length starts + place_at (cells_of code) opens + steps_cell ≤ c →
      get_or (cells_of after) c 0 ≡ get_or (cells_of before) c 0
