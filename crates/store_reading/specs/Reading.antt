-- What is read from the code store, and what it is to store a number in a cell.
use Rattle.std.specs.Prelude.{◌≡◌, List, ℕ, ◌<◌, length, set, ℤ}
use Rattle.std.specs.Int.{w32}
use Rattle.std.proofs.Common.{SFits, to_z, of_z}
use Rattle.store_cells.specs.Cells.{cells_of}
use Rattle.layout.specs.Parts.{link_part}

-- what a cell counts to, the value in it above its op, and a place or a link
abbrev pub cell_values : ℕ
cell_values = 4294967296

abbrev pub value_end : ℕ
value_end = 16777216

abbrev pub half_end : ℕ
half_end = link_part

-- A part of a cell that was read.
pub record Part (bound is r : ℕ) : Type 0 where
  pub same : r ≡ is
  pub small : r < bound

-- a word that was loaded
pub record Loaded (k : ℕ) (z : ℤ) : Type 0 where
  pub is : z ≡ to_z w32 k
  pub small : SFits w32 z

pub record Stored (before after : List ℕ) (i : ℕ) (v : ℤ) : Type 0 where
  pub words : cells_of after ≡ set (cells_of before) i (of_z w32 v)
  pub long : length after ≡ length before
