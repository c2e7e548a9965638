-- How far two texts are equal from the front on.
use Rattle.std.specs.Prelude.{◌≡◌, List, ℕ, ◌*◌, ◌≤◌, length, take}
use Rattle.store_cells.specs.Cells.{cells_of}

-- So many fours of bytes, from the front on, are equal, as words of 32 bits.
pub record Fours (a b : List ℕ) (r : ℕ) : Type 0 where
  pub inside : r * 4 ≤ length a
  pub same : take r (cells_of a) ≡ take r (cells_of b)
