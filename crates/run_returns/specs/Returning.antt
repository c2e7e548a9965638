-- Returns: what their parts ask and promise.
use Rattle.std.specs.Prelude.{◌≡◌, List, ℕ, suc, length, ℤ}
use Rattle.code.specs.Cells.{op_at}
use Rattle.code.specs.Steps.{a_return, an_end}
use Rattle.store_reading.specs.Reading.{Stored}

-- ---- returns
-- A result goes to the cell that is 1 below, or nowhere.
pub record Gave (before after : List ℕ) (cell : ℕ) (v : ℤ) : Type 0 where
  pub long : length after ≡ length before
  pub stored : (c : ℕ) → cell ≡ suc c → Stored before after c v
  pub same : cell ≡ 0 → after ≡ before

-- The step returns, and gives nothing back.
pub data Returns (C : List ℕ) (i : ℕ) : Type 0 where
  by_return : op_at C i ≡ a_return → Returns C i
  by_end : op_at C i ≡ an_end → Returns C i
