-- What the search among a TEST's cases asks and tells.
use Rattle.std.specs.Prelude.{◌≡◌, Bool, List, ℕ, ◌+◌, ◌*◌, ◌%◌, ◌<◌, ◌≤◌, length, ℤ, pos}
use Rattle.std.proofs.Math.Option.{Option, none, some}
use Rattle.paper.specs.Numbers.{Value, value}
use Rattle.paper.specs.Terms.{Term, Memory, worth}
use Rattle.paper.specs.Running.{matching}
use Rattle.store_cells.specs.Cells.{cells_of}
use Rattle.code.specs.Steps.{Head, parts, for_step, cases_in}
use Rattle.store_evaluation.specs.Answers.{decoded, Small, Counts, memory_of}
use Rattle.store_reading.specs.Reading.{half_end}

-- The cases of a TEST stand at a word.
pub record Cases (code : List ℕ) (first : ℕ) : Type 0 where
  pub m : ℕ
  pub n : ℕ
  pub function : Bool
  pub text : List ℕ
  pub R : List Head
  pub cs : List (List ℤ × ℕ)
  pub o : ℕ
  pub is : cases_in m n function text R (cells_of code) parts first ≡ some (cs, o)
  pub whole : length code % 8 ≡ 0

-- r is where they go on for v.
pub record Matches (code : List ℕ) (first : ℕ) (v : ℤ) (r : ℕ) : Type 0 where
  pub is : (m n : ℕ) (function : Bool) (text : List ℕ) (R : List Head) (cs : List (List ℤ × ℕ)) (o : ℕ)
      → cases_in m n function text R (cells_of code) parts first ≡ some (cs, o) → r ≡ matching v cs o
  pub small : r < half_end
