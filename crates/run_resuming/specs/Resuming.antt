-- RETRY and TRYNEXT: what their parts ask and promise.
use Rattle.std.specs.Prelude.{◌≡◌, Bool, List, ℕ, ◌+◌, ◌<◌, length, get_or, set}
use Rattle.std.proofs.Math.Option.{some}
use Rattle.paper.specs.Terms.{Term}
use Rattle.paper.specs.Steps.{Action}
use Rattle.store_cells.specs.Cells.{cells_of}
use Rattle.code.specs.Cells.{link_at}
use Rattle.code.specs.Steps.{Head, any_arguments, action_in}
use Rattle.code.specs.Windows.{failed_cell}
use Rattle.run_machine.specs.Machine.{store_bytes}
use Rattle.run_errors.specs.Taken.{Listed, listed}

-- ---- the step after a step
-- Arguments stand from `first` on, the first one up to `end`. The word that closes them has a link.
pub record Closes (code : List ℕ) (first end : ℕ) : Type 0 where
  pub m : ℕ
  pub n : ℕ
  pub function : Bool
  pub text : List ℕ
  pub R : List Head
  pub terms : List Term
  pub closing : ℕ
  pub is : any_arguments m n function text R (cells_of code) first end ≡ some (terms, closing)
  pub linked : 0 < link_at (cells_of code) closing
  pub size : length code ≡ store_bytes

pub record Closing (code : List ℕ) (first end r : ℕ) : Type 0 where
  pub is : (c : Closes code first end) → r ≡ c.closing

-- A step stands at a word, and its statement is followed by another.
pub record StepAt (code : List ℕ) (i : ℕ) : Type 0 where
  pub m : ℕ
  pub n : ℕ
  pub function : Bool
  pub text : List ℕ
  pub R : List Head
  pub next : ℕ
  pub does : Action
  pub is : action_in m n function text R (cells_of code) i ≡ some (next, does)
  pub goes-on : 0 < next
  pub size : length code ≡ store_bytes

pub record After (code : List ℕ) (i r : ℕ) : Type 0 where
  pub is : (s : StepAt code i) → r ≡ s.next

-- ---- the failed step
-- The call with its window at `base` is in its ERROR list no more: r was its failed step, if it had one.
pub record Forgot (before after : List ℕ) (base : ℕ) (r : Listed) : Type 0 where
  pub was : r ≡ listed (get_or (cells_of before) (base + failed_cell) 0)
  pub words : cells_of after ≡ set (cells_of before) (base + failed_cell) 0
  pub long : length after ≡ length before
