-- What the functions of a FOR ask and tell.
use Rattle.std.specs.Prelude.{◌≡◌, Bool, true, List, ℕ, ◌+◌, ◌*◌, ◌%◌, ◌≤◌, length, ℤ, pos}
use Rattle.std.proofs.Math.Option.{Option, none, some}
use Rattle.std.specs.Int.Signed.{lt_z}
use Rattle.paper.specs.Numbers.{Value, value}
use Rattle.paper.specs.Terms.{Term, Memory, worth}
use Rattle.paper.specs.Running.{counting_step}
use Rattle.store_cells.specs.Cells.{cells_of}
use Rattle.code.specs.Cells.{link_at}
use Rattle.code.specs.Steps.{Head, a_for, for_step}
use Rattle.store_evaluation.specs.Answers.{first_error, decoded, Small, Counts, memory_of, Evaluated}
use Rattle.store_reading.specs.Reading.{half_end, Part}
use Rattle.run_machine.specs.Machine.{Here, Says}

-- A FOR's STEP, or its DO, stands at s.
pub record ForSteps (code : List ℕ) (s : ℕ) : Type 0 where
  pub c : Counts
  pub function : Bool
  pub text : List ℕ
  pub R : List Head
  pub step : Option Term
  pub d : ℕ
  pub is : for_step c.m c.n function text R (cells_of code) s ≡ some (step, d)
  pub inside : s * 8 + 8 ≤ length code
  pub whole : length code % 8 ≡ 0

-- What the step is worth in a FOR from z to y.
unfoldable pub step_worth : Memory → Option Term → (z y : ℤ) → Value
step_worth M none z y = value (counting_step z y)
step_worth M (some e) z y = worth M e

-- r is what the step is worth in a FOR from a to b.
pub record StepGiven (code values : List ℕ) (base s : ℕ) (a b r : ℤ) : Type 0 where
  pub is : (c : Counts) (function : Bool) (text : List ℕ) (R : List Head) (step : Option Term) (d : ℕ)
      → for_step c.m c.n function text R (cells_of code) s ≡ some (step, d) → decoded r ≡ step_worth (memory_of c values base) step a b
  pub small : Small r

-- r is the DO.
pub record DoAt (code : List ℕ) (s r : ℕ) : Type 0 where
  pub is : (c : Counts) (function : Bool) (text : List ℕ) (R : List Head) (step : Option Term) (d : ℕ)
      → for_step c.m c.n function text R (cells_of code) s ≡ some (step, d) → r ≡ d

-- A FOR's head is worked out, and nothing in it failed: its loop goes from a to b by c, and its STEP or DO is at s.
pub record Begins (code values : List ℕ) (base i t s : ℕ) (a b c : ℤ) : Type 0 where
  pub here : Here code values base i
  pub says : Says code i a_for t
  pub to : ℕ
  pub to_is : Part half_end (link_at (cells_of code) (i + 2)) to
  pub s-is : Part half_end (link_at (cells_of code) to) s
  pub from-given : Evaluated code values base (i + 3) to a
  pub from-value : lt_z a (pos first_error) ≡ true
  pub to-given : Evaluated code values base (to + 1) s b
  pub to-value : lt_z b (pos first_error) ≡ true
  pub step_given : StepGiven code values base s a b c
  pub step_value : lt_z c (pos first_error) ≡ true
