-- What the functions ask and promise by which the calls of an aborted run are dropped.
use Rattle.std.specs.Prelude.{◌≡◌, true, List, [], ◌∷◌, ℕ, ◌+◌, ◌<◌, length, get_or, ℤ, pos, Some, None}
use Rattle.std.specs.Int.Signed.{lt_z}
use Rattle.paper.specs.Steps.{Program}
use Rattle.paper.specs.States.{State, with_calls}
use Rattle.paper.specs.Undoing.{dropping}
use Rattle.store_cells.specs.Cells.{cells_of, Put}
use Rattle.code.specs.Cells.{window_of, place_at, errno_cell}
use Rattle.code.specs.Steps.{Head}
use Rattle.code.specs.Windows.{routine_cell, call_in, waiting, state_in}
use Rattle.layout.specs.Answers.{first_error, answers}
use Rattle.run_errors.specs.declared.Machine.{Machine}
use Rattle.run_errors.specs.Taken.{Taken}
use Rattle.run_machine.specs.Live.{Live}
use Rattle.run_machine.specs.Machine.{store_bytes, depth_limit, Here}

abbrev pub undo_at : (code values : List ℕ) → (b : ℕ) → ℕ
undo_at code values b = place_at (cells_of code) (get_or (cells_of values) (b + routine_cell) 0 + 1)

-- A call is live that has its window at `base`, at whatever step.
pub record Stands (code values : List ℕ) (base : ℕ) : Type 0 where
  pub i : ℕ
  pub here : Here code values base i

-- The state that is left, which the value store X holds: no call is live, or the newest begins its UNDO list.
module _ (P : Program) (R : List Head) (X : List ℕ) (steps : ℕ) (out : List ℕ) where
  pub data Falls (t : Taken) (s : State) : Type 0 where
    gone : t ≡ None → s ≡ with_calls [] (state_in P R X 0 0 steps out) → Falls t s
    begins : (c : ℕ) (m : Machine) → t ≡ Some m → 0 < m.next → m.base ≡ window_of c → c < depth_limit → Live P R X c m.next → s ≡ state_in P R X c m.next steps out → Falls t s

-- The calls from the one at `base` on are dropped.
pub record Dropped (code values : List ℕ) (base : ℕ) (t : Taken) : Type 0 where
  pub does : (i : ℕ) (h : Here code values base i) (steps : ℕ) (out : List ℕ) → Falls h.P h.R (cells_of values) steps out t
      (with_calls (dropping h.P (call_in h.P h.R (cells_of values) (window_of h.d) i ∷ waiting h.P h.R (cells_of values) h.d)) (state_in h.P h.R (cells_of values) h.d i steps out))

-- ---- a list is left
-- What a step answers then: no error, or one.
pub data Quits (r : ℤ) : Type 0 where
  without : lt_z r (pos first_error) ≡ true → Quits r
  raises : (e : ℕ) → e < answers → r ≡ pos (first_error + e) → Quits r

pub record Notes (values : List ℕ) (r : ℤ) : Type 0 where
  pub size : length values ≡ store_bytes
  pub quits : Quits r

-- An error's number is in ERRNO, and nothing else has changed.
pub record Noted (values after : List ℕ) (r : ℤ) : Type 0 where
  pub same : lt_z r (pos first_error) ≡ true → after ≡ values
  pub errno : (e : ℕ) → r ≡ pos (first_error + e) → Put values after errno_cell e

-- The callers of the one at `base` are dropped.
pub record Left (code values after : List ℕ) (base : ℕ) (r : ℤ) (t : Taken) : Type 0 where
  pub notes : Noted values after r
  pub does : (i : ℕ) (h : Here code after base i) (steps : ℕ) (out : List ℕ) → Falls h.P h.R (cells_of after) steps out t
      (with_calls (dropping h.P (waiting h.P h.R (cells_of after) h.d)) (state_in h.P h.R (cells_of after) h.d i steps out))
