-- What the functions ask and promise by which an error is taken.
use Rattle.std.specs.Prelude.{◌≡◌, true, List, ◌∷◌, ℕ, ◌+◌, ◌*◌, ◌<◌, ◌≤◌, length, get_or, ℤ, pos}
use Rattle.std.proofs.Math.Option.{Option, none, some}
use Rattle.paper.specs.Steps.{Program}
use Rattle.paper.specs.States.{Call, with_calls}
use Rattle.paper.specs.Running.{caught, Outcome, goes_on, stopping, arising}
use Rattle.store_cells.specs.Cells.{cells_of}
use Rattle.code.specs.Cells.{window_of, link_at, errno_cell}
use Rattle.code.specs.Steps.{Head}
use Rattle.code.specs.Windows.{routine_cell, call_in, waiting, state_in}
use Rattle.layout.specs.Answers.{first_error, answers}
use Rattle.std.specs.Prelude.{Some, None}
use Rattle.run_errors.specs.Taken.{Taken}
use Rattle.run_errors.specs.declared.Machine.{Machine}
use Rattle.run_machine.specs.Live.{Live}
use Rattle.run_machine.specs.Machine.{depth_limit, handed, Here, KeepsRun}

-- ---- an error
-- the window at b has a word of the code store for its routine
pub record HasRoutine (code values : List ℕ) (b : ℕ) : Type 0 where
  pub cell : (b + routine_cell) * 4 + 4 ≤ length values
  pub word : (get_or (cells_of values) (b + routine_cell) 0 + 1) * 8 + 8 ≤ length code

abbrev pub handler_at : (code values : List ℕ) → (b : ℕ) → ℕ
handler_at code values b = link_at (cells_of code) (get_or (cells_of values) (b + routine_cell) 0 + 1)

-- What is asked of the calls hangs on none above step s of the call with its window at b, where the newest, which has d callers, is at step i.
pub record Seeks (A : Type 0) (ask : List Call → A) (P : Program) (R : List Head) (X : List ℕ) (d i b s : ℕ) : Type 0 where
  pub e : ℕ
  pub up : e ≤ d
  pub base-is : b ≡ window_of e
  pub live : Live P R X e s
  pub rest : ask (call_in P R X (window_of d) i ∷ waiting P R X d) ≡ ask (call_in P R X (window_of e) s ∷ waiting P R X e)

-- here: who takes an error
pub record Nearest (code values : List ℕ) (base i : ℕ) (t : Machine) : Type 0 where
  pub is : (h : Here code values base i) → Seeks (Option (List Call)) (caught h.P) h.P h.R (cells_of values) h.d i t.base t.next
  pub main : handler_at code values t.base ≡ 0 → t.base ≡ window_of 0

-- By what step of what call an error is taken that arises in step i of the call with d callers, or that it hands on while it waits there: none where the run dies.
module _ (P : Program) (R : List Head) (X X' : List ℕ) (d i : ℕ) where
  pub data Takes (t : Taken) : Type 0 where
    dies : t ≡ None → X' ≡ X → caught P (call_in P R X (window_of d) i ∷ waiting P R X d) ≡ none → Takes t
    takes : (c : ℕ) (m : Machine) → t ≡ Some m → 0 < m.next → m.base ≡ window_of c → c < depth_limit → Live P R X' c m.next
        → caught P (call_in P R X (window_of d) i ∷ waiting P R X d) ≡ some (call_in P R X' (window_of c) m.next ∷ waiting P R X' c)
        → ((e j steps : ℕ) (out : List ℕ) → with_calls (call_in P R X' (window_of c) m.next ∷ waiting P R X' c) (state_in P R X e j steps out) ≡ state_in P R X' c m.next steps out)
        → Takes t

pub record Unwound (code values after : List ℕ) (base i : ℕ) (t : Taken) : Type 0 where
  pub long : length after ≡ length values
  pub does : (h : Here code values base i) → Takes h.P h.R (cells_of values) (cells_of after) h.d i t
  pub kept : KeepsRun (cells_of values) (cells_of after)

-- What a step answers that fails, or hands an error on.
pub data Raises (r : ℤ) : Type 0 where
  raises : (e : ℕ) → e < answers → r ≡ pos (first_error + e) → Raises r
  hands_on : r ≡ pos handed → Raises r

-- How a run goes on then, as the paper has it.
module _ (P : Program) (R : List Head) (X' : List ℕ) (d i steps place : ℕ) (out : List ℕ) where
  pub data Settles (t : Taken) (o : Outcome) : Type 0 where
    stops : t ≡ None → Live P R X' d i → o ≡ stopping true 3 place (state_in P R X' d i steps out) → Settles t o
    resumes : (c : ℕ) (m : Machine) → t ≡ Some m → 0 < m.next → m.base ≡ window_of c → c < depth_limit → Live P R X' c m.next → o ≡ goes_on (state_in P R X' c m.next steps out) → Settles t o

pub record Arisen (code values after : List ℕ) (base i : ℕ) (r : ℤ) (t : Taken) : Type 0 where
  pub long : length after ≡ length values
  pub fails : (h : Here code values base i) (e : ℕ) → r ≡ pos (first_error + e) → (steps place : ℕ) (out : List ℕ)
      → Settles h.P h.R (cells_of after) h.d i steps place out t
      (arising h.P e place (state_in h.P h.R (cells_of values) h.d i steps out).calls (state_in h.P h.R (cells_of values) h.d i steps out))
  pub hands : (h : Here code values base i) → r ≡ pos handed → (steps place : ℕ) (out : List ℕ)
      → Settles h.P h.R (cells_of after) h.d i steps place out t
      (arising h.P (get_or (cells_of values) errno_cell 0) place (waiting h.P h.R (cells_of values) h.d) (state_in h.P h.R (cells_of values) h.d i steps out))
  pub kept : KeepsRun (cells_of values) (cells_of after)
