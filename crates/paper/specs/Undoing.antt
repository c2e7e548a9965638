-- Request 6, "UNDO lists and moving the pointer to main": a run that is aborted at a step.
use Rattle.std.specs.Prelude.{true, false, List, [], ◌∷◌, ℕ, zero, suc, eqb, ltb, if◌then◌else◌}
use Rattle.std.proofs.Math.Option.{Option, none, some}
use Rattle.paper.specs.Steps.{Program}
use Rattle.paper.specs.States.{Call, State, Rooms, with_calls, with_errno, counted, go_to, Effect, made, failing, handing, ending, lacking}
use Rattle.paper.specs.Running.{code_at, next_step, perform, Ended, Outcome, goes_on, stopped, stopping, run}

-- "A run takes an optional step number K and an UNDO allowance"
pub record Abort : Type 0 where
  -- K
  pub at : ℕ
  pub undo : ℕ

-- What a call asks for besides its rooms.
pub record Asked : Type 0 where
  pub abort : Option Abort

-- The run without K.
abbrev pub plainly : Asked
plainly = record { abort = none }

-- "every live routine is dropped there instead, innermost first, each running any UNDO list it has": of these calls, those that are live as the next such
-- list begins.
unfoldable pub dropping : Program → List Call → List Call
dropping P [] = []
dropping P (c ∷ r) = elim (code_at P c.routine).undo [ none ↦ dropping P r | some u ↦ go_to u c ∷ r ]

-- The list of the newest call is left, by a step that counts: the callers are next.
unfoldable pub leaving : Program → (callers : List Call) → State → Outcome
leaving P r s = goes_on (counted (with_calls (dropping P r) s))

-- What a step of an UNDO list comes to.
unfoldable pub undone : Program → (callers : List Call) → (before : State) → Effect → Outcome
undone P r before (made s) = goes_on (counted s)
-- "an error ends the list"
undone P r before (failing e s) = leaving P r (with_errno e s)
-- plain RAISE is barred there
undone P r before (handing s) = leaving P r s
-- "its end, in a FUNC too, goes on to the next routine"; RETURN and EXIT are barred
undone P r before (ending n s) = leaving P r s
-- "7 or 8 met in a list gives that ending and drops the rest"
undone P r before (lacking n place) = stopping false n place before

unfoldable pub undo_step : Program → Rooms → Call → (callers : List Call) → State → Outcome
undo_step P R c r s =
    let n = next_step P c in
    undone P r s (perform P R c r n.place n.after n.does s)

-- "New ending 9: aborted, offset 0; spent UNDO steps give 10, at the next step's place."
abbrev pub aborted : State → Ended
aborted s = record { ending = 9; place = 0; state = s }

abbrev pub undo_spent : (place : ℕ) → State → Ended
undo_spent place s = record { ending = 10; place = place; state = s }

-- The UNDO lists of the calls that are live, with so many steps for all of them.
unfoldable pub undoing : Program → Rooms → (undo : ℕ) → State → Ended
undoing P R zero s = elim s.calls [ [] ↦ aborted s | c ∷ r ↦ undo_spent (next_step P c).place s ]
undoing P R (suc n) s =
    elim s.calls [
      | [] ↦ aborted s
      | c ∷ r ↦ elim (undo_step P R c r s) [ goes_on s' ↦ undoing P R n s' | stopped counted e ↦ e ]
    ]

-- "if [..] K steps would end it with 5, every live routine is dropped there instead"
unfoldable pub aborting : Program → Rooms → (undo : ℕ) → Ended → Ended
aborting P R u e = if eqb e.ending 5 then undoing P R u (with_calls (dropping P e.state.calls) e.state) else e

-- "if its allowance is at least K": else it is the run without K.
unfoldable pub run_abort : Program → Rooms → (steps : ℕ) → Option Abort → State → Ended
run_abort P R n none s = run P R n s
run_abort P R n (some a) s = if ltb n a.at then run P R n s else aborting P R a.undo (run P R a.at s)

unfoldable pub run_asked : Program → Rooms → (steps : ℕ) → Asked → State → Ended
run_asked P R n asked s = run_abort P R n asked.abort s
