-- Request 6, UNDO lists: what a trainer may say of them, of every module that is accepted, whatever is lent and whatever K is.
use Rattle.std.specs.Prelude.{◌≡◌, List, [], ◌∷◌, ◌++◌, ℕ, zero, suc, ◌+◌, ◌≤◌, ◌<◌, length}
use Rattle.std.proofs.Math.Option.{Option, none, some}
use Rattle.paper.specs.Words.{Word}
use Rattle.paper.specs.Trees.{Routine, Module}
use Rattle.paper.specs.Expressions.{got}
use Rattle.paper.specs.Form.{formed}
use Rattle.paper.specs.Names.{sort_in}
use Rattle.paper.specs.Declarations.{routine_data, routine_scopes, routine_filling}
use Rattle.paper.specs.Checks.{fors_in_list, fors_in_optional}
use Rattle.paper.specs.Steps.{Action, store, call_for, call_of, give_back, raise, hand_on, exit, retry, try_next, write, read, choose, select, test_while, enter_for, repeat_for, end_list, end_undo, Step, Program, list_steps, optional_steps}
use Rattle.paper.specs.States.{Call, State, Rooms, go_to, with_calls, failing}
use Rattle.paper.specs.Running.{code_at, next_step, Ended, goes_on, run, started}
use Rattle.paper.specs.Undoing.{Abort, dropping, undo_step, undoing, run_abort}
use Rattle.paper.specs.Answer.{Accepted, accepted, verdict}
use Rattle.demands.specs.Vocabulary.{All, Among, effect_of, ways_of, GoesOn, Reached, Leads}
use Rattle.demands.specs.Demands.{BegunSince}

-- ---- the lists of a routine
-- The steps of a routine's body and of its ERROR list, and those of its UNDO list: together they are its table (`code_of`).
unfoldable pub own_steps : List Word → Module → Routine → List Step
own_steps W m r =
    let S = routine_scopes W m r in
    let words = (routine_data W m r).words in
    let M = (routine_filling W m).memory_with words in
    list_steps W end_list M S (length words) r.body ++ optional_steps W end_list M S (length words + fors_in_list r.body.statements) r.handler

unfoldable pub undo_steps : List Word → Module → Routine → List Step
undo_steps W m r =
    let words = (routine_data W m r).words in
    optional_steps W end_undo ((routine_filling W m).memory_with words) (routine_scopes W m r) (length words + fors_in_list r.body.statements + fors_in_optional r.handler) r.undo

-- The same of the routine with that number, counted from 0.
unfoldable pub routine_at : List Routine → ℕ → Option Routine
routine_at [] k = none
routine_at (r ∷ rs) zero = some r
routine_at (r ∷ rs) (suc k) = routine_at rs k

unfoldable pub own_steps_of : List Word → Module → ℕ → List Step
own_steps_of W m k = elim (routine_at m.routines k) [ none ↦ [] | some r ↦ own_steps W m r ]

unfoldable pub undo_steps_of : List Word → Module → ℕ → List Step
undo_steps_of W m k = elim (routine_at m.routines k) [ none ↦ [] | some r ↦ undo_steps W m r ]

-- "Calls, RETRY, TRYNEXT, RAISE, RETURN and EXIT are barred there": what a step of an UNDO list may be.
abbrev pub Undoable : Action → Type 0
Undoable (store t e) = Unit
Undoable (call_for t callee k es) = ⊥
Undoable (call_of callee k es) = ⊥
Undoable (give_back e) = ⊥
Undoable (raise e) = ⊥
Undoable hand_on = ⊥
Undoable exit = ⊥
Undoable retry = ⊥
Undoable try_next = ⊥
Undoable (write text e) = Unit
Undoable (read t text) = Unit
Undoable (choose arms otherwise) = Unit
Undoable (select e cases otherwise) = Unit
Undoable (test_while e body) = Unit
Undoable (enter_for k from to step body) = Unit
Undoable (repeat_for k body) = Unit
Undoable end_list = ⊥
Undoable end_undo = Unit

-- ---- the states of an abort
-- As K strikes: "every live routine is dropped there instead, innermost first, each running any UNDO list it has".
abbrev pub struck : Program → State → State
struck P s = with_calls (dropping P s.calls) s

-- From a state of an abort to a later one.
pub data UndoLeads (P : Program) (R : Rooms) (s : State) : State → Type 0 where
  no_step : UndoLeads P R s s
  undo-step : {s₁ s₂ : State} (c : Call) (r : List Call) → UndoLeads P R s s₁ → s₁.calls ≡ c ∷ r → undo_step P R c r s₁ ≡ goes_on s₂ → UndoLeads P R s s₂

-- Of the calls `before` the nearest that has an UNDO list begins it; the newer ones are dropped, and have none.
pub data NextList (P : Program) (before : List Call) : (after : List Call) → Type 0 where
  no_more : All (λ c. (code_at P c.routine).undo ≡ none) before → NextList P before []
  begins-list : (dropped : List Call) (c : Call) (callers : List Call) (list : ℕ) → before ≡ dropped ++ (c ∷ callers)
      → All (λ d. (code_at P d.routine).undo ≡ none) dropped → (code_at P c.routine).undo ≡ some list → NextList P before (go_to list c ∷ callers)

-- The calls that are live in an abort: one of those that were live as K struck, but for its next step, words and loops, and its callers as they were.
pub data StillLive (was : List Call) : (now : List Call) → Type 0 where
  none_left : StillLive was []
  one_left : (gone : List Call) (d c : Call) (callers : List Call) → was ≡ gone ++ (d ∷ callers) → c.routine ≡ d.routine → c.failed ≡ d.failed → c.result ≡ d.result
      → StillLive was (c ∷ callers)

-- What a step of the UNDO list of the newest call c does to the live calls.
pub data UndoCalls (P : Program) (c : Call) (r : List Call) (after : List Call) : Type 0 where
  -- it goes on in its list
  stays-in-list : ¬ ((next_step P c).does ≡ end_undo) → GoesOn c r (c.next ∷ (next_step P c).after ∷ ways_of (next_step P c).does) after → UndoCalls P c r after
  -- the list is left: its call is gone
  leaves-list : NextList P r after → UndoCalls P c r after

-- ---- what may be said, of the module m of the words W, whose program is P
-- The newest call in a state of an abort: K has struck in `first`, which is a state of a run; the abort has come to s.
pub record InAbort (P : Program) (R : Rooms) (main : ℕ) (first s : State) (c : Call) (r : List Call) : Type 0 where
  pub reached : Reached P R main first
  pub since : UndoLeads P R (struck P first) s
  pub live : s.calls ≡ c ∷ r

-- A run has ended at the next step of its newest call, and that is a step of its UNDO list.
pub record StandsInUndo (W : List Word) (m : Module) (P : Program) (x : Ended) : Type 0 where
  pub newest : Call
  pub callers : List Call
  pub live : x.state.calls ≡ newest ∷ callers
  pub place : x.place ≡ (next_step P newest).place
  pub in-undo : Among (next_step P newest) (undo_steps_of W m newest.routine)

pub record AbortLesson (W : List Word) (m : Module) (P : Program) (main : ℕ) : Type 0 where
  -- "Calls, RETRY, TRYNEXT, RAISE, RETURN and EXIT are barred there"
  pub barred : (k : ℕ) → All (λ s. Undoable s.does) (undo_steps_of W m k)
  -- A run without K makes no step of an UNDO list, nor does one with K before K strikes: in each of its states each live call is at a step of its body or its ERROR list, and at none of its UNDO list.
  pub never-in-undo : (R : Rooms) (s : State) → Reached P R main s
      → All (λ c. Among (next_step P c) (own_steps_of W m c.routine) × ¬ Among (next_step P c) (undo_steps_of W m c.routine)) s.calls
  -- "if its allowance is at least K and K steps would end it with 5, every live routine is dropped there instead": K strikes in a state of the run.
  pub is-struck : (R : Rooms) (n : ℕ) (a : Abort) → a.at ≤ n → (run P R a.at (started P main)).ending ≡ 5
      → run_abort P R n (some a) (started P main) ≡ undoing P R a.undo (struck P (run P R a.at (started P main)).state)
  pub strikes-in-run : (R : Rooms) (k : ℕ) → (run P R k (started P main)).ending ≡ 5 → Reached P R main (run P R k (started P main)).state
  -- Else it is the run without K: where its allowance is below K, and where it has ended or stopped by then.
  pub below-k : (R : Rooms) (n : ℕ) (a : Abort) → n < a.at → run_abort P R n (some a) (started P main) ≡ run P R n (started P main)
  pub not-struck : (R : Rooms) (n : ℕ) (a : Abort) → ¬ ((run P R a.at (started P main)).ending ≡ 5) → run_abort P R n (some a) (started P main) ≡ run P R n (started P main)
  -- Where K strikes, the nearest call that has an UNDO list begins it.
  pub first-list : (s : State) → NextList P s.calls (struck P s).calls
  -- In an abort the list that runs is that of the newest call;
  pub newest-in-undo : (R : Rooms) (first s : State) (c : Call) (r : List Call) → InAbort P R main first s c r → Among (next_step P c) (undo_steps_of W m c.routine)
  -- no call is live but those that were as K struck;
  pub only-those-live : (R : Rooms) (first s : State) → Reached P R main first → UndoLeads P R (struck P first) s → StillLive first.calls s.calls
  -- each step stays in its list or leaves it for the next one: "innermost first", and none that has a list is passed over.
  pub step-on-calls : (R : Rooms) (first s s' : State) (c : Call) (r : List Call) → InAbort P R main first s c r → undo_step P R c r s ≡ goes_on s' → UndoCalls P c r s'.calls
  -- "an error ends the list; its end, in a FUNC too, goes on to the next routine"
  pub error-leaves : (R : Rooms) (s s' s₁ : State) (c : Call) (r : List Call) (e : ℕ) → effect_of P R c r s ≡ failing e s₁ → undo_step P R c r s ≡ goes_on s' → NextList P r s'.calls × (s'.errno ≡ e)
  pub end_leaves : (R : Rooms) (s s' : State) (c : Call) (r : List Call) → (next_step P c).does ≡ end_undo → undo_step P R c r s ≡ goes_on s' → NextList P r s'.calls
  -- A list that is left never runs again: its call is gone for good.
  pub never-twice : (R : Rooms) (first s s' s'' : State) (c : Call) (r : List Call) → InAbort P R main first s c r → undo_step P R c r s ≡ goes_on s' → NextList P r s'.calls → UndoLeads P R s' s''
      → length s''.calls < length (c ∷ r)
  -- "Routines dropped by an error run none": an error has been taken and `taken` are live (`newer-gone`); later K strikes in `first`. A call that is live in the abort, deeper than those, was begun since.
  pub dropped-run-none : (R : Rooms) (taken first s : State) (n : ℕ) → Leads P R (λ x. Unit) taken first → Reached P R main first → UndoLeads P R (struck P first) s
      → length taken.calls ≤ n → n < length s.calls → BegunSince P R n taken first
  -- All of an abort, whatever its allowance, is such states;
  pub ends_so : (R : Rooms) (u : ℕ) (s : State) → UndoLeads P R s (undoing P R u s).state
  -- "9: aborted": no list is left;
  pub none-left-at-9 : (R : Rooms) (u : ℕ) (s : State) → (undoing P R u s).ending ≡ 9 → (undoing P R u s).state.calls ≡ []
  -- and "spent UNDO steps give 10, at the next step's place", which is in an UNDO list.
  pub spent-in-undo : (R : Rooms) (first : State) (u : ℕ) → Reached P R main first → (undoing P R u (struck P first)).ending ≡ 10 → StandsInUndo W m P (undoing P R u (struck P first))

unfoldable pub Aborting : Type 0
Aborting = (text : List ℕ) (a : Accepted) (m : Module) → verdict text ≡ accepted a → formed (sort_in a.words) ≡ got m → AbortLesson a.words m a.program a.main
