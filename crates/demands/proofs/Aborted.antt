-- In every state of an abort of an accepted module the newest call sits at a step of its UNDO list, and its callers where they were: what may be said of aborts rests on this.
use mathlib.Core.Path.{◌≡◌, refl, sym, ap, ◌∙◌}
use mathlib.Core.Bool.{Bool, true, false}
use mathlib.Core.List.{List, [], ◌∷◌, ◌++◌, append_assoc}
use mathlib.Core.Option.{Option, none, some}
use Prim.Native.Nat.{ℕ, zero, suc, ◌+◌, ◌≤◌, ◌<◌}
use native.Mathlib.Omega.{arith}
use lib.Dec.{eqb, ltb}
use lib.ListN.{length, length-append}
use borrow.Author.Tests.{eqb-true, eq-eqb, ne_eqb, ltb-false, lt-ltb, le-ltb}
use Rattle.laws.proofs.Tests.{apart}
use Rattle.paper.specs.Words.{Word}
use Rattle.paper.specs.Trees.{Routine, Module}
use Rattle.paper.specs.Steps.{Action, end_undo, Step, Program, code_of, program_of}
use Rattle.paper.specs.States.{Call, State, Rooms, Effect, made, failing, ending, with_calls, with_errno, counted, go_to}
use Rattle.paper.specs.Running.{code_at, step_of, next_step, perform, Ended, Outcome, goes_on, stopped, take_step, run, started}
use Rattle.paper.specs.Undoing.{Abort, dropping, leaving, undone, undo_step, aborted, undo_spent, undoing, aborting, run_abort}
use Rattle.raised.proofs.Choices.{chosen, chosen_by}
use Rattle.demands.proofs.Alls.{first_of, rest_of, back-of, one-among, all_map}
use Rattle.demands.proofs.Tables.{StandsAt, Fits, Known, known-second, CodeFits, ModuleFits, code-at}
use Rattle.demands.proofs.Performed.{CallsMade, made_move, made-call, made-return, made-retry, made-trynext, Performed, makes, fails-with, hands-on, ends, lacks, performed, Callee, of_function, of-procedure, Lacking, no-depth, no-input, no_room}
use Rattle.demands.proofs.Growing.{Came, goes, stops, came, run-goes, run-stops, CameUndo, goes-undo, stops-undo, came-undo, undo_from}
use Rattle.demands.proofs.Calls.{never-live-again}
use Rattle.demands.proofs.Sitting.{each-among, among-known, Sits, next-among, Sitting, sitting, EndedAt, by-abort, at-word, at-undo-or-end, lacking-word, reached-sits, program-ends}
use Rattle.demands.specs.Vocabulary.{All, nothing, ◌also◌, Among, CallsRoutine, for-result, for-nothing, Returns, by-return, at-its-end, effect_of, ways_of, GoesOn, at-undo, Reached, at-start, by-step, Leads}
use Rattle.demands.specs.Demands.{BegunSince, NeverLiveAgain}
use Rattle.demands.specs.Aborts.{own_steps, undo_steps, routine_at, own_steps_of, undo_steps_of, Undoable, struck, UndoLeads, no_step, undo-step, NextList, no_more, begins-list, StillLive, none_left, one_left, UndoCalls, stays-in-list, leaves-list, StandsInUndo}

-- ---- of every program
-- A run that ended with 5 has come to a state of its own.
pub run-reaches : (P : Program) (R : Rooms) (main n : ℕ) (s : State) → Reached P R main s → (run P R n s).ending ≡ 5 → Reached P R main (run P R n s).state
unfolding run
run-reaches P R main zero s h e = h
run-reaches P R main (suc n) s h e = after (take_step P R s) refl (came P R s) (λ s' g. run-reaches P R main n s' g)
  where
    after : (o : Outcome) → take_step P R s ≡ o → Came R s o → ((s' : State) → Reached P R main s' → (run P R n s').ending ≡ 5 → Reached P R main (run P R n s').state)
        → Reached P R main (run P R (suc n) s).state
    after o q (goes {s' = s'} l) on = rw (run-goes P R n s s' q) (on s' (by-step h q) (rw (run-goes P R n s s' q) at e))
    after o q (stops b i place low high f l) on = absurd (f (rw (run-stops P R n s b _ q) at e))

-- One that did not end with 5 is the same with more steps.
run-longer : (P : Program) (R : Rooms) (k n : ℕ) (s : State) → k ≤ n → ¬ ((run P R k s).ending ≡ 5) → run P R k s ≡ run P R n s
unfolding run
run-longer P R zero n s h f = absurd (f refl)
run-longer P R (suc k) zero s h f = absurd (omega arith)
run-longer P R (suc k) (suc n) s h f = after (take_step P R s) refl (λ s' g. run-longer P R k n s' (omega arith) g)
  where
    after : (o : Outcome) → take_step P R s ≡ o → ((s' : State) → ¬ ((run P R k s').ending ≡ 5) → run P R k s' ≡ run P R n s') → run P R (suc k) s ≡ run P R (suc n) s
    after (goes_on s') q on = run-goes P R k s s' q ∙ on s' (λ e. f (ap (λ x. x.ending) (run-goes P R k s s' q) ∙ e)) ∙ sym (run-goes P R n s s' q)
    after (stopped b x) q on = run-stops P R k s b x q ∙ sym (run-stops P R n s b x q)

pub below-k : (P : Program) (R : Rooms) (n : ℕ) (a : Abort) (s : State) → n < a.at → run_abort P R n (some a) s ≡ run P R n s
unfolding run_abort
below-k P R n a s h = rw (lt-ltb n a.at h)

pub is-struck : (P : Program) (R : Rooms) (n : ℕ) (a : Abort) (s : State) → a.at ≤ n → (run P R a.at s).ending ≡ 5 → run_abort P R n (some a) s ≡ undoing P R a.undo (struck P (run P R a.at s).state)
unfolding run_abort aborting
is-struck P R n a s h e = rw (le-ltb n a.at h, eq-eqb (run P R a.at s).ending 5 e)

pub not-struck : (P : Program) (R : Rooms) (n : ℕ) (a : Abort) (s : State) → ¬ ((run P R a.at s).ending ≡ 5) → run_abort P R n (some a) s ≡ run P R n s
unfolding run_abort aborting
not-struck P R n a s f =
    chosen_by (λ (x : Ended). x ≡ run P R n s) (ltb n a.at) _ _ (λ t. refl) (λ t.
    rw (ne_eqb (run P R a.at s).ending 5 f, aborting) (run-longer P R a.at n s (ltb-false n a.at t) f))

-- The next list.
pub next-list : (P : Program) (cs : List Call) → NextList P cs (dropping P cs)
unfolding dropping
next-list P [] = no_more nothing
next-list P (c ∷ r) = by-list (code_at P c.routine).undo refl (next-list P r)
  where
    further : {after : List Call} → (code_at P c.routine).undo ≡ none → NextList P r after → NextList P (c ∷ r) after
    further e (no_more a) = no_more (e also a)
    further e (begins-list dropped d callers list q a h) = begins-list (c ∷ dropped) d callers list (ap (c ∷◌) q) (e also a) h

    by-list : (o : Option ℕ) → (code_at P c.routine).undo ≡ o → NextList P r (dropping P r) → NextList P (c ∷ r) (elim o [ none ↦ dropping P r | some u ↦ go_to u c ∷ r ])
    by-list none e on = further e on
    by-list (some u) e on = begins-list [] c r u refl nothing e

next-shorter : (P : Program) (cs : List Call) {after : List Call} → NextList P cs after → length after ≤ length cs
next-shorter P cs (no_more a) = omega arith
next-shorter P cs (begins-list dropped c callers list e a h) =
    let k : length cs ≡ length dropped + suc (length callers) = ap length e ∙ length-append dropped (c ∷ callers) in
    omega arith

-- The end of a list, and an error in it.
module _ (P : Program) (R : Rooms) (s s' : State) (c : Call) (r : List Call) where
  left-calls : (s₁ : State) → undo_step P R c r s ≡ leaving P r s₁ → undo_step P R c r s ≡ goes_on s' → NextList P r s'.calls × (s'.errno ≡ s₁.errno)
  unfolding leaving
  left-calls s₁ e g =
      let q : counted (with_calls (dropping P r) s₁) ≡ s' = cc in
      let calls : dropping P r ≡ s'.calls = ap (λ x. x.calls) q in
      (rw calls at (next-list P r), ap (λ x. x.errno) (sym q))

  pub error-leaves : (s₁ : State) (e : ℕ) → effect_of P R c r s ≡ failing e s₁ → undo_step P R c r s ≡ goes_on s' → NextList P r s'.calls × (s'.errno ≡ e)
  unfolding undo_step undone
  error-leaves s₁ e q g = left-calls (with_errno e s₁) (ap (undone P r s) q) g

  pub end_leaves : (next_step P c).does ≡ end_undo → undo_step P R c r s ≡ goes_on s' → NextList P r s'.calls
  unfolding undo_step undone perform
  end_leaves d g =
      let n = next_step P c in
      (left-calls s (ap (λ a. undone P r s (perform P R c r n.place n.after a s)) d) g).0

-- All of an abort is such states.
ends-along : (P : Program) (R : Rooms) (first : State) (n : ℕ) (s : State) → UndoLeads P R first s → UndoLeads P R first (undoing P R n s).state
unfolding undoing
ends-along P R first zero s h = newest s.calls
  where
    newest : (cs : List Call) → UndoLeads P R first (elim cs as (λ x. Ended) [ [] ↦ aborted s | c ∷ r ↦ undo_spent (next_step P c).place s ]).state
    newest [] = h
    newest (c ∷ r) = h
ends-along P R first (suc n) s h = newest s.calls refl (λ s' g. ends-along P R first n s' g)
  where
    after : (c : Call) (r : List Call) (o : Outcome) → s.calls ≡ c ∷ r → undo_step P R c r s ≡ o → CameUndo R s o → ((s' : State) → UndoLeads P R first s' → UndoLeads P R first (undoing P R n s').state)
        → UndoLeads P R first (elim o as (λ x. Ended) [ goes_on s' ↦ undoing P R n s' | stopped b x ↦ x ]).state
    after c r o e q (goes-undo {s' = s'} l) on = on s' (undo-step c r h e q)
    after c r o e q (stops-undo i place low high) on = h

    newest : (cs : List Call) → s.calls ≡ cs → ((s' : State) → UndoLeads P R first s' → UndoLeads P R first (undoing P R n s').state) → UndoLeads P R first (undo_from P R n s cs).state
    newest [] e on = h
    newest (c ∷ r) e on = after c r (undo_step P R c r s) e refl (came-undo P R c r s e) on

pub ends_so : (P : Program) (R : Rooms) (u : ℕ) (s : State) → UndoLeads P R s (undoing P R u s).state
ends_so P R u s = ends-along P R s u s no_step

-- How an abort ends: no call is left, or its UNDO steps are spent, or a step of it lacks something.
data Undid (P : Program) (x : Ended) : Type 0 where
  to-its-end : x.ending ≡ 9 → x.state.calls ≡ [] → Undid P x
  spent-at : (c : Call) (r : List Call) → x.ending ≡ 10 → x.state.calls ≡ c ∷ r → x.place ≡ (next_step P c).place → Undid P x
  lacked : x.ending ≤ 8 → Undid P x

how-it-ends : (P : Program) (R : Rooms) (n : ℕ) (s : State) → Undid P (undoing P R n s)
unfolding undoing
how-it-ends P R zero s = newest s.calls refl
  where
    newest : (cs : List Call) → s.calls ≡ cs → Undid P (elim cs [ [] ↦ aborted s | c ∷ r ↦ undo_spent (next_step P c).place s ])
    newest [] e = to-its-end refl e
    newest (c ∷ r) e = spent-at c r refl e refl
how-it-ends P R (suc n) s = newest s.calls refl (λ s'. how-it-ends P R n s')
  where
    after : (o : Outcome) → CameUndo R s o → ((s' : State) → Undid P (undoing P R n s')) → Undid P (elim o [ goes_on s' ↦ undoing P R n s' | stopped b x ↦ x ])
    after o (goes-undo {s' = s'} l) on = on s'
    after o (stops-undo i place low high) on = lacked high

    newest : (cs : List Call) → s.calls ≡ cs → ((s' : State) → Undid P (undoing P R n s')) → Undid P (undo_from P R n s cs)
    newest [] e on = to-its-end refl e
    newest (c ∷ r) e on = after (undo_step P R c r s) (came-undo P R c r s e) on

pub none-left-at-9 : (P : Program) (R : Rooms) (u : ℕ) (s : State) → (undoing P R u s).ending ≡ 9 → (undoing P R u s).state.calls ≡ []
none-left-at-9 P R u s e = by-case (how-it-ends P R u s)
  where
    by-case : Undid P (undoing P R u s) → (undoing P R u s).state.calls ≡ []
    by-case (to-its-end q l) = l
    by-case (spent-at c r q l p) = absurd (omega arith)
    by-case (lacked h) = absurd (omega arith)

-- ---- one step of an UNDO list
-- It makes no call, and returns, retries and raises nothing: where it is made, it goes on in its list.
module _ (P : Program) (R : Rooms) (c : Call) (r : List Call) (onward : ℕ) where
  call-barred : (k : ℕ) (a : Action) → CallsRoutine k a → Undoable a → ⊥
  call-barred k a (for-result t callee es) u = u
  call-barred k a (for-nothing callee es) u = u

  return-barred : (a : Action) → Returns a → Undoable a → ⊥
  return-barred a (by-return e) u = u
  return-barred a at-its-end u = u

  callee-barred : (k : ℕ) (a : Action) → Callee k a → Undoable a → ⊥
  callee-barred k a (of_function t i es) u = u
  callee-barred k a (of-procedure i es) u = u

  made-moves : (a : Action) (after : List Call) → Undoable a → CallsMade P c r onward a after → GoesOn c r (c.next ∷ onward ∷ ways_of a) after
  made-moves a after u (made_move g) = g
  made-moves a after u (made-call k args result st l) = absurd (call-barred k a st u)
  made-moves a after u (made-return d older q l b) = absurd (return-barred a q u)
  made-moves a after u (made-retry n e k l) = absurd (rw e at u)
  made-moves a after u (made-trynext n e k l) = absurd (rw e at u)

  -- what it lacks is input or room
  lacks-7-or-8 : (a : Action) (place n at' : ℕ) → Undoable a → Lacking a place n at' → 7 ≤ n
  lacks-7-or-8 a place n at' u (no-depth callee k) = absurd (callee-barred callee a k u)
  lacks-7-or-8 a place n at' u (no-input t text e) = omega arith
  lacks-7-or-8 a place n at' u (no_room w) = omega arith

  -- the end of the list makes nothing
  not-the-end : (place : ℕ) (a : Action) (s s' : State) → perform P R c r place onward a s ≡ made s' → ¬ (a ≡ end_undo)
  unfolding perform
  not-the-end place a s s' e q =
      let z : ending 4 s ≡ made s' = ap (λ x. perform P R c r place onward x s) (sym q) ∙ e in
      apart (cc)

  -- its calls, where it goes on
  left-goes : (s s' : State) → leaving P r s ≡ goes_on s' → NextList P r s'.calls
  unfolding leaving
  left-goes s s' e =
      let q : counted (with_calls (dropping P r) s) ≡ s' = cc in
      let calls : dropping P r ≡ s'.calls = ap (λ x. x.calls) q in
      rw calls at (next-list P r)

  undone-calls : (place : ℕ) (a : Action) (s s' : State) (e : Effect) → Undoable a → perform P R c r place onward a s ≡ e → Performed P R c r place onward a s e → undone P r s e ≡ goes_on s'
      → (¬ (a ≡ end_undo) → GoesOn c r (c.next ∷ onward ∷ ways_of a) s'.calls → UndoCalls P c r s'.calls) → UndoCalls P c r s'.calls
  unfolding undone
  undone-calls place a s s' e u p (makes {s' = s₁} h k) q on =
      let x : counted s₁ ≡ s' = cc in
      let calls : s₁.calls ≡ s'.calls = ap (λ y. y.calls) x in
      on (not-the-end place a s s₁ p) (rw calls at (made-moves a s₁.calls u k))
  undone-calls place a s s' e u p (fails-with {s' = s₁} n k live h) q on = leaves-list (left-goes (with_errno n s₁) s' q)
  undone-calls place a s s' e u p (hands-on k) q on = leaves-list (left-goes s s' q)
  undone-calls place a s s' e u p (ends n k) q on = leaves-list (left-goes s s' q)
  undone-calls place a s s' e u p (lacks n at' k) q on = apart (cc)

-- Where it stops, it lacks input or room.
abbrev UndoStopped : List Word → Outcome → Type 0
UndoStopped W (goes_on s) = Unit
UndoStopped W (stopped b x) = EndedAt W x × (7 ≤ x.ending)

undone-stops : (W : List Word) (P : Program) (R : Rooms) (function : Bool) (c : Call) (r : List Call) (place onward : ℕ) (a : Action) (s : State) (e : Effect) → StandsAt W true function place a → Undoable a
    → Performed P R c r place onward a s e → UndoStopped W (undone P r s e)
unfolding undone leaving
undone-stops W P R f c r place onward a s e h u (makes k l) = tt
undone-stops W P R f c r place onward a s e h u (fails-with n k l g) = tt
undone-stops W P R f c r place onward a s e h u (hands-on k) = tt
undone-stops W P R f c r place onward a s e h u (ends n k) = tt
undone-stops W P R f c r place onward a s e h u (lacks n at' k) = (at-word (lacking-word W true f place a n at' k h), lacks-7-or-8 P R c r onward a place n at' u k)

-- ---- of an accepted module
module _ (W : List Word) (m : Module) (fits : ModuleFits W m) where
  abbrev program : Program
  program = program_of W m

  abbrev undo : Call → List Step
  undo c = undo_steps_of W m c.routine

  among-routines : (rs : List Routine) (k : ℕ) → All (λ r. CodeFits W (length m.routines) (own_steps W m r) (undo_steps W m r) (code_of W m r)) rs
      → All (λ (s : Step). Undoable s.does) (elim (routine_at rs k) [ none ↦ [] | some r ↦ undo_steps W m r ])
  unfolding routine_at
  among-routines [] k h = nothing
  among-routines (r ∷ rs) zero h = (first_of h).undoable
  among-routines (r ∷ rs) (suc k) h = among-routines rs k (rest_of h)

  -- a call in its UNDO list
  pub record SitsUndo (c : Call) : Type 0 where
    pub routine : c.routine < length m.routines
    pub next : Known (undo c) c.next

  code : (c : Call) → SitsUndo c → CodeFits W (length m.routines) (own_steps_of W m c.routine) (undo c) (code_at program c.routine)
  code c h = code-at W m fits c.routine h.routine

  next-is : (Q : Step → Type 0) (c : Call) → SitsUndo c → All Q (undo c) → Q (next_step program c)
  unfolding next_step step_of
  next-is Q c h a = rw (code c h).table (known-second Q (own_steps_of W m c.routine) (undo c) c.next (λ k. (code c h).apart c.next k h.next) a h.next)

  next_fits : (c : Call) → SitsUndo c → Fits W true (code_at program c.routine).function (length m.routines) (Known (undo c)) (next_step program c)
  next_fits c h = next-is _ c h (code c h).undo-fit

  next-undoable : (c : Call) → SitsUndo c → Undoable (next_step program c).does
  next-undoable c h = next-is (λ s. Undoable s.does) c h (code c h).undoable

  -- the newest call is in its UNDO list, its callers wait
  data SittingUndo : List Call → Type 0 where
    none-sits : SittingUndo []
    sits-in-undo : {c : Call} {r : List Call} → SitsUndo c → All (Sits W m fits) r → SittingUndo (c ∷ r)

  next-sits : {cs after : List Call} → All (Sits W m fits) cs → NextList program cs after → SittingUndo after
  next-sits h (no_more a) = none-sits
  next-sits h (begins-list dropped c callers list e a u) =
      let g : All (Sits W m fits) (c ∷ callers) = back-of dropped _ (rw e at h) in
      let k = first_of g in
      sits-in-undo (record { routine = k.routine; next = (code-at W m fits c.routine k.routine).undo list u }) (rest_of g)

  calls-sit : (c : Call) (r after : List Call) → SitsUndo c → All (Sits W m fits) r → UndoCalls program c r after → SittingUndo after
  calls-sit c r after h g (stays-in-list f o) =
      let k = next_fits c h in
      let n : Known (undo c) o.newest.next = one-among (Known (undo c)) (h.next also k.after also k.ways) o.goes_to in
      rw o.live (sits-in-undo {c = o.newest} (record { routine = rw o.routine h.routine; next = rw o.routine n }) g)
  calls-sit c r after h g (leaves-list n) = next-sits g n

  step-calls : (R : Rooms) (s s' : State) (c : Call) (r : List Call) → SitsUndo c → s.calls ≡ c ∷ r → undo_step program R c r s ≡ goes_on s' → UndoCalls program c r s'.calls
  unfolding undo_step
  step-calls R s s' c r h live e =
      undone-calls program R c r _ _ _ s s' _ (next-undoable c h) refl (performed program R c r _ _ _ s live) e stays-in-list

  -- no call is added
  calls-fewer : (c : Call) (r : List Call) {after : List Call} → UndoCalls program c r after → length after ≤ length (c ∷ r)
  calls-fewer c r (stays-in-list f o) = omega (arith, ap length o.live)
  calls-fewer c r (leaves-list n) = omega (arith, next-shorter program r n)

  record Since (s s' : State) : Type 0 where
    sits : SittingUndo s'.calls
    fewer : length s'.calls ≤ length s.calls

  leads-sit : (R : Rooms) (s s' : State) → SittingUndo s.calls → UndoLeads program R s s' → Since s s'
  leads-sit R s s' h no_step = record { sits = h; fewer = omega arith }
  leads-sit R s s' h (undo-step {s₁ = s₁} {s₂ = s₂} c r g live e) =
      let since = leads-sit R s s₁ h g in
      newest (rw live at since.sits) since
    where
      newest : SittingUndo (c ∷ r) → Since s s₁ → Since s s₂
      newest (sits-in-undo k a) since =
          let u = step-calls R s₁ s₂ c r k live e in
          record { sits = calls-sit c r s₂.calls k a u; fewer = omega (arith, calls-fewer c r u, since.fewer, ap length live) }

  -- ---- where an abort ends
  step-stops : (R : Rooms) (s : State) (c : Call) (r : List Call) → SitsUndo c → s.calls ≡ c ∷ r → UndoStopped W (undo_step program R c r s)
  unfolding undo_step
  step-stops R s c r h live = undone-stops W program R _ c r _ _ _ s _ (next_fits c h).stands (next-undoable c h) (performed program R c r _ _ _ s live)

  undo-ends : (R : Rooms) (n : ℕ) (s : State) → SittingUndo s.calls → EndedAt W (undoing program R n s) × (7 ≤ (undoing program R n s).ending)
  unfolding undoing
  undo-ends R zero s h = newest s.calls h
    where
      newest : (cs : List Call) → SittingUndo cs → UndoStopped W (stopped false (elim cs [ [] ↦ aborted s | c ∷ r ↦ undo_spent (next_step program c).place s ]))
      newest cs none-sits = (by-abort, omega arith)
      newest cs (sits-in-undo {c = c} {r = r} k g) =
          (at-word (at-undo (at-undo-or-end W _ (next_step program c).place (next_step program c).does (next_fits c k).stands (next-undoable c k))), omega arith)
  undo-ends R (suc n) s h = newest s.calls refl h (λ s' g. undo-ends R n s' g)
    where
      after : (c : Call) (r : List Call) (o : Outcome) → SitsUndo c → All (Sits W m fits) r → s.calls ≡ c ∷ r → undo_step program R c r s ≡ o → UndoStopped W o
          → ((s' : State) → SittingUndo s'.calls → UndoStopped W (stopped false (undoing program R n s')))
          → UndoStopped W (stopped false (elim o [ goes_on s' ↦ undoing program R n s' | stopped b x ↦ x ]))
      after c r (goes_on s') k g live e u on = on s' (calls-sit c r s'.calls k g (step-calls R s s' c r k live e))
      after c r (stopped b x) k g live e u on = u

      newest : (cs : List Call) → s.calls ≡ cs → SittingUndo cs → ((s' : State) → SittingUndo s'.calls → UndoStopped W (stopped false (undoing program R n s')))
          → UndoStopped W (stopped false (undo_from program R n s cs))
      newest cs live none-sits on = (by-abort, omega arith)
      newest cs live (sits-in-undo {c = c} {r = r} k g) on = after c r (undo_step program R c r s) k g live refl (step-stops R s c r k live) on

  -- ---- K has struck in a state of a run
  all-sit : {cs : List Call} → Sitting W m fits cs → All (Sits W m fits) cs
  all-sit (sitting h g) = h also g

  module _ (R : Rooms) (main : ℕ) (below : main < length m.routines) (first : State) (reached : Reached program R main first) where
    first-sit : All (Sits W m fits) first.calls
    first-sit = all-sit (reached-sits W m fits R main first below reached)

    struck-sits : SittingUndo (struck program first).calls
    struck-sits = next-sits first-sit (next-list program first.calls)

    pub struck-ends : (n : ℕ) → EndedAt W (undoing program R n (struck program first)) × (7 ≤ (undoing program R n (struck program first)).ending)
    struck-ends n = undo-ends R n (struck program first) struck-sits

  -- a run with K or without
  pub abort-ends : (R : Rooms) (main n : ℕ) (o : Option Abort) → main < length m.routines → EndedAt W (run_abort program R n o (started program main))
  unfolding run_abort aborting
  abort-ends R main n none below = program-ends W m fits R main n below
  abort-ends R main n (some a) below =
      let x = run program R a.at (started program main) in
      chosen (EndedAt W) (ltb n a.at) _ _ (program-ends W m fits R main n below)
      (chosen_by (EndedAt W) (eqb x.ending 5) _ _
      (λ t. (struck-ends R main below x.state (run-reaches program R main a.at _ at-start (eqb-true x.ending 5 t)) a.undo).0)
      (λ t. program-ends W m fits R main a.at below))

  -- ---- what may be said of aborts
  pub undoable-at : (k : ℕ) → All (λ s. Undoable s.does) (undo_steps_of W m k)
  unfolding undo_steps_of
  undoable-at k = among-routines m.routines k fits.codes

  pub own-not-undo : (c : Call) → Sits W m fits c → Among (next_step program c) (own_steps_of W m c.routine) × ¬ Among (next_step program c) (undo c)
  own-not-undo c h =
      let own = next-among W m fits c h in
      (own, λ u. (code-at W m fits c.routine h.routine).apart _ (among-known own) (among-known u))

  pub never-in-undo : (R : Rooms) (main : ℕ) (s : State) → main < length m.routines → Reached program R main s
      → All (λ c. Among (next_step program c) (own_steps_of W m c.routine) × ¬ Among (next_step program c) (undo c)) s.calls
  never-in-undo R main s below h = all_map own-not-undo (all-sit (reached-sits W m fits R main s below h))

  -- the live calls
  still-next : {was r after : List Call} (gone : List Call) → was ≡ gone ++ r → NextList program r after → StillLive was after
  still-next gone e (no_more a) = none_left
  still-next gone e (begins-list dropped d callers list q a h) =
      one_left (gone ++ dropped) d (go_to list d) callers (e ∙ ap (gone ++◌) q ∙ sym (append_assoc gone dropped (d ∷ callers))) refl refl refl

  still_after : {was : List Call} (c : Call) (r : List Call) {after : List Call} → StillLive was (c ∷ r) → UndoCalls program c r after → StillLive was after
  still_after c r (one_left gone d _ _ e i f o) (stays-in-list k g) = rw g.live (one_left gone d g.newest r e (g.routine ∙ i) (g.failed ∙ f) (g.result ∙ o))
  still_after c r (one_left gone d _ _ e i f o) (leaves-list n) = still-next (gone ++ (d ∷ [])) (e ∙ sym (append_assoc gone (d ∷ []) r)) n

  module _ (R : Rooms) (main : ℕ) (below : main < length m.routines) (first s : State) (reached : Reached program R main first) (way : UndoLeads program R (struck program first) s) where
    since : Since (struck program first) s
    since = leads-sit R (struck program first) s (struck-sits R main below first reached) way

    sits-at : (c : Call) (r : List Call) → s.calls ≡ c ∷ r → SitsUndo c
    sits-at c r live = newest (rw live at since.sits)
      where
        newest : SittingUndo (c ∷ r) → SitsUndo c
        newest (sits-in-undo h g) = h

    pub newest-in-undo : (c : Call) (r : List Call) → s.calls ≡ c ∷ r → Among (next_step program c) (undo c)
    newest-in-undo c r live = next-is (λ x. Among x (undo c)) c (sits-at c r live) (each-among (undo c))

    pub step-on-calls : (s' : State) (c : Call) (r : List Call) → s.calls ≡ c ∷ r → undo_step program R c r s ≡ goes_on s' → UndoCalls program c r s'.calls
    step-on-calls s' c r live e = step-calls R s s' c r (sits-at c r live) live e

    pub never-twice : (s' s'' : State) (c : Call) (r : List Call) → s.calls ≡ c ∷ r → undo_step program R c r s ≡ goes_on s' → NextList program r s'.calls → UndoLeads program R s' s''
        → length s''.calls < length (c ∷ r)
    never-twice s' s'' c r live e n later =
        let sits : SittingUndo s'.calls = (leads-sit R (struck program first) s' (struck-sits R main below first reached) (undo-step c r way live e)).sits in
        omega (arith, next-shorter program r n, (leads-sit R s' s'' sits later).fewer)

    pub dropped-run-none : (taken : State) (n : ℕ) → Leads program R (λ x. Unit) taken first → length taken.calls ≤ n → n < length s.calls → BegunSince program R n taken first
    unfolding NeverLiveAgain
    dropped-run-none taken n leads low high =
        never-live-again program R n taken first leads low (omega (arith, since.fewer, next-shorter program first.calls (next-list program first.calls)))

  pub only-those-live : (R : Rooms) (main : ℕ) (first s : State) → main < length m.routines → Reached program R main first → UndoLeads program R (struck program first) s → StillLive first.calls s.calls
  only-those-live R main first s below reached no_step = still-next [] refl (next-list program first.calls)
  only-those-live R main first s below reached (undo-step {s₁ = s₁} {s₂ = s₂} c r way live e) =
      still_after c r (rw live at (only-those-live R main first s₁ below reached way)) (step-on-calls R main below first s₁ reached way s₂ c r live e)

  pub spent-in-undo : (R : Rooms) (main : ℕ) (first : State) (u : ℕ) → main < length m.routines → Reached program R main first → (undoing program R u (struck program first)).ending ≡ 10
      → StandsInUndo W m program (undoing program R u (struck program first))
  spent-in-undo R main first u below reached e = by-case (how-it-ends program R u (struck program first))
    where
      by-case : Undid program (undoing program R u (struck program first)) → StandsInUndo W m program (undoing program R u (struck program first))
      by-case (to-its-end q l) = absurd (omega arith)
      by-case (spent-at c r q l p) =
          record { newest = c; callers = r; live = l; place = p; in-undo = newest-in-undo R main below first _ reached (ends_so program R u (struck program first)) c r l }
      by-case (lacked h) = absurd (omega arith)
