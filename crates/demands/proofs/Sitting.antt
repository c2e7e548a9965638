-- In every state of a run of an accepted module each live call sits at a step of its routine's body or ERROR list; so a run ends at a word of the sort that the paper's table says.
use mathlib.Core.Path.{◌≡◌, refl, sym, ap, ◌∙◌}
use mathlib.Core.Bool.{Bool, true, false}
use mathlib.Core.List.{List, [], ◌∷◌, map}
use mathlib.Core.Option.{Option, none, some}
use Prim.Native.Nat.{ℕ, zero, suc, ◌<◌}
use lib.ListN.{length}
use lib.IntN.{ℤ}
use Rattle.laws.proofs.Tests.{apart}
use Rattle.paper.specs.Sorts.{NAME, EXIT, TPREADNUM, TPWRITE}
use Rattle.paper.specs.Words.{Word}
use Rattle.paper.specs.Trees.{Module}
use Rattle.paper.specs.Expressions.{starts_statement, starts_simple}
use Rattle.paper.specs.Names.{sort_in}
use Rattle.paper.specs.Steps.{Action, store, call_for, call_of, give_back, raise, hand_on, exit, retry, try_next, write, read, choose, select, test_while, enter_for, repeat_for, end_list, end_undo, Step, Program, program_of}
use Rattle.paper.specs.States.{Location, Call, State, Rooms, Effect, made, failing, handing, ending, lacking, with_calls, with_errno, counted, go_to, set_failed}
use Rattle.paper.specs.Running.{Ended, Outcome, goes_on, stopped, stopping, code_at, step_of, next_step, new_call, resume, takes, caught, returning, ending_list, perform, arising, settled, take_step, next_place, run, started}
use Rattle.paper.specs.Undoing.{aborted}
use Rattle.raised.proofs.Choices.{chosen}
use Rattle.demands.proofs.Alls.{first_of, rest_of, back-of, one-among, all_map}
use Rattle.demands.proofs.Tables.{Starts, StandsAt, CallsIn, Fits, Known, known-first, CodeFits, ModuleFits, code-at}
use Rattle.demands.proofs.Performed.{Performed, makes, fails-with, ends, lacks, performed, OwnEnding, returned, exited, unreturned, undo-ended, Callee, of_function, of-procedure, Writes, by-write, by_read, Lacking, no-depth, no-input, no_room}
use Rattle.demands.proofs.Performed as steps
use Rattle.demands.proofs.Calls.{calls-after, all-bare, from, step_from}
use Rattle.demands.proofs.Growing.{run-goes, run-stops}
use Rattle.demands.specs.Vocabulary.{All, nothing, ◌also◌, Among, here, there, bare, CallsRoutine, for-result, for-nothing, Taken, CallsAfter, goes-on, begins, returns, retries, tries-next, fails, hands-on, Closes, Reached, at-start, by-step}
use Rattle.demands.specs.Vocabulary.{WritesLine, by-tpwrite, by-tpreadnum, Next, a-statement, the_end, NextUndo, undo-statement, undo-end, EndsWith, at_exit, at-statement, at-list-end, at_next, at-callee, at_read, at-line}
use Rattle.demands.specs.Aborts.{own_steps_of, undo_steps_of, Undoable}

-- The step a calls a routine below n.
calls-below : (W : List Word) (undo function : Bool) (n : ℕ) (N : ℕ → Type 0) (k : ℕ) (a : Action) → CallsRoutine k a → CallsIn W undo function n N a → k < n
calls-below W u f n N k a (for-result t callee es) h = h
calls-below W u f n N k a (for-nothing callee es) h = h

-- Each step of a list is one of its steps, and its name is known there.
pub each-among : (l : List Step) → All (λ s. Among s l) l
each-among [] = nothing
each-among (s ∷ l) = here also all_map (λ x m. there m) (each-among l)

pub among-known : {s : Step} {l : List Step} → Among s l → Known l s.name
among-known here = here
among-known (there m) = there (among-known m)

module _ (W : List Word) (m : Module) (fits : ModuleFits W m) where
  abbrev pub P : Program
  P = program_of W m

  abbrev count : ℕ
  count = length m.routines

  -- the steps of a call's body and ERROR list, and of its UNDO list
  abbrev own : Call → List Step
  own c = own_steps_of W m c.routine

  abbrev undo : Call → List Step
  undo c = undo_steps_of W m c.routine

  abbrev is_function : Call → Bool
  is_function c = (code_at P c.routine).function

  pub record Sits (c : Call) : Type 0 where
    pub routine : c.routine < count
    pub next : Known (own c) c.next
    pub failed : (f : ℕ) → c.failed ≡ some f → Known (own c) f

  code : (c : Call) → c.routine < count → CodeFits W count (own c) (undo c) (code_at P c.routine)
  code c h = code-at W m fits c.routine h

  -- a step of these, by its name
  step_is : (Q : Step → Type 0) (c : Call) (i : ℕ) → c.routine < count → All Q (own c) → Known (own c) i → Q (step_of P c i)
  unfolding step_of
  step_is Q c i h a k = rw (code c h).table (known-first Q (own c) (undo c) i a k)

  step_fits : (c : Call) (i : ℕ) → Sits c → Known (own c) i → Fits W false (is_function c) count (Known (own c)) (step_of P c i)
  step_fits c i h k = step_is _ c i h.routine (code c h.routine).own-fit k

  next_fits : (c : Call) → Sits c → Fits W false (is_function c) count (Known (own c)) (next_step P c)
  unfolding next_step
  next_fits c h = step_fits c c.next h h.next

  pub next-among : (c : Call) → Sits c → Among (next_step P c) (own c)
  unfolding next_step
  next-among c h = step_is (λ s. Among s (own c)) c c.next h.routine (each-among (own c)) h.next

  sits-at : (c d : Call) → d.routine ≡ c.routine → d.failed ≡ c.failed → Known (own c) d.next → Sits c → Sits d
  sits-at c d e k i h =
      record { routine = rw e h.routine; next = rw e i; failed = λ f q. rw e (h.failed f (sym k ∙ q)) }

  sits-bare : (c d : Call) → bare c ≡ bare d → Sits c → Sits d
  sits-bare c d e h =
      sits-at c d (ap (λ x. x.routine) (sym e)) (ap (λ x. x.failed) (sym e)) (rw (ap (λ x. x.next) e) at h.next) h

  -- out of its ERROR list, at a step of its table
  sits-out : (c : Call) (i : ℕ) → Known (own c) i → Sits c → Sits (go_to i (set_failed none c))
  sits-out c i k h = record { routine = h.routine; next = k; failed = λ f q. apart (cc) }

  -- a new call, and one that begins its ERROR list
  sits-new : (k : ℕ) (args : List ℤ) (result : Option Location) → k < count → Sits (new_call P k args result)
  unfolding new_call
  sits-new k args result h = record { routine = h; next = (code-at W m fits k h).start; failed = λ f q. apart (cc) }

  sits-taking : (c : Call) (list : ℕ) → (code_at P c.routine).handler ≡ some list → Sits c → Sits (takes list c)
  unfolding takes
  sits-taking c list e h =
      record { routine = h.routine; next = (code c h.routine).handler list e; failed = λ f q. let x : c.next ≡ f = cc in rw x at h.next }

  pub data Sitting : List Call → Type 0 where
    sitting : {c : Call} {r : List Call} → Sits c → All Sits r → Sitting (c ∷ r)

  sitting-bare : (a b : List Call) → map bare a ≡ map bare b → Sitting a → Sitting b
  sitting-bare a b e (sitting {c = c} {r = r} h g) = by-other b e
    where
      by-other : (b : List Call) → map bare (c ∷ r) ≡ map bare b → Sitting b
      by-other [] q = apart (cc)
      by-other (d ∷ s) q = let x : bare c ≡ bare d = cc in let y : map bare r ≡ map bare s = cc in sitting (sits-bare c d x h) (all-bare Sits sits-bare r s y g)

  sitting-taken : (cs after : List Call) → All Sits cs → Taken P cs after → Sitting after
  sitting-taken cs after h t =
      let g : All Sits (t.taker ∷ t.callers) = back-of t.dropped _ (rw t.found at h) in
      rw t.left (sitting (sits-taking t.taker t.list t.has-list (first_of g)) (rest_of g))

  sitting-after : (c : Call) (r after : List Call) → Sits c → All Sits r → CallsAfter P c r (next_step P c).after (next_step P c).does after → Sitting after
  unfolding resume
  sitting-after c r after h g (goes-on o) =
      let f = next_fits c h in
      rw o.live
      (sitting
      (sits-at c o.newest o.routine o.failed (one-among (Known (own c)) (h.next also f.after also f.ways) o.goes_to) h)
      g)
  sitting-after c r after h g (begins k args result st l) =
      let below = calls-below W false (is_function c) count (Known (own c)) k _ st (next_fits c h).calls in
      rw l (sitting (sits-new k args result below) (h also g))
  sitting-after c r after h g (returns d older q l b) =
      let o : All Sits (d ∷ older) = rw l at g in
      let s : Sits d = first_of o in
      sitting-bare (resume P d ∷ older) after (sym b) (sitting (sits-at d (resume P d) refl refl (next_fits d s).after s) (rest_of o))
  sitting-after c r after h g (retries f d k l) = rw l (sitting (sits-out c f (h.failed f k) h) g)
  sitting-after c r after h g (tries-next f d k l) = rw l (sitting (sits-out c _ (step_fits c f h (h.failed f k)).after h) g)
  sitting-after c r after h g (fails t) = sitting-taken (c ∷ r) after (h also g) t
  sitting-after c r after h g (hands-on d t) = sitting-taken r after g t

-- ---- where a run ends
-- A run has ended: main has returned, or it is at a word of the table's sort.
pub data EndedAt (W : List Word) : Ended → Type 0 where
  by-returning : {place : ℕ} {s : State} → EndedAt W (record { ending = 1; place = place; state = s })
  by-abort : {s : State} → EndedAt W (aborted s)
  at-word : {n place : ℕ} {s : State} → EndsWith n (sort_in W place) → EndedAt W (record { ending = n; place = place; state = s })

abbrev Stopped : List Word → Outcome → Type 0
Stopped W (goes_on s) = Unit
Stopped W (stopped b x) = EndedAt W x

-- A step stands at a statement, or is the end of a list.
pub data AtStatement (W : List Word) (i : ℕ) (a : Action) : Type 0 where
  starts : Starts W i → AtStatement W i a
  closes : (function : Bool) → a ≡ end_list → Closes (sort_in W i) function → AtStatement W i a

module _ (W : List Word) (function : Bool) (i : ℕ) where
  by-sort : (sort : ℕ) (a : Action) → sort_in W i ≡ sort → starts_statement sort ≡ true → AtStatement W i a
  by-sort sort a e h = starts (ap starts_statement e ∙ h)

  at-statement-or-end : (a : Action) → StandsAt W false function i a → AtStatement W i a
  unfolding starts_statement starts_simple
  at-statement-or-end (store t e) h = starts h
  at-statement-or-end (call_for t callee k es) h = starts h.0
  at-statement-or-end (call_of callee k es) h = starts h.0
  at-statement-or-end (give_back e) h = starts h
  at-statement-or-end (raise e) h = starts h
  at-statement-or-end hand_on h = starts h
  at-statement-or-end exit h = by-sort EXIT exit h refl
  at-statement-or-end retry h = starts h
  at-statement-or-end try_next h = starts h
  at-statement-or-end (write text e) h = by-sort TPWRITE (write text e) h refl
  at-statement-or-end (read t text) h = by-sort TPREADNUM (read t text) h refl
  at-statement-or-end (choose arms otherwise) h = starts h
  at-statement-or-end (select e cs otherwise) h = starts h
  at-statement-or-end (test_while e body) h = starts h
  at-statement-or-end (enter_for k from to d body) h = starts h
  at-statement-or-end (repeat_for k body) h = starts h
  at-statement-or-end end_list h = closes function refl h
  at-statement-or-end end_undo h = absurd h

  pub at-undo-or-end : (a : Action) → StandsAt W true function i a → Undoable a → NextUndo (sort_in W i)
  unfolding starts_statement starts_simple
  at-undo-or-end (store t e) h u = undo-statement h
  at-undo-or-end (call_for t callee k es) h u = absurd u
  at-undo-or-end (call_of callee k es) h u = absurd u
  at-undo-or-end (give_back e) h u = absurd u
  at-undo-or-end (raise e) h u = absurd u
  at-undo-or-end hand_on h u = absurd u
  at-undo-or-end exit h u = absurd u
  at-undo-or-end retry h u = absurd u
  at-undo-or-end try_next h u = absurd u
  at-undo-or-end (write text e) h u = undo-statement (ap starts_statement h)
  at-undo-or-end (read t text) h u = undo-statement (ap starts_statement h)
  at-undo-or-end (choose arms otherwise) h u = undo-statement h
  at-undo-or-end (select e cs otherwise) h u = undo-statement h
  at-undo-or-end (test_while e body) h u = undo-statement h
  at-undo-or-end (enter_for k from to d body) h u = undo-statement h
  at-undo-or-end (repeat_for k body) h u = undo-statement h
  at-undo-or-end end_list h u = absurd u
  at-undo-or-end end_undo h u = undo-end function h

  next_word : (a : Action) → StandsAt W false function i a → Next (sort_in W i)
  next_word a h = by-case (at-statement-or-end a h)
    where
      by-case : AtStatement W i a → Next (sort_in W i)
      by-case (starts k) = a-statement k
      by-case (closes f e k) = the_end f k

module _ (W : List Word) (undo function : Bool) (i : ℕ) where
  callee-name : (callee : ℕ) (a : Action) → Callee callee a → StandsAt W undo function i a → sort_in W callee ≡ NAME
  callee-name callee a (of_function t k es) h = h.1
  callee-name callee a (of-procedure k es) h = h.1

  line_word : (a : Action) → Writes a → StandsAt W undo function i a → WritesLine (sort_in W i)
  line_word a (by-write text e) h = by-tpwrite h
  line_word a (by_read t text) h = by-tpreadnum h

  pub lacking-word : (a : Action) (n at' : ℕ) → Lacking a i n at' → StandsAt W undo function i a → EndsWith n (sort_in W at')
  lacking-word a n at' (no-depth callee k) h = at-callee (callee-name callee a k h)
  lacking-word a n at' (no-input t text e) h = at_read (rw e at h)
  lacking-word a n at' (no_room w) h = at-line (line_word a w h)

-- The end of a list raises no error.
abbrev NoError : Effect → Type 0
NoError (made s) = Unit
NoError (failing e s) = ⊥
NoError (handing s) = Unit
NoError (ending n s) = Unit
NoError (lacking n at') = Unit

list-end-fails : (P : Program) (c : Call) (r : List Call) (s : State) → NoError (ending_list P c r s)
unfolding ending_list returning
list-end-fails P c r s = chosen NoError (code_at P c.routine).function _ _ tt (returns-well r)
  where
    returns-well : (cs : List Call) → NoError (returning P c cs none s)
    returns-well [] = tt
    returns-well (d ∷ cs) = tt

no-error : (P : Program) (R : Rooms) (c : Call) (r : List Call) (place onward : ℕ) (a : Action) (s : State) → a ≡ end_list → NoError (perform P R c r place onward a s)
unfolding perform
no-error P R c r place onward a s e = rw e (list-end-fails P c r s)

module _ (W : List Word) (P : Program) (R : Rooms) where
  -- an error that no routine takes
  arising-stops : (e place : ℕ) (cs : List Call) (s : State) → Starts W place → Stopped W (arising P e place cs s)
  unfolding arising
  arising-stops e place cs s h = taken (caught P cs)
    where
      taken : (o : Option (List Call)) → Stopped W (elim o [ none ↦ stopping true 3 place (with_errno e s) | some cs' ↦ goes_on (with_calls cs' (with_errno e s)) ])
      taken none = at-word (at-statement h)
      taken (some cs') = tt

  failing-starts : (function : Bool) (place : ℕ) (a : Action) → StandsAt W false function place a → (a ≡ end_list → ⊥) → Starts W place
  failing-starts function place a h f = by-case (at-statement-or-end W function place a h)
    where
      by-case : AtStatement W place a → Starts W place
      by-case (starts k) = k
      by-case (closes g e k) = absurd (f e)

  own-stops : (function : Bool) (a : Action) (n place : ℕ) (s : State) → OwnEnding function a n → StandsAt W false function place a → Stopped W (stopping true n place s)
  own-stops f a n place s returned h = by-returning
  own-stops f a n place s (exited e) h = at-word (at_exit (rw e at h))
  own-stops f a n place s (undo-ended e) h = absurd (rw e at h)
  own-stops f a n place s (unreturned t e) h = at-word (at-list-end (rw (t, e) at h))

  settled-stops : (c : Call) (r : List Call) (place onward : ℕ) (a : Action) (s : State) (e : Effect) → StandsAt W false (code_at P c.routine).function place a → (a ≡ end_list → NoError e)
      → Performed P R c r place onward a s e → Stopped W (settled P place r s e)
  unfolding settled
  settled-stops c r place onward a s e h f (makes k l) = tt
  settled-stops c r place onward a s e h f (fails-with {s' = s'} n k l g) = arising-stops n place s'.calls (counted s') (failing-starts _ place a h f)
  settled-stops c r place onward a s e h f (steps.hands-on k) = arising-stops s.errno place r (counted s) (rw k at h)
  settled-stops c r place onward a s e h f (ends n k) = own-stops _ a n place (counted s) k h
  settled-stops c r place onward a s e h f (lacks n at' k) = at-word (lacking-word W false _ place a n at' k h)

-- ---- a run
module _ (W : List Word) (m : Module) (fits : ModuleFits W m) (R : Rooms) where
  abbrev Sitting-in : List Call → Type 0
  Sitting-in cs = Sitting W m fits cs

  abbrev program : Program
  program = program_of W m

  step-stops : (s : State) → Sitting-in s.calls → Stopped W (take_step program R s)
  step-stops s h = newest s.calls refl h
    where
      newest : (cs : List Call) → s.calls ≡ cs → Sitting-in cs → Stopped W (take_step program R s)
      newest cs live (sitting {c = c} {r = r} k g) =
          rw (step_from program R s (c ∷ r) live)
          (settled-stops W program R c r _ _ _ s _ (next_fits W m fits c k).stands (λ e. no-error program R c r _ _ _ s e) (performed program R c r _ _ _ s live))

  step-sits : (s s' : State) → Sitting-in s.calls → take_step program R s ≡ goes_on s' → Sitting-in s'.calls
  step-sits s s' h e = newest s.calls refl h
    where
      newest : (cs : List Call) → s.calls ≡ cs → Sitting-in cs → Sitting-in s'.calls
      newest cs live (sitting {c = c} {r = r} k g) = sitting-after W m fits c r s'.calls k g (calls-after program R s s' c r live e)

  spent : (s : State) → Sitting-in s.calls → EndedAt W (record { ending = 5; place = next_place program s; state = s })
  unfolding next_place
  spent s h = at-word (at_next (newest s.calls h))
    where
      newest : (cs : List Call) → Sitting-in cs → Next (sort_in W (elim cs [ [] ↦ 0 | c ∷ r ↦ (next_step program c).place ]))
      newest cs (sitting {c = c} {r = r} k g) = next_word W _ (next_step program c).place (next_step program c).does (next_fits W m fits c k).stands

  run_ends : (n : ℕ) (s : State) → Sitting-in s.calls → EndedAt W (run program R n s)
  unfolding run
  run_ends zero s h = spent s h
  run_ends (suc n) s h = after (take_step program R s) refl (step-stops s h) (λ s' k. run_ends n s' k)
    where
      after : (o : Outcome) → take_step program R s ≡ o → Stopped W o → ((s' : State) → Sitting-in s'.calls → EndedAt W (run program R n s')) → EndedAt W (run program R (suc n) s)
      after (goes_on s') e k on = rw (run-goes program R n s s' e) (on s' (step-sits s s' h e))
      after (stopped b x) e k on = rw (run-stops program R n s b x e) k

  start-sits : (main : ℕ) → main < length m.routines → Sitting-in (started program main).calls
  unfolding started
  start-sits main h = sitting (sits-new W m fits main [] none h) nothing

  pub reached-sits : (main : ℕ) (s : State) → main < length m.routines → Reached program R main s → Sitting-in s.calls
  reached-sits main s h at-start = start-sits main h
  reached-sits main s h (by-step {s = s₁} {s' = s₂} r e) = step-sits s₁ s₂ (reached-sits main s₁ h r) e

  pub program-ends : (main n : ℕ) → main < length m.routines → EndedAt W (run program R n (started program main))
  program-ends main n h = run_ends n _ (start-sits main h)
