-- Demand 3 over runs: one induction for runs and one of the same shape for aborts, each with one case a room.
use mathlib.Core.Path.{◌≡◌, refl, sym, ◌∙◌}
use mathlib.Core.Bool.{Bool, true, false}
use mathlib.Core.List.{List, [], ◌∷◌}
use mathlib.Core.Option.{Option, none, some}
use Prim.Native.Nat.{ℕ, zero, suc, ◌≤◌, ◌<◌}
use native.Mathlib.Omega.{arith}
use lib.Dec.{eqb, ltb}
use borrow.Author.Tests.{eqb-true, ne_eqb, ltb-true, ltb-false}
use Rattle.std.specs.Prelude.{if◌then◌else◌}
use Rattle.paper.specs.Steps.{Program}
use Rattle.paper.specs.States.{Call, State, Rooms, Effect, with_calls}
use Rattle.paper.specs.Running.{Ended, Outcome, goes_on, stopped, stopping, settled, take_step, next_step, perform, run}
use Rattle.paper.specs.Undoing.{Abort, dropping, undone, undo_step, aborted, undo_spent, undoing, aborting, run_abort}
use Rattle.raised.proofs.Choices.{chosen, chosen_by}
use Rattle.demands.proofs.Effects.{RoomsAtLeast, SameOrLacks, same, lacked, perform-more}
use Rattle.demands.proofs.Growing.{begins-self, begins-trans, Later, ran, run-goes, run-stops, undo_from, undoing-from, undid}
use Rattle.demands.specs.Vocabulary.{Begins}
use Rattle.demands.specs.Demands.{SameK, without, with-equal, Breaks, lacked-room, lacked-undo-steps}

-- Two outcomes of one step from s: the same, or the first lacked room, was not counted, and left s as it was.
pub data SameOrStops (s : State) (o o' : Outcome) : Type 0 where
  alike : o ≡ o' → SameOrStops s o o'
  stops : (n place : ℕ) → 6 ≤ n → n ≤ 8 → o ≡ stopping false n place s → SameOrStops s o o'

module _ (P : Program) (R R' : Rooms) (more : RoomsAtLeast R R') where
  settled-more : (place : ℕ) (r : List Call) (s : State) (e e' : Effect) → SameOrLacks e e' → SameOrStops s (settled P place r s e) (settled P place r s e')
  unfolding settled
  settled-more place r s e e' (same _) = alike refl
  settled-more place r s e e' (lacked n at' _ l h) = stops n at' l h refl

  -- A step that lacks nothing does the same with more room.
  pub step-more : (s : State) → SameOrStops s (take_step P R s) (take_step P R' s)
  unfolding take_step
  step-more s = newest s.calls
    where
      from : Rooms → List Call → Outcome
      from Q cs = elim cs [ [] ↦ stopping false 1 0 s | c ∷ r ↦ let n = next_step P c in settled P n.place r s (perform P Q c r n.place n.after n.does s) ]

      newest : (cs : List Call) → SameOrStops s (from R cs) (from R' cs)
      newest [] = alike refl
      newest (c ∷ r) = settled-more _ r s _ _ (perform-more R R' more P c r _ _ _ s)

-- The state that a shorter run has left, and that of a longer one.
pub record Precedes (a b : State) : Type 0 where
  pub output : Begins a.output b.output
  pub steps : a.steps ≤ b.steps
  pub used : a.used ≤ b.used

pub precedes-self : (s : State) → Precedes s s
precedes-self s = record { output = begins-self s.output; steps = omega arith; used = omega arith }

precedes-trans : (a b c : State) → Precedes a b → Precedes b c → Precedes a c
precedes-trans a b c h g = record { output = begins-trans _ _ _ h.output g.output; steps = omega (arith, h.steps, g.steps); used = omega (arith, h.used, g.used) }

later-precedes : (R : Rooms) (s : State) (n : ℕ) (s' : State) → Later R s n s' → Precedes s s'
later-precedes R s n s' l = record { output = l.output; steps = omega (arith, l.steps); used = l.used }

-- Two runs from one state, of at most n and at most m steps: they end alike, or the first broke off; for want of steps only where it had fewer.
pub data SameOrBrokeOff (n m : ℕ) (a b : Ended) : Type 0 where
  ended-alike : a ≡ b → SameOrBrokeOff n m a b
  broke-off : 5 ≤ a.ending → a.ending ≤ 8 → (a.ending ≡ 5 → n < m) → Precedes a.state b.state → SameOrBrokeOff n m a b

module _ (P : Program) (R R' : Rooms) (more : RoomsAtLeast R R') where
  pub run_more : (n m : ℕ) (s : State) → n ≤ m → SameOrBrokeOff n m (run P R n s) (run P R' m s)
  unfolding run
  run_more zero zero s h = ended-alike refl
  run_more zero (suc m) s h = broke-off (omega arith) (omega arith) (λ e. omega arith) (later-precedes R' s _ _ (ran P R' (suc m) s).later)
  run_more (suc n) zero s h = absurd (omega arith)
  run_more (suc n) (suc m) s h = first (take_step P R s) refl (step-more P R R' more s) (λ s'. run_more n m s' (omega arith))
    where
      one_more : {a b : Ended} → SameOrBrokeOff n m a b → SameOrBrokeOff (suc n) (suc m) a b
      one_more (ended-alike e) = ended-alike e
      one_more (broke-off low high f p) = broke-off low high (λ e. omega (arith, f e)) p

      first : (o : Outcome) → take_step P R s ≡ o → SameOrStops s (take_step P R s) (take_step P R' s)
          → ((s' : State) → SameOrBrokeOff n m (run P R n s') (run P R' m s')) → SameOrBrokeOff (suc n) (suc m) (run P R (suc n) s) (run P R' (suc m) s)
      first (goes_on s') e (alike k) on = rw (run-goes P R n s s' e, run-goes P R' m s s' (sym k ∙ e)) (one_more (on s'))
      first (stopped b x) e (alike k) on = rw (run-stops P R n s b x e, run-stops P R' m s b x (sym k ∙ e)) (ended-alike refl)
      first o e (stops i place low high k) on =
          rw (run-stops P R n s false _ k) (broke-off (omega arith) (omega arith) (λ q. omega arith) (later-precedes R' s _ _ (ran P R' (suc m) s).later))

-- ---- with K
-- The same of runs with K or without: the first may have broken off for want of UNDO steps too.
pub data SameOrBroke (a b : Ended) : Type 0 where
  same_end : a ≡ b → SameOrBroke a b
  broke : Breaks a.ending → Precedes a.state b.state → SameOrBroke a b

module _ (P : Program) (R R' : Rooms) (more : RoomsAtLeast R R') where
  undone-more : (r : List Call) (s : State) (e e' : Effect) → SameOrLacks e e' → SameOrStops s (undone P r s e) (undone P r s e')
  unfolding undone
  undone-more r s e e' (same _) = alike refl
  undone-more r s e e' (lacked n at' _ l h) = stops n at' l h refl

  undo-step-more : (c : Call) (r : List Call) (s : State) → SameOrStops s (undo_step P R c r s) (undo_step P R' c r s)
  unfolding undo_step
  undo-step-more c r s = undone-more r s _ _ (perform-more R R' more P c r _ _ _ s)

  undo-more : (n m : ℕ) (s : State) → n ≤ m → SameOrBroke (undoing P R n s) (undoing P R' m s)
  unfolding undoing
  undo-more zero m s h = newest s.calls refl m
    where
      newest : (cs : List Call) → s.calls ≡ cs → (m : ℕ) → SameOrBroke (elim cs [ [] ↦ aborted s | c ∷ r ↦ undo_spent (next_step P c).place s ]) (undoing P R' m s)
      newest [] e zero = same_end (rw e)
      newest [] e (suc m) = same_end (rw (undoing-from P R' m s [] e))
      newest (c ∷ r) e m = broke (lacked-undo-steps refl) (later-precedes R' s _ _ (undid P R' m s).later)
  undo-more (suc n) zero s h = absurd (omega arith)
  undo-more (suc n) (suc m) s h = newest s.calls refl (λ s'. undo-more n m s' (omega arith))
    where
      after : (o o' : Outcome) → Precedes s (elim o' as (λ x. Ended) [ goes_on s' ↦ undoing P R' m s' | stopped b x ↦ x ]).state → SameOrStops s o o'
          → ((s' : State) → SameOrBroke (undoing P R n s') (undoing P R' m s'))
          → SameOrBroke (elim o [ goes_on s' ↦ undoing P R n s' | stopped b x ↦ x ]) (elim o' [ goes_on s' ↦ undoing P R' m s' | stopped b x ↦ x ])
      after (goes_on s') o' p (alike k) on = rw (← k) (on s')
      after (stopped b x) o' p (alike k) on = rw (← k) (same_end refl)
      after o o' p (stops i place low high k) on = rw k (broke (lacked-room {n = i} (omega arith) high) p)

      newest : (cs : List Call) → s.calls ≡ cs → ((s' : State) → SameOrBroke (undoing P R n s') (undoing P R' m s')) → SameOrBroke (undo_from P R n s cs) (undo_from P R' m s cs)
      newest [] e on = same_end refl
      newest (c ∷ r) e on =
          let p = later-precedes R' s _ _ (undid P R' (suc m) s).later in
          after (undo_step P R c r s) (undo_step P R' c r s) (rw (undoing-from P R' m s (c ∷ r) e) at p) (undo-step-more c r s) on

  -- an abort only goes on from what was there
  precedes-aborting : (u : ℕ) (z : State) (y : Ended) → Precedes z y.state → Precedes z (aborting P R' u y).state
  unfolding aborting
  precedes-aborting u z y p =
      chosen (λ (x : Ended). Precedes z x.state) (eqb y.ending 5) _ _
      (let s = with_calls (dropping P y.state.calls) y.state in
      let l = (undid P R' u s).later in
      precedes-trans z s _ (record { output = p.output; steps = p.steps; used = p.used }) (later-precedes R' s _ _ l))
      p

  -- the first is not struck, for want of steps
  before-abort : (n k u : ℕ) (x y : Ended) → SameOrBrokeOff n k x y → SameOrBroke x (aborting P R' u y)
  unfolding aborting
  before-abort n k u x y (ended-alike e) =
      rw e (chosen_by (SameOrBroke y) (eqb y.ending 5) _ _
      (λ t. let q : y.ending ≡ 5 = eqb-true y.ending 5 t in
      broke (lacked-room (omega arith) (omega arith)) (rw (t, aborting) at (precedes-aborting u y.state y (precedes-self y.state))))
      (λ t. same_end refl))
  before-abort n k u x y (broke-off low high f p) = broke (lacked-room low high) (precedes-aborting u x.state y p)

  -- both are struck, or none
  both-abort : (k u u' : ℕ) (x y : Ended) → u ≤ u' → SameOrBrokeOff k k x y → SameOrBroke (aborting P R u x) (aborting P R' u' y)
  unfolding aborting
  both-abort k u u' x y h (ended-alike e) =
      rw e (both_by (eqb y.ending 5))
    where
      both_by : (b : Bool) → SameOrBroke (if b then undoing P R u (with_calls (dropping P y.state.calls) y.state) else y) (if b then undoing P R' u' (with_calls (dropping P y.state.calls) y.state) else y)
      both_by true = undo-more u u' _ h
      both_by false = same_end refl
  both-abort k u u' x y h (broke-off low high f p) =
      let not-5 : eqb x.ending 5 ≡ false = ne_eqb x.ending 5 (λ e. omega (arith, f e)) in
      rw (not-5, aborting) (broke (lacked-room low high) (precedes-aborting u' x.state y p))

  run-alike : (n m : ℕ) (x y : Ended) → SameOrBrokeOff n m x y → SameOrBroke x y
  run-alike n m x y (ended-alike e) = same_end e
  run-alike n m x y (broke-off low high f p) = broke (lacked-room low high) p

  pub abort-more : (n m : ℕ) (o o' : Option Abort) (s : State) → n ≤ m → SameK o o' → SameOrBroke (run_abort P R n o s) (run_abort P R' m o' s)
  unfolding run_abort
  abort-more n m none none s h without = run-alike n m _ _ (run_more P R R' more n m s h)
  abort-more n m none (some b) s h x = elim x [ ]
  abort-more n m (some a) none s h x = elim x [ ]
  abort-more n m (some a) (some b) s h (with-equal e g) = by_tests (ltb n a.at) (ltb m b.at) refl refl
    where
      by_tests : (t t' : Bool) → ltb n a.at ≡ t → ltb m b.at ≡ t'
          → SameOrBroke (if t then run P R n s else aborting P R a.undo (run P R a.at s)) (if t' then run P R' m s else aborting P R' b.undo (run P R' b.at s))
      by_tests true true p q = run-alike n m _ _ (run_more P R R' more n m s h)
      by_tests true false p q =
          let low : n ≤ b.at = omega (arith, ltb-true n a.at p, e) in
          before-abort n b.at b.undo _ _ (run_more P R R' more n b.at s low)
      by_tests false true p q = absurd (omega (arith, ltb-false n a.at p, ltb-true m b.at q, e))
      by_tests false false p q = rw e (both-abort b.at a.undo b.undo _ _ g (run_more P R R' more b.at b.at s (omega arith)))
