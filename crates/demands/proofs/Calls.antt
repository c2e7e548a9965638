-- The lesson on errors: what a step does to the live calls, and what holds of them in every state of a run.
use mathlib.Core.Path.{◌≡◌, refl, sym, ap, ◌∙◌}
use mathlib.Core.Bool.{true, false}
use mathlib.Core.List.{List, [], ◌∷◌, ◌++◌, map}
use mathlib.Core.Option.{Option, none, some}
use Prim.Native.Nat.{ℕ, suc, ◌+◌, ◌≤◌, ◌<◌}
use native.Mathlib.Omega.{arith}
use lib.ListN.{length, length-map, length-append}
use Rattle.laws.proofs.Tests.{apart, by_less}
use Rattle.paper.specs.Steps.{Action, retry, try_next, Program}
use Rattle.paper.specs.States.{Call, State, Rooms, Effect, made, failing, with_calls, with_errno, counted, go_to, set_failed, on_top}
use Rattle.paper.specs.Running.{Outcome, goes_on, stopped, stopping, code_at, step_of, next_step, new_call, resume, takes, caught, retrying, trying_next, perform, arising, settled, take_step, started}
use Rattle.demands.proofs.Performed.{after-made, Performed, makes, fails-with, ends, lacks, performed}
use Rattle.demands.proofs.Performed as steps
use Rattle.demands.proofs.Alls.{first_of, rest_of, back-of}
use Rattle.demands.specs.Vocabulary.{All, nothing, ◌also◌, bare, effect_of, Waits, Taken, CallsAfter, goes-on, begins, returns, retries, tries-next, fails, hands-on, Reached, at-start, by-step, Leads, at_once, and_then}
use Rattle.demands.specs.Demands.{Begun, Lesson, BegunSince, NeverLiveAgain}

-- ---- one step
-- A property of the calls that are live where the run goes on.
abbrev GoingOn : (List Call → Type 0) → Outcome → Type 0
GoingOn Q (goes_on s) = Q s.calls
GoingOn Q (stopped b e) = Unit

module _ (P : Program) where
  caught-taken : (cs after : List Call) → caught P cs ≡ some after → Taken P cs after
  unfolding caught
  caught-taken [] after e = apart (cc)
  caught-taken (c ∷ r) after e = by-list (code_at P c.routine).handler refl e (caught-taken r after)
    where
      further : Taken P r after → (code_at P c.routine).handler ≡ none → Taken P (c ∷ r) after
      further t n =
          record {
            dropped = c ∷ t.dropped;
            taker = t.taker;
            callers = t.callers;
            list = t.list;
            found = ap (c ∷◌) t.found;
            nearest = n also t.nearest;
            has-list = t.has-list;
            not-in-it = t.not-in-it;
            left = t.left;
          }

      by-failed : (h : ℕ) (f : Option ℕ) → (code_at P c.routine).handler ≡ some h → c.failed ≡ f
          → elim f [ none ↦ some (takes h c ∷ r) | some n ↦ none ] ≡ some after → Taken P (c ∷ r) after
      by-failed h none k n g =
          record { dropped = []; taker = c; callers = r; list = h; found = refl; nearest = nothing; has-list = k; not-in-it = n; left = cc }
      by-failed h (some f) k n g = apart (cc)

      by-list : (h : Option ℕ) → (code_at P c.routine).handler ≡ h
          → elim h [ none ↦ caught P r | some n ↦ elim c.failed [ none ↦ some (takes n c ∷ r) | some f ↦ none ] ] ≡ some after
          → (caught P r ≡ some after → Taken P r after) → Taken P (c ∷ r) after
      by-list none k g on = further (on g) k
      by-list (some h) k g on = by-failed h c.failed k refl g

  -- Who takes an error is one of the calls, and the newest then.
  shorter : (cs : List Call) {after : List Call} → Taken P cs after → length cs < length after → ⊥
  shorter cs {after} t h =
      let l : length after ≡ suc (length t.callers) = ap length t.left in
      let k : length cs ≡ length t.dropped + suc (length t.callers) = ap length t.found ∙ length-append t.dropped (t.taker ∷ t.callers) in
      omega arith

  left-arising : (Q : List Call → Type 0) (e place : ℕ) (cs : List Call) (s : State) → ((after : List Call) → Taken P cs after → Q after) → GoingOn Q (arising P e place cs s)
  unfolding arising
  left-arising Q e place cs s f = taken (caught P cs) refl
    where
      taken : (o : Option (List Call)) → caught P cs ≡ o → GoingOn Q (elim o [ none ↦ stopping true 3 place (with_errno e s) | some after ↦ goes_on (with_calls after (with_errno e s)) ])
      taken none k = tt
      taken (some after) k = f after (caught-taken cs after k)

  left-settled : (R : Rooms) (c : Call) (r : List Call) (a : Action) (place onward : ℕ) (s : State) (e : Effect) → s.calls ≡ c ∷ r → Performed P R c r place onward a s e
      → GoingOn (CallsAfter P c r onward a) (settled P place r s e)
  unfolding settled
  left-settled R c r a place onward s e live (makes h k) = after-made k
  left-settled R c r a place onward s e live (fails-with {s' = s'} n k same h) =
      left-arising (CallsAfter P c r onward a) n place s'.calls (counted s') (λ after t. fails (rw (same ∙ live) at t))
  left-settled R c r a place onward s e live (steps.hands-on k) = left-arising (CallsAfter P c r onward a) s.errno place r (counted s) (λ after t. hands-on k t)
  left-settled R c r a place onward s e live (ends n k) = tt
  left-settled R c r a place onward s e live (lacks n at' k) = tt

  -- The step that is taken is the next one of the newest call.
  abbrev pub from : Rooms → State → List Call → Outcome
  from R s cs = elim cs [ [] ↦ stopping false 1 0 s | c ∷ r ↦ settled P (next_step P c).place r s (effect_of P R c r s) ]

  pub step_from : (R : Rooms) (s : State) (cs : List Call) → s.calls ≡ cs → take_step P R s ≡ from R s cs
  unfolding take_step
  step_from R s cs e = ap (from R s) e

  pub calls-after : (R : Rooms) (s s' : State) (c : Call) (r : List Call) → s.calls ≡ c ∷ r → take_step P R s ≡ goes_on s' → CallsAfter P c r (next_step P c).after (next_step P c).does s'.calls
  calls-after R s s' c r live e =
      let q : settled P (next_step P c).place r s (effect_of P R c r s) ≡ goes_on s' = sym (step_from R s (c ∷ r) live) ∙ e in
      rw q at (left-settled R c r (next_step P c).does (next_step P c).place (next_step P c).after s (effect_of P R c r s) live (performed P R c r _ _ _ s live))

  -- ---- an error that arises in the newest call
  failing-calls : (R : Rooms) (c : Call) (r : List Call) (place onward : ℕ) (a : Action) (s s₁ : State) (n : ℕ) (e : Effect) → Performed P R c r place onward a s e → e ≡ failing n s₁ → s₁.calls ≡ s.calls
  failing-calls R c r place onward a s s₁ n e (makes h k) q = apart (cc)
  failing-calls R c r place onward a s s₁ n e (fails-with {s' = s'} m k same h) q =
      let z : s' ≡ s₁ = cc in
      sym (ap (λ x. x.calls) z) ∙ same
  failing-calls R c r place onward a s s₁ n e (steps.hands-on k) q = apart (cc)
  failing-calls R c r place onward a s s₁ n e (ends m k) q = apart (cc)
  failing-calls R c r place onward a s s₁ n e (lacks m at' k) q = apart (cc)

  module _ (R : Rooms) (s : State) (c : Call) (r : List Call) (live : s.calls ≡ c ∷ r) where
    step-fails : (e : ℕ) (s₁ : State) → effect_of P R c r s ≡ failing e s₁ → take_step P R s ≡ arising P e (next_step P c).place (c ∷ r) (counted s₁)
    unfolding settled
    step-fails e s₁ q =
        let same : s₁.calls ≡ c ∷ r = failing-calls R c r _ _ _ s s₁ e _ (performed P R c r _ _ _ s live) q ∙ live in
        step_from R s (c ∷ r) live ∙ ap (settled P (next_step P c).place r s) q ∙ ap (λ cs. arising P e (next_step P c).place cs (counted s₁)) same

    newer-gone : (e : ℕ) (s₁ s' : State) → effect_of P R c r s ≡ failing e s₁ → take_step P R s ≡ goes_on s' → Taken P (c ∷ r) s'.calls
    newer-gone e s₁ s' q g =
        rw (sym (step-fails e s₁ q) ∙ g) at (left-arising (Taken P (c ∷ r)) e (next_step P c).place (c ∷ r) (counted s₁) (λ after t. t))

    -- ---- RETRY and TRYNEXT
    top-state : (f : Call → Call) → on_top f s ≡ with_calls (f c ∷ r) s
    unfolding on_top
    top-state f = ap (λ cs. elim cs [ [] ↦ s | d ∷ q ↦ with_calls (f d ∷ q) s ]) live

    pub step-made : (a : Action) (s' : State) → (next_step P c).does ≡ a → perform P R c r (next_step P c).place (next_step P c).after a s ≡ made s' → take_step P R s ≡ goes_on (counted s')
    unfolding settled
    step-made a s' d e =
        step_from R s (c ∷ r) live
        ∙ ap (λ x. settled P (next_step P c).place r s (perform P R c r (next_step P c).place (next_step P c).after x s)) d
        ∙ ap (settled P (next_step P c).place r s) e

    retry-begins : (f : ℕ) → (next_step P c).does ≡ retry → c.failed ≡ some f → take_step P R s ≡ goes_on (counted (with_calls (go_to f (set_failed none c) ∷ r) s))
    unfolding perform retrying
    retry-begins f d k =
        step-made retry _ d (ap made (top-state retrying ∙ ap (λ o. with_calls (elim o [ none ↦ c | some n ↦ go_to n (set_failed none c) ] ∷ r) s) k))

    trynext-goes-on : (f : ℕ) → (next_step P c).does ≡ try_next → c.failed ≡ some f
        → take_step P R s ≡ goes_on (counted (with_calls (go_to (step_of P c f).after (set_failed none c) ∷ r) s))
    unfolding perform trying_next
    trynext-goes-on f d k =
        step-made try_next _ d (ap made (top-state (trying_next P) ∙ ap (λ o. with_calls (elim o [ none ↦ c | some n ↦ go_to (step_of P c n).after (set_failed none c) ] ∷ r) s) k))

    -- ---- the calls grow only by a call statement
    never-again : (s' : State) → take_step P R s ≡ goes_on s' → length (c ∷ r) < length s'.calls → Begun P c r s'.calls
    never-again s' e more = by-case (calls-after R s s' c r live e)
      where
        by-case : CallsAfter P c r (next_step P c).after (next_step P c).does s'.calls → Begun P c r s'.calls
        by-case (goes-on g) =
            let l : length s'.calls ≡ suc (length r) = ap length g.live in
            absurd (omega arith)
        by-case (begins k args result st l) = record { routine = k; arguments = args; result = result; statement = st; live = l }
        by-case (returns d older q l b) =
            let k : length (map bare s'.calls) ≡ suc (length (map bare older)) = ap length b in
            let m : length r ≡ suc (length older) = ap length l in
            absurd (omega (arith, length-map s'.calls bare, length-map older bare))
        by-case (retries f d k l) = let m : length s'.calls ≡ suc (length r) = ap length l in absurd (omega arith)
        by-case (tries-next f d k l) = let m : length s'.calls ≡ suc (length r) = ap length l in absurd (omega arith)
        by-case (fails t) = absurd (shorter (c ∷ r) t (omega arith))
        by-case (hands-on d t) = absurd (shorter r t (omega arith))

-- ---- every state of a run
-- A call that is in its ERROR list has one.
abbrev HasList : Program → Call → Type 0
HasList P c = (f : ℕ) → c.failed ≡ some f → (h : ℕ) × ((code_at P c.routine).handler ≡ some h)

abbrev callers_of : List Call → List Call
callers_of [] = []
callers_of (c ∷ r) = r

record Orderly (P : Program) (cs : List Call) : Type 0 where
  waiting : All (Waits P) (callers_of cs)
  lists : All (HasList P) cs

all-callers : (Q : Call → Type 0) (newer : List Call) (c : Call) (r : List Call) → All Q (callers_of (newer ++ (c ∷ r))) → All Q r
all-callers Q [] c r h = h
all-callers Q (x ∷ newer) c r h = rest_of (back-of newer (c ∷ r) h)

-- What does not look at a call's words holds of calls that are alike but for them.
pub all-bare : (Q : Call → Type 0) → ((c d : Call) → bare c ≡ bare d → Q c → Q d) → (a b : List Call) → map bare a ≡ map bare b → All Q a → All Q b
all-bare Q f [] [] e h = nothing
all-bare Q f [] (d ∷ b) e h = apart (cc)
all-bare Q f (c ∷ a) [] e h = apart (cc)
all-bare Q f (c ∷ a) (d ∷ b) e h =
    let x : bare c ≡ bare d = cc in
    let y : map bare a ≡ map bare b = cc in
    f c d x (first_of h) also all-bare Q f a b y (rest_of h)

module _ (P : Program) where
  waits-bare : (c d : Call) → bare c ≡ bare d → Waits P c → Waits P d
  unfolding next_step step_of
  waits-bare c d e w =
      let q : next_step P c ≡ next_step P d = ap (next_step P) e in
      record { routine = w.routine; statement = rw q at w.statement }

  list-like : (c d : Call) → c.routine ≡ d.routine → c.failed ≡ d.failed → HasList P c → HasList P d
  list-like c d e k h f q =
      let (n, g) = h f (k ∙ q) in
      (n, sym (ap (λ x. (code_at P x).handler) e) ∙ g)

  list-bare : (c d : Call) → bare c ≡ bare d → HasList P c → HasList P d
  list-bare c d e h = list-like c d (ap (λ x. x.routine) e) (ap (λ x. x.failed) e) h

  no-list : (c : Call) → c.failed ≡ none → HasList P c
  no-list c e f q = apart (cc)

  orderly-bare : (a b : List Call) → map bare a ≡ map bare b → Orderly P a → Orderly P b
  orderly-bare [] [] e h = h
  orderly-bare [] (d ∷ b) e h = apart (cc)
  orderly-bare (c ∷ a) [] e h = apart (cc)
  orderly-bare (c ∷ a) (d ∷ b) e h =
      let y : map bare a ≡ map bare b = cc in
      record { waiting = all-bare (Waits P) waits-bare a b y h.waiting; lists = all-bare (HasList P) list-bare (c ∷ a) (d ∷ b) e h.lists }

  orderly-taken : (cs after : List Call) → Orderly P cs → Taken P cs after → Orderly P after
  unfolding takes
  orderly-taken cs after h t =
      let w : All (Waits P) (callers_of (t.dropped ++ (t.taker ∷ t.callers))) = rw t.found at h.waiting in
      let l : All (HasList P) (t.dropped ++ (t.taker ∷ t.callers)) = rw t.found at h.lists in
      rw t.left
      (record {
        waiting = all-callers (Waits P) t.dropped t.taker t.callers w;
        lists = (λ f q. (t.list, t.has-list)) also rest_of (back-of t.dropped (t.taker ∷ t.callers) l);
      })

  orderly-callers : (c : Call) (r : List Call) → Orderly P (c ∷ r) → Orderly P r
  orderly-callers c [] h = record { waiting = nothing; lists = nothing }
  orderly-callers c (d ∷ older) h = record { waiting = rest_of h.waiting; lists = rest_of h.lists }

  orderly-after : (c : Call) (r after : List Call) → Orderly P (c ∷ r) → CallsAfter P c r (next_step P c).after (next_step P c).does after → Orderly P after
  unfolding new_call resume
  orderly-after c r after h (goes-on g) =
      rw g.live
      (record {
        waiting = h.waiting;
        lists = list-like c g.newest (sym g.routine) (sym g.failed) (first_of h.lists) also rest_of h.lists;
      })
  orderly-after c r after h (begins k args result st l) =
      rw l (record { waiting = record { routine = k; statement = st } also h.waiting; lists = no-list (new_call P k args result) refl also h.lists })
  orderly-after c r after h (returns d older q l b) =
      let o : Orderly P (d ∷ older) = rw l at (orderly-callers c r h) in
      orderly-bare (resume P d ∷ older) after (sym b) (record { waiting = o.waiting; lists = list-like d (resume P d) refl refl (first_of o.lists) also rest_of o.lists })
  orderly-after c r after h (retries f d k l) = rw l (record { waiting = h.waiting; lists = no-list (go_to f (set_failed none c)) refl also rest_of h.lists })
  orderly-after c r after h (tries-next f d k l) = rw l (record { waiting = h.waiting; lists = no-list (go_to (step_of P c f).after (set_failed none c)) refl also rest_of h.lists })
  orderly-after c r after h (fails t) = orderly-taken (c ∷ r) after h t
  orderly-after c r after h (hands-on d t) = orderly-taken r after (orderly-callers c r h) t

  -- a step that goes on has a newest call, and what was orderly stays so
  orderly-step : (R : Rooms) (s s' : State) → Orderly P s.calls → take_step P R s ≡ goes_on s' → Orderly P s'.calls
  orderly-step R s s' h e = newest s.calls refl
    where
      newest : (cs : List Call) → s.calls ≡ cs → Orderly P s'.calls
      newest [] live = let q : stopping false 1 0 s ≡ goes_on s' = sym (step_from P R s [] live) ∙ e in apart (cc)
      newest (c ∷ r) live = orderly-after c r s'.calls (rw live at h) (calls-after P R s s' c r live e)

  orderly : (R : Rooms) (main : ℕ) (s : State) → Reached P R main s → Orderly P s.calls
  unfolding started new_call
  orderly R main s at-start = record { waiting = nothing; lists = no-list (new_call P main [] none) refl also nothing }
  orderly R main s (by-step {s = s₁} {s' = s₂} h e) = orderly-step R s₁ s₂ (orderly R main s₁ h) e

  not-caught : (c : Call) (r : List Call) (h f : ℕ) → (code_at P c.routine).handler ≡ some h → c.failed ≡ some f → caught P (c ∷ r) ≡ none
  unfolding caught
  not-caught c r h f g k = rw (g, caught) (rw k)

  dies : (R : Rooms) (main : ℕ) (s : State) (c : Call) (r : List Call) → s.calls ≡ c ∷ r → (e f : ℕ) (s₁ : State) → Reached P R main s → c.failed ≡ some f
      → effect_of P R c r s ≡ failing e s₁ → take_step P R s ≡ stopping true 3 (next_step P c).place (with_errno e (counted s₁))
  unfolding arising
  dies R main s c r live e f s₁ reached k q =
      let o : Orderly P (c ∷ r) = rw live at (orderly R main s reached) in
      let (h, g) = first_of o.lists f k in
      step-fails P R s c r live e s₁ q ∙ rw (not-caught c r h f g k, arising)

pub lesson : Lesson
unfolding Lesson
lesson P R main s c r live =
    record {
      step-on-calls = λ s' e. calls-after P R s s' c r live e;
      newer-gone = newer-gone P R s c r live;
      never-again = never-again P R s c r live;
      retry-begins = retry-begins P R s c r live;
      trynext-goes-on = trynext-goes-on P R s c r live;
      callers-wait = λ h. (rw live at (orderly P R main s h)).waiting;
      dies = dies P R main s c r live;
    }

-- ---- over whole runs
-- A step to more than n calls, from no more: it begins a call at depth n + 1.
crosses : (P : Program) (R : Rooms) (n : ℕ) (first s s' : State) → Leads P R (λ x. Unit) first s → take_step P R s ≡ goes_on s' → length s.calls ≤ n → n < length s'.calls
    → BegunSince P R n first s'
crosses P R n first s s' way e low high = newest s.calls refl
  where
    newest : (cs : List Call) → s.calls ≡ cs → BegunSince P R n first s'
    newest [] live = let q : stopping false 1 0 s ≡ goes_on s' = sym (step_from P R s [] live) ∙ e in apart (cc)
    newest (c ∷ r) live =
        let same : length s.calls ≡ length (c ∷ r) = ap length live in
        let b : Begun P c r s'.calls = never-again P R s c r live s' e (omega arith) in
        let one_more : length s'.calls ≡ suc (length (c ∷ r)) = ap length b.live in
        record { before = s; after = s'; newest = c; callers = r; on-the-way = way; live = live; deep = omega arith; step = e; begun = b; since = at_once high }

-- the call has been live a step longer
longer : (P : Program) (R : Rooms) (n : ℕ) (first s s' : State) → take_step P R s ≡ goes_on s' → n < length s'.calls → BegunSince P R n first s → BegunSince P R n first s'
longer P R n first s s' e high b =
    record { before = b.before; after = b.after; newest = b.newest; callers = b.callers; on-the-way = b.on-the-way; live = b.live; deep = b.deep; step = b.step; begun = b.begun; since = and_then b.since e high }

pub never-live-again : NeverLiveAgain
unfolding NeverLiveAgain
never-live-again P R n first last way low high = along last way high
  where
    along : (s : State) → Leads P R (λ x. Unit) first s → n < length s.calls → BegunSince P R n first s
    along s (at_once u) h = absurd (omega arith)
    along s (and_then {s₁ = s₁} {s₂ = s₂} g e u) h =
        by_less n (length s₁.calls) (λ above. longer P R n first s₁ s₂ e h (along s₁ g above)) (λ below. crosses P R n first s₁ s₂ g e below h)
