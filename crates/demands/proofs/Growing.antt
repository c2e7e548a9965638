-- What only grows in a run, and what stays within its bound, from one state to a later one.
use mathlib.Core.Path.{◌≡◌, refl, sym, ap, ◌∙◌}
use mathlib.Core.Bool.{Bool, true, false}
use mathlib.Core.List.{List, [], ◌∷◌, ◌++◌, append-nil, append_assoc}
use mathlib.Core.Option.{Option, none, some}
use Prim.Native.Nat.{ℕ, zero, suc, ◌+◌, ◌≤◌}
use native.Mathlib.Omega.{arith}
use lib.Dec.{eqb, ltb}
use lib.ListN.{length, length-set, length-append}
use borrow.Author.Tests.{ltb-false, eqb-true, eqb-false}
use Rattle.paper.specs.Steps.{Action, Program}
use Rattle.paper.specs.States.{Call, State, Rooms, Effect, ending, with_calls, with_errno, counted}
use Rattle.paper.specs.Running.{Ended, Outcome, goes_on, stopped, stopping, caught, arising, settled, next_step, take_step, run, perform}
use Rattle.paper.specs.Undoing.{Abort, dropping, leaving, undone, undo_step, aborted, undo_spent, undoing, aborting, run_abort}
use Rattle.raised.proofs.Choices.{chosen_by}
use Rattle.demands.proofs.Performed.{Changed, unchanged, with-calls, with-word, with-line, with-input, Performed, makes, fails-with, hands-on, ends, lacks, OwnEnding, returned, exited, unreturned, undo-ended, Lacking, no-depth, no-input, no_room, performed}
use Rattle.demands.specs.Vocabulary.{Begins, Errno, latest}
use Rattle.demands.specs.Aborts.{struck}

-- ---- beginnings
pub begins-self : {A : Type 0} (a : List A) → Begins a a
begins-self a = record { rest = []; whole = append-nil a }

pub begins-on : {A : Type 0} (a b l : List A) → Begins a b → Begins a (b ++ l)
begins-on a b l h = record { rest = h.rest ++ l; whole = sym (append_assoc a h.rest l) ∙ ap (◌++ l) h.whole }

pub begins-trans : {A : Type 0} (a b c : List A) → Begins a b → Begins b c → Begins a c
begins-trans a b c h g = record { rest = h.rest ++ g.rest; whole = sym (append_assoc a h.rest g.rest) ∙ ap (◌++ g.rest) h.whole ∙ g.whole }

-- ---- a later state, n steps on
pub record Later (R : Rooms) (s : State) (n : ℕ) (s' : State) : Type 0 where
  pub steps : s'.steps ≡ s.steps + n
  pub output : Begins s.output s'.output
  pub used : s.used ≤ s'.used
  pub words : length s'.words ≡ length s.words
  pub in-room : length s.output ≤ R.output → length s'.output ≤ R.output
  pub in-inputs : s.used ≤ length R.inputs → s'.used ≤ length R.inputs
  pub errno : Errno s.errno → Errno s'.errno

module _ (R : Rooms) where
  later_same : (s : State) → Later R s 0 s
  later_same s =
      record { steps = omega arith; output = begins-self s.output; used = omega arith; words = refl; in-room = λ h. h; in-inputs = λ h. h; errno = λ h. h }

  pub later_trans : (s s' s'' : State) (m n : ℕ) → Later R s m s' → Later R s' n s'' → Later R s (m + n) s''
  later_trans s s' s'' m n h g =
      record {
        steps = omega arith;
        output = begins-trans _ _ _ h.output g.output;
        used = omega arith;
        words = g.words ∙ h.words;
        in-room = λ k. g.in-room (h.in-room k);
        in-inputs = λ k. g.in-inputs (h.in-inputs k);
        errno = λ k. g.errno (h.errno k);
      }

  -- what changes within a step
  later-changed : (s s' : State) → Changed R s s' → Later R s 0 s'
  later-changed s s' unchanged = later_same s
  later-changed s s' (with-calls c h) = let l = later-changed s _ h in record { steps = l.steps; output = l.output; used = l.used; words = l.words; in-room = l.in-room; in-inputs = l.in-inputs; errno = l.errno }
  later-changed s s' (with-word {s' = s₁} k v h) =
      let l = later-changed s s₁ h in
      record { steps = l.steps; output = l.output; used = l.used; words = length-set s₁.words k v ∙ l.words; in-room = l.in-room; in-inputs = l.in-inputs; errno = l.errno }
  later-changed s s' (with-line {s' = s₁} line fits h) =
      let l = later-changed s s₁ h in
      record {
        steps = l.steps;
        output = begins-on _ _ line l.output;
        used = l.used;
        words = l.words;
        in-room = λ k. rw length-append fits;
        in-inputs = l.in-inputs;
        errno = l.errno;
      }
  later-changed s s' (with-input {s' = s₁} lent h) =
      let l = later-changed s s₁ h in
      let u : s.used ≤ s₁.used = l.used in
      record { steps = l.steps; output = l.output; used = omega arith; words = l.words; in-room = l.in-room; in-inputs = λ k. omega arith; errno = l.errno }

  later-counted : (s s' : State) → Later R s 0 s' → Later R s 1 (counted s')
  later-counted s s' l =
      record { steps = omega arith; output = l.output; used = l.used; words = l.words; in-room = l.in-room; in-inputs = l.in-inputs; errno = l.errno }

  later-errno : (s s' : State) (n e : ℕ) (c : List Call) → (Errno s.errno → Errno e) → Later R s n s' → Later R s n (with_errno e s')
  later-errno s s' n e c k l =
      record { steps = l.steps; output = l.output; used = l.used; words = l.words; in-room = l.in-room; in-inputs = l.in-inputs; errno = k }

  later-calls : (s s' : State) (n : ℕ) (c : List Call) → Later R s n s' → Later R s n (with_calls c s')
  later-calls s s' n c l =
      record { steps = l.steps; output = l.output; used = l.used; words = l.words; in-room = l.in-room; in-inputs = l.in-inputs; errno = l.errno }

-- ---- one step
-- How many steps an outcome counts.
abbrev pub count_of : Bool → ℕ
count_of true = 1
count_of false = 0

-- After a step from s: a later state, and, where the run has ended, an ending of the paper's but 5.
pub data Came (R : Rooms) (s : State) : Outcome → Type 0 where
  goes : {s' : State} → Later R s 1 s' → Came R s (goes_on s')
  stops : {s' : State} (b : Bool) (n place : ℕ) → 1 ≤ n → n ≤ 8 → ¬ (n ≡ 5) → Later R s (count_of b) s' → Came R s (stopping b n place s')

module _ (P : Program) (R : Rooms) where
  came-arising : (e place : ℕ) (cs : List Call) (s s' : State) → (Errno s.errno → Errno e) → Later R s 1 s' → Came R s (arising P e place cs s')
  unfolding arising
  came-arising e place cs s s' k l = taken (caught P cs)
    where
      taken : (o : Option (List Call)) → Came R s (elim o [ none ↦ stopping true 3 place (with_errno e s') | some cs' ↦ goes_on (with_calls cs' (with_errno e s')) ])
      taken none = stops true 3 place (omega arith) (omega arith) (omega arith) (later-errno R s s' 1 e cs k l)
      taken (some cs') = goes (later-calls R s _ 1 cs' (later-errno R s s' 1 e cs k l))

  own-ending : (function : Bool) (a : Action) (s : State) (n place : ℕ) → OwnEnding function a n → Came R s (stopping true n place (counted s))
  own-ending f a s n place returned = stops true 1 place (omega arith) (omega arith) (omega arith) (later-counted R s s (later_same R s))
  own-ending f a s n place (exited e) = stops true 2 place (omega arith) (omega arith) (omega arith) (later-counted R s s (later_same R s))
  own-ending f a s n place (undo-ended e) = stops true 4 place (omega arith) (omega arith) (omega arith) (later-counted R s s (later_same R s))
  own-ending f a s n place (unreturned t e) = stops true 4 place (omega arith) (omega arith) (omega arith) (later-counted R s s (later_same R s))

  lacking-ending : (a : Action) (s : State) (place n at' : ℕ) → Lacking a place n at' → Came R s (stopping false n at' s)
  lacking-ending a s place n at' (no-depth callee k) = stops false 6 callee (omega arith) (omega arith) (omega arith) (later_same R s)
  lacking-ending a s place n at' (no-input t text e) = stops false 7 place (omega arith) (omega arith) (omega arith) (later_same R s)
  lacking-ending a s place n at' (no_room w) = stops false 8 place (omega arith) (omega arith) (omega arith) (later_same R s)

  came-settled : (c : Call) (r : List Call) (a : Action) (place onward : ℕ) (s : State) (e : Effect) → Performed P R c r place onward a s e → Came R s (settled P place r s e)
  unfolding settled
  came-settled c r a place onward s e (makes h k) = goes (later-counted R s _ (later-changed R s _ h))
  came-settled c r a place onward s e (fails-with {s' = s'} n k live h) =
      came-arising n place s'.calls s _ (λ g. latest k) (later-counted R s s' (later-changed R s s' h))
  came-settled c r a place onward s e (hands-on k) = came-arising s.errno place r s _ (λ g. g) (later-counted R s s (later_same R s))
  came-settled c r a place onward s e (ends n k) = own-ending _ a s n place k
  came-settled c r a place onward s e (lacks n at' k) = lacking-ending a s place n at' k

  pub came : (s : State) → Came R s (take_step P R s)
  unfolding take_step
  came s = newest s.calls refl
    where
      newest : (cs : List Call) → s.calls ≡ cs
          → Came R s (elim cs [ [] ↦ stopping false 1 0 s | c ∷ r ↦ let n = next_step P c in settled P n.place r s (perform P R c r n.place n.after n.does s) ])
      newest [] e = stops false 1 0 (omega arith) (omega arith) (omega arith) (later_same R s)
      newest (c ∷ r) e = came-settled c r _ _ _ s _ (performed P R c r _ _ _ s e)

  -- ---- a run
  pub run-goes : (n : ℕ) (s s' : State) → take_step P R s ≡ goes_on s' → run P R (suc n) s ≡ run P R n s'
  unfolding run
  run-goes n s s' e = rw (e, run)

  pub run-stops : (n : ℕ) (s : State) (b : Bool) (x : Ended) → take_step P R s ≡ stopped b x → run P R (suc n) s ≡ x
  unfolding run
  run-stops n s b x e = rw (e, run)

-- After a run of at most n steps from s.
pub record RanTo (R : Rooms) (s : State) (n : ℕ) (x : Ended) : Type 0 where
  pub count : ℕ
  pub within : count ≤ n
  pub later : Later R s count x.state
  pub least : 1 ≤ x.ending
  pub most : x.ending ≤ 8
  -- "5: steps spent"
  pub spent : x.ending ≡ 5 → count ≡ n

module _ (P : Program) (R : Rooms) where
  pub ran : (n : ℕ) (s : State) → RanTo R s n (run P R n s)
  unfolding run
  ran zero s = record { count = 0; within = omega arith; later = later_same R s; least = omega arith; most = omega arith; spent = λ e. refl }
  ran (suc n) s = after (take_step P R s) (came P R s) (λ s'. ran n s')
    where
      after : (o : Outcome) → Came R s o → ((s' : State) → RanTo R s' n (run P R n s'))
          → RanTo R s (suc n) (elim o [ goes_on s' ↦ run P R n s' | stopped b x ↦ x ])
      after o (goes {s' = s'} l) on =
          let x = on s' in
          record { count = 1 + x.count; within = omega arith; later = later_trans R s s' _ 1 x.count l x.later; least = x.least; most = x.most; spent = λ e. omega (arith, x.spent e) }
      after o (stops true e place low high f l) on = record { count = 1; within = omega arith; later = l; least = low; most = high; spent = λ q. absurd (f q) }
      after o (stops false e place low high f l) on = record { count = 0; within = omega arith; later = l; least = low; most = high; spent = λ q. absurd (f q) }

-- ---- an abort
-- After a step of an UNDO list from s: a later state; or it lacked something, and was not counted.
pub data CameUndo (R : Rooms) (s : State) : Outcome → Type 0 where
  goes-undo : {s' : State} → Later R s 1 s' → CameUndo R s (goes_on s')
  stops-undo : (n place : ℕ) → 6 ≤ n → n ≤ 8 → CameUndo R s (stopping false n place s)

-- After an abort of at most n UNDO steps from s.
pub record UndidTo (R : Rooms) (s : State) (n : ℕ) (x : Ended) : Type 0 where
  pub count : ℕ
  pub within : count ≤ n
  pub later : Later R s count x.state
  pub least : 6 ≤ x.ending
  pub most : x.ending ≤ 10

-- After a run with K that was struck: K steps, and at most so many UNDO steps.
pub record StruckTo (P : Program) (R : Rooms) (s : State) (n : ℕ) (a : Abort) (x : Ended) : Type 0 where
  pub reached : a.at ≤ n
  pub would-be-5 : (run P R a.at s).ending ≡ 5
  pub is : x ≡ undoing P R a.undo (struck P (run P R a.at s).state)
  pub count : ℕ
  pub within : count ≤ a.undo
  pub later : Later R s (a.at + count) x.state
  pub least : 6 ≤ x.ending
  pub most : x.ending ≤ 10

-- After a run of at most n steps from s, with K or without.
pub data RanAsked (P : Program) (R : Rooms) (s : State) (n : ℕ) (o : Option Abort) (x : Ended) : Type 0 where
  as_lent : RanTo R s n x → RanAsked P R s n o x
  as-struck : (a : Abort) → o ≡ some a → StruckTo P R s n a x → RanAsked P R s n o x

module _ (P : Program) (R : Rooms) where
  left-later : (r : List Call) (s s' : State) → Later R s 0 s' → CameUndo R s (leaving P r s')
  unfolding leaving
  left-later r s s' l = goes-undo (later-counted R s _ (later-calls R s s' 0 (dropping P r) l))

  came-undone : (c : Call) (r : List Call) (a : Action) (place onward : ℕ) (s : State) (e : Effect) → Performed P R c r place onward a s e → CameUndo R s (undone P r s e)
  unfolding undone
  came-undone c r a place onward s e (makes h k) = goes-undo (later-counted R s _ (later-changed R s _ h))
  came-undone c r a place onward s e (fails-with {s' = s'} n k live h) = left-later _ s _ (later-errno R s s' 0 n r (λ g. latest k) (later-changed R s s' h))
  came-undone c r a place onward s e (hands-on k) = left-later _ s s (later_same R s)
  came-undone c r a place onward s e (ends n k) = left-later _ s s (later_same R s)
  came-undone c r a place onward s e (lacks n at' (no-depth callee k)) = stops-undo 6 callee (omega arith) (omega arith)
  came-undone c r a place onward s e (lacks n at' (no-input t text k)) = stops-undo 7 place (omega arith) (omega arith)
  came-undone c r a place onward s e (lacks n at' (no_room w)) = stops-undo 8 place (omega arith) (omega arith)

  pub came-undo : (c : Call) (r : List Call) (s : State) → s.calls ≡ c ∷ r → CameUndo R s (undo_step P R c r s)
  unfolding undo_step
  came-undo c r s e = came-undone c r _ _ _ s _ (performed P R c r _ _ _ s e)

  -- what is left of an abort
  abbrev pub undo_from : ℕ → State → List Call → Ended
  undo_from n s cs = elim cs [ [] ↦ aborted s | c ∷ r ↦ elim (undo_step P R c r s) [ goes_on s' ↦ undoing P R n s' | stopped b x ↦ x ] ]

  pub undoing-from : (n : ℕ) (s : State) (cs : List Call) → s.calls ≡ cs → undoing P R (suc n) s ≡ undo_from n s cs
  unfolding undoing
  undoing-from n s cs e = ap (undo_from n s) e

  pub undid : (n : ℕ) (s : State) → UndidTo R s n (undoing P R n s)
  unfolding undoing
  undid zero s = newest s.calls
    where
      newest : (cs : List Call) → UndidTo R s 0 (elim cs [ [] ↦ aborted s | c ∷ r ↦ undo_spent (next_step P c).place s ])
      newest [] = record { count = 0; within = omega arith; later = later_same R s; least = omega arith; most = omega arith }
      newest (c ∷ r) = record { count = 0; within = omega arith; later = later_same R s; least = omega arith; most = omega arith }
  undid (suc n) s = newest s.calls refl (λ s'. undid n s')
    where
      after : (o : Outcome) → CameUndo R s o → ((s' : State) → UndidTo R s' n (undoing P R n s'))
          → UndidTo R s (suc n) (elim o [ goes_on s' ↦ undoing P R n s' | stopped b x ↦ x ])
      after o (goes-undo {s' = s'} l) on =
          let x = on s' in
          record { count = 1 + x.count; within = omega arith; later = later_trans R s s' _ 1 x.count l x.later; least = x.least; most = x.most }
      after o (stops-undo e place low high) on = record { count = 0; within = omega arith; later = later_same R s; least = low; most = omega arith }

      newest : (cs : List Call) → s.calls ≡ cs → ((s' : State) → UndidTo R s' n (undoing P R n s')) → UndidTo R s (suc n) (undo_from n s cs)
      newest [] e on = record { count = 0; within = omega arith; later = later_same R s; least = omega arith; most = omega arith }
      newest (c ∷ r) e on = after (undo_step P R c r s) (came-undo c r s e) on

  -- K strikes
  struck-to : (n : ℕ) (a : Abort) (s : State) → a.at ≤ n → RanTo R s a.at (run P R a.at s) → RanAsked P R s n (some a) (aborting P R a.undo (run P R a.at s))
  unfolding aborting
  struck-to n a s h ran =
      let x = run P R a.at s in
      chosen_by (RanAsked P R s n (some a)) (eqb x.ending 5) _ _
      (λ t.
      let five : x.ending ≡ 5 = eqb-true x.ending 5 t in
      let u = undid a.undo (struck P x.state) in
      let l = later_trans R s _ _ ran.count u.count (later-calls R s x.state ran.count (dropping P x.state.calls) ran.later) u.later in
      as-struck a refl (record { reached = h; would-be-5 = five; is = refl; count = u.count; within = u.within; later = rw (ran.spent five) at l; least = u.least; most = u.most }))
      (λ t. as_lent (record {
        count = ran.count;
        within = omega (arith, ran.within);
        later = ran.later;
        least = ran.least;
        most = ran.most;
        spent = λ q. absurd (eqb-false x.ending 5 t q);
      }))

  pub ran-abort : (n : ℕ) (o : Option Abort) (s : State) → RanAsked P R s n o (run_abort P R n o s)
  unfolding run_abort
  ran-abort n none s = as_lent (ran P R n s)
  ran-abort n (some a) s =
      chosen_by (RanAsked P R s n (some a)) (ltb n a.at) _ _ (λ t. as_lent (ran P R n s)) (λ t. struck-to n a s (ltb-false n a.at t) (ran P R a.at s))
