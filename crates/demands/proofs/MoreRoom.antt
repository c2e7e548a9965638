-- Demand 3: from runs to answers.
use mathlib.Core.Path.{◌≡◌, refl, sym, ap}
use mathlib.Core.Bool.{false}
use mathlib.Core.List.{List, [], ◌++◌, append_assoc}
use mathlib.Core.Option.{Option}
use Prim.Native.Nat.{ℕ, ◌≤◌}
use native.Mathlib.Omega.{arith}
use lib.ListN.{length, take, drop}
use lib.Seq.{take_at}
use lib.IntN.{ℤ}
use borrow.Author.Tests.{le-ltb, ne_eqb}
use Rattle.paper.specs.Words.{Word, Refusal}
use Rattle.paper.specs.Steps.{Program}
use Rattle.paper.specs.States.{State, Rooms}
use Rattle.paper.specs.Running.{Ended, started}
use Rattle.paper.specs.Undoing.{Abort, run_abort, run_asked}
use Rattle.paper.specs.Answer.{depth_limit, Verdict, refused_by, accepted, verdict, Record, Question, Result, refused_with, ended_with, ran_to, carried_out, too_small, bad_depth, result, Lent, question_of, store_after, answer}
use Rattle.raised.proofs.Choices.{forked}
use Rattle.demands.proofs.Growing.{RanAsked, as_lent, as-struck, ran-abort}
use Rattle.demands.proofs.Effects.{RoomsAtLeast}
use Rattle.demands.proofs.Runs.{Precedes, precedes-self, SameOrBroke, same_end, broke, abort-more}
use Rattle.demands.specs.Demands.{InsideBounds, Told, told, RefusedAlike, alike, neither, BrokeOff, Final, came-to-an-end, was-aborted, Breaks, lacked-room, lacked-undo-steps, SameK, NeverChanged, Demand3}

-- ---- what a result tells
abbrev shown : Result → Told Record ℤ
shown r =
    let f = r.fields in
    record { fields = f; ending = f.ending; steps = f.steps; inputs = f.inputs; module-data = r.kept; output = r.written }

-- The lengths that stand in the record.
pub record Counted (r : Result) : Type 0 where
  pub output : r.fields.output ≡ length r.written
  pub words : r.fields.words ≡ length r.kept

counted-refused : (f : Refusal) → Counted (refused_with f)
unfolding refused_with
counted-refused f = record { output = refl; words = refl }

counted-carried : (q : Question) (v : Verdict) → Counted (carried_out q v)
unfolding carried_out ran_to ended_with
counted-carried q (refused_by f) = counted-refused f
counted-carried q (accepted a) = record { output = refl; words = refl }

pub result-counted : (q : Question) → Counted (result q)
unfolding result
result-counted q = forked Counted (too_small q) _ _ (counted-refused _) (forked Counted (bad_depth q) _ _ (counted-refused _) (counted-carried q (verdict q.text)))

-- ---- inside the bounds
not-small : (l : Lent) → InsideBounds l → too_small (question_of l) ≡ false
unfolding too_small question_of
not-small l h = rw (le-ltb _ _ h.code, le-ltb _ _ h.values)

not-bad : (l : Lent) → InsideBounds l → bad_depth (question_of l) ≡ false
unfolding bad_depth question_of
not-bad l h = rw (ne_eqb l.depth 0 (λ e. omega (arith, h.deep)), le-ltb depth_limit l.depth h.not-too-deep)

-- the text is judged
result-inside : (q : Question) → too_small q ≡ false → bad_depth q ≡ false → result q ≡ carried_out q (verdict q.text)
unfolding result
result-inside q s d = rw (s, result) (rw d)

-- what is kept comes first in the store
kept-first : (kept store : List ℤ) (n : ℕ) → length kept ≡ n → take n (store_after kept store) ≡ kept
unfolding store_after
kept-first kept store n e = rw append_assoc (take_at kept _ n e)

told-shown : (l : Lent) (r : Result) → Counted r
    → told (record { fields = r.fields; output = r.written ++ drop (length r.written) l.output; code = store_after [] l.code; values = store_after r.kept l.values }) ≡ shown r
unfolding told
told-shown l r c =
    let d : take r.fields.words (store_after r.kept l.values) ≡ r.kept = kept-first r.kept l.values _ (sym c.words) in
    let o : take r.fields.output (r.written ++ drop (length r.written) l.output) ≡ r.written = take_at r.written _ _ (sym c.output) in
    λ i. record { fields = r.fields; ending = r.fields.ending; steps = r.fields.steps; inputs = r.fields.inputs; module-data = d i; output = o i }

-- what an answer tells is what the result of its question shows
told-inside : (l : Lent) → InsideBounds l → told (answer l) ≡ shown (carried_out (question_of l) (verdict l.text))
unfolding answer question_of
told-inside l h =
    let q = question_of l in
    let s : too_small q ≡ false = not-small l h in
    let e : result q ≡ carried_out q (verdict l.text) = result-inside q s (not-bad l h) in
    rw (s, answer) (rw e (told-shown l _ (counted-carried q (verdict l.text))))

-- ---- two results
-- A refusal is not broken off.
refused-breaks : Breaks 0 → ⊥
refused-breaks (lacked-room l h) = omega arith
refused-breaks (lacked-undo-steps e) = omega arith

-- What broke off is not final.
not-both : (n : ℕ) → Final n → Breaks n → ⊥
not-both n (came-to-an-end l h) (lacked-room l' h') = omega arith
not-both n (was-aborted e) (lacked-room l h) = omega arith
not-both n (came-to-an-end l h) (lacked-undo-steps e) = omega arith
not-both n (was-aborted e) (lacked-undo-steps e') = omega arith

refused-twice : (f : Refusal) → NeverChanged (shown (refused_with f)) (shown (refused_with f))
unfolding refused_with
refused-twice f = record { refused = alike refl refl; finished = λ l. refl; broke-off = λ l. absurd (refused-breaks l) }

module _ (text : List ℕ) (W : List Word) (x y : Ended) (low : 1 ≤ x.ending) (low' : 1 ≤ y.ending) where
  broken : Precedes x.state y.state → BrokeOff (shown (ran_to text W x)) (shown (ran_to text W y))
  unfolding ran_to ended_with
  broken p = record { output = p.output; steps = p.steps; inputs = p.used }

  neither-refused : RefusedAlike (shown (ran_to text W x)) (shown (ran_to text W y))
  unfolding ran_to ended_with
  neither-refused = neither (λ e. omega arith) (λ e. omega arith)

  ended-more : SameOrBroke x y → NeverChanged (shown (ran_to text W x)) (shown (ran_to text W y))
  unfolding ran_to ended_with
  ended-more (same_end e) =
      let p : Precedes x.state y.state = rw (← e) (precedes-self x.state) in
      record { refused = neither-refused; finished = λ l. ap (λ z. shown (ran_to text W z)) e; broke-off = λ l. broken p }
  ended-more (broke b p) = record { refused = neither-refused; finished = λ l. absurd (not-both x.ending l b); broke-off = λ l. broken p }

abbrev rooms_of : Question → Rooms
rooms_of q = record { depth = q.depth; output = q.room; inputs = q.inputs }

-- A run ends with 1 or more.
ended-low : (P : Program) (R : Rooms) (n : ℕ) (o : Option Abort) (s : State) → 1 ≤ (run_abort P R n o s).ending
ended-low P R n o s = by-case (ran-abort P R n o s)
  where
    by-case : RanAsked P R s n o (run_abort P R n o s) → 1 ≤ (run_abort P R n o s).ending
    by-case (as_lent h) = h.least
    by-case (as-struck a e h) = omega (arith, h.least)

carried-more : (q q' : Question) (v : Verdict) → q.text ≡ q'.text → q.steps ≤ q'.steps → RoomsAtLeast (rooms_of q) (rooms_of q') → SameK q.asked.abort q'.asked.abort
    → NeverChanged (shown (carried_out q v)) (shown (carried_out q' v))
unfolding carried_out run_asked
carried-more q q' (refused_by f) t n more k = refused-twice f
carried-more q q' (accepted a) t n more k =
    let P = a.program in
    let s = started P a.main in
    let both = abort-more P (rooms_of q) (rooms_of q') more q.steps q'.steps q.asked.abort q'.asked.abort s n k in
    rw (← t) (ended-more q.text a.words _ _ (ended-low P (rooms_of q) q.steps q.asked.abort s) (ended-low P (rooms_of q') q'.steps q'.asked.abort s) both)

pub demand-3 : Demand3
unfolding Demand3 question_of
demand-3 a b m =
    rw (told-inside a m.first-inside, told-inside b m.second-inside, ← ap verdict m.text)
    (carried-more (question_of a) (question_of b) (verdict a.text) m.text m.steps (record { depth = m.depth; output = m.output; inputs = m.inputs }) m.asked)
