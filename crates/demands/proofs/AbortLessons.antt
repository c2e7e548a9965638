-- Request 6: what may be said of UNDO lists, from the verdict on a text.
use mathlib.Core.Path.{◌≡◌}
use mathlib.Core.List.{List}
use Prim.Native.Nat.{ℕ, ◌<◌}
use lib.ListN.{length}
use Rattle.laws.proofs.Tests.{apart}
use Rattle.paper.specs.Words.{Word, reading}
use Rattle.paper.specs.Trees.{Module}
use Rattle.paper.specs.Expressions.{got}
use Rattle.paper.specs.Form.{formed}
use Rattle.paper.specs.Names.{sort_in}
use Rattle.paper.specs.Steps.{program_of}
use Rattle.paper.specs.Running.{started}
use Rattle.paper.specs.Answer.{Accepted, Verdict, accepted, verdict}
use Rattle.demands.proofs.Tables.{ModuleFits}
use Rattle.demands.proofs.Aborted.{run-reaches, below-k, is-struck, not-struck, next-list, none-left-at-9, error-leaves, end_leaves, ends_so, spent-in-undo, undoable-at, never-in-undo, newest-in-undo, only-those-live, step-on-calls, never-twice, dropped-run-none}
use Rattle.demands.proofs.Records.{Accepts, Judges, refuses, accepts, judges}
use Rattle.demands.specs.Vocabulary.{at-start}
use Rattle.demands.specs.Aborts.{AbortLesson, Aborting}

module _ (W : List Word) (m : Module) (fits : ModuleFits W m) (main : ℕ) (below : main < length m.routines) where
  abort-lesson : AbortLesson W m (program_of W m) main
  abort-lesson =
      let P = program_of W m in
      record {
        barred = undoable-at W m fits;
        never-in-undo = λ R s h. never-in-undo W m fits R main s below h;
        is-struck = λ R n a h e. is-struck P R n a (started P main) h e;
        strikes-in-run = λ R k e. run-reaches P R main k (started P main) at-start e;
        below-k = λ R n a h. below-k P R n a (started P main) h;
        not-struck = λ R n a f. not-struck P R n a (started P main) f;
        first-list = λ s. next-list P s.calls;
        newest-in-undo = λ R first s c r i. newest-in-undo W m fits R main below first s i.reached i.since c r i.live;
        only-those-live = λ R first s h way. only-those-live W m fits R main first s below h way;
        step-on-calls = λ R first s s' c r i e. step-on-calls W m fits R main below first s i.reached i.since s' c r i.live e;
        error-leaves = λ R s s' s₁ c r e q g. error-leaves P R s s' c r s₁ e q g;
        end_leaves = λ R s s' c r d g. end_leaves P R s s' c r d g;
        never-twice = λ R first s s' s'' c r i e n later. never-twice W m fits R main below first s i.reached i.since s' s'' c r i.live e n later;
        dropped-run-none = λ R taken first s n leads h way low high. dropped-run-none W m fits R main below first s h way taken n leads low high;
        ends_so = ends_so P;
        none-left-at-9 = none-left-at-9 P;
        spent-in-undo = λ R first u h e. spent-in-undo W m fits R main first u below h e;
      }

accepted-fits : (text : List ℕ) (v : Verdict) (a : Accepted) → Judges text v → v ≡ accepted a → Accepts (reading text).words a
accepted-fits text v a (refuses n offset low high h) e = apart (cc)
accepted-fits text v a (accepts b h) e =
    let q : b ≡ a = cc in
    rw q at h

pub aborting : Aborting
unfolding Aborting
aborting text a m e f =
    let h = accepted-fits text (verdict text) a (judges text) e in
    let parsed : formed (sort_in (reading text).words) ≡ got m = rw h.words at f in
    let same : h.m ≡ m = cc (parsed, h.parsed) in
    rw (h.words, h.program, ← same) (abort-lesson (reading text).words h.m h.fits a.main h.main)
