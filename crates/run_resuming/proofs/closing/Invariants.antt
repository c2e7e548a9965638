use Prim.Native.Nat.{◌-◌}
use Rattle.run_resuming.proofs.NextStep.{Closed}
use Rattle.paper.specs.Words.{word_limit}
use Rattle.run_resuming.proofs.closing.Given as goal

abbrev pub invariant-loop-b : goal.invariant-loop-b
invariant-loop-b l = Closed l.code l.first l.end l.b

abbrev pub decreases-loop-b : goal.decreases-loop-b
decreases-loop-b l = word_limit - l.b
