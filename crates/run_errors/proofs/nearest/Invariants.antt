use Rattle.run_errors.proofs.CallsDropped.{Seeking}
use Rattle.run_errors.proofs.nearest.Given as goal

abbrev pub invariant-loop-base : goal.invariant-loop-base
invariant-loop-base l = Seeking l.code l.values l.base l.i l.b l.s

abbrev pub decreases-loop-base : goal.decreases-loop-base
decreases-loop-base l = l.b
