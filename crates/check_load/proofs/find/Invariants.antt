use Rattle.check_load.proofs.Chains.{Seeks}
use Rattle.check_load.proofs.find.Given as goal

abbrev pub invariant-loop-j : goal.invariant-loop-j
invariant-loop-j l = Seeks l.text l.name l.first l.j

abbrev pub decreases-loop-j : goal.decreases-loop-j
decreases-loop-j l = l.j
