use Rattle.run_undoing.proofs.ListsLeft.{Searching}
use Rattle.run_undoing.proofs.drop_to.Given as goal

abbrev pub invariant-loop-next : goal.invariant-loop-next
invariant-loop-next l = Searching l.code l.values l.base l.b

abbrev pub decreases-loop-next : goal.decreases-loop-next
decreases-loop-next l = l.b
