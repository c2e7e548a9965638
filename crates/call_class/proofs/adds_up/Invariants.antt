use Rattle.call_class.proofs.Lengths.{Adding}
use Rattle.call_class.proofs.adds_up.Given as goal

abbrev pub invariant-loop-i : goal.invariant-loop-i
invariant-loop-i l = Adding l.lengths l.total l.left l.i
