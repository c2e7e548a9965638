use Rattle.check_spelling.proofs.Letters.{Agrees}
use Rattle.check_spelling.proofs.same.Given as goal

abbrev pub invariant-loop-i : goal.invariant-loop-i
invariant-loop-i l = Agrees l.a l.b l.i
