use Rattle.check_spelling.specs.Fronts.{Fours}
use Rattle.check_spelling.proofs.fours.Given as goal

abbrev pub invariant-loop-k : goal.invariant-loop-k
invariant-loop-k l = Fours l.a l.b l.k
