use Rattle.check_spelling.proofs.Hashing.{Mixes}
use Rattle.check_spelling.proofs.many.Given as goal

abbrev pub invariant-loop-k : goal.invariant-loop-k
invariant-loop-k l = Mixes l.name l.h l.k
