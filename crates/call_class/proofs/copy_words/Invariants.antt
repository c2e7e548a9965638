use Rattle.call_class.proofs.Copies.{Copying}
use Rattle.call_class.proofs.copy_words.Given as goal

abbrev pub invariant-loop-j : goal.invariant-loop-j
invariant-loop-j l = Copying l.values l.initial.kept l.kept l.at l.j
