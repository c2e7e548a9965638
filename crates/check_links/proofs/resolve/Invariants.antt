use Rattle.check_links.proofs.WordsPass.{Passing}
use Rattle.check_links.proofs.resolve.Given as goal

abbrev pub invariant-loop-i : goal.invariant-loop-i
invariant-loop-i l = Passing l.initial.code l.code l.words l.i
