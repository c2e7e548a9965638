use Rattle.run_cases.proofs.TestValues.{Searching, words_left}
use Rattle.run_cases.proofs.matching.Given as goal

abbrev pub invariant-loop-first : goal.invariant-loop-first
invariant-loop-first l = Searching l.code l.first l.v l.j

abbrev pub decreases-loop-first : goal.decreases-loop-first
decreases-loop-first l = words_left l.code l.j
