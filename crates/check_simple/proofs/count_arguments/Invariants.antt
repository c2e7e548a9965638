use Prim.Native.Nat.{◌-◌}
use Rattle.check_simple.proofs.ArgumentCounts.{Goes}
use Rattle.paper.specs.Words.{word_limit}
use Rattle.check_simple.proofs.count_arguments.Given as goal

abbrev pub invariant-loop-first : goal.invariant-loop-first
invariant-loop-first l = Goes l.code l.first l.closing l.i l.count

abbrev pub decreases-loop-first : goal.decreases-loop-first
decreases-loop-first l = word_limit - l.i
