use Prim.Native.Nat.{◌-◌}
use Rattle.check_simple.proofs.Arguments.{Runs}
use Rattle.paper.specs.Words.{word_limit}
use Rattle.check_simple.proofs.more_arguments.Given as goal

abbrev pub invariant-loop-parameter : goal.invariant-loop-parameter
invariant-loop-parameter l = Runs l.initial.code l.values l.code l.p l.b l.parameter l.end

abbrev pub decreases-loop-parameter : goal.decreases-loop-parameter
decreases-loop-parameter l = word_limit - l.end
