use Prim.Native.Nat.{◌-◌}
use Rattle.paper.specs.Words.{word_limit}
use Rattle.check_parameters.proofs.ParameterWalk.{ParametersWalk}
use Rattle.check_parameters.specs.Answers.{Opened}
use Rattle.check_parameters.proofs.parameters.Given as goal

abbrev pub invariant-loop-next : goal.invariant-loop-next
invariant-loop-next l = ParametersWalk l.initial.code l.initial.values l.initial.scope.first l.code l.values l.i l.scope.used × Opened l.initial.scope l.scope

abbrev pub decreases-loop-next : goal.decreases-loop-next
decreases-loop-next l = word_limit - l.i
