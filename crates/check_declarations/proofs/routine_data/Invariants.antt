use Prim.Native.Nat.{◌-◌}
use Rattle.paper.specs.Words.{word_limit}
use Rattle.check_names.specs.Scopes.{Grown}
use Rattle.check_declarations.proofs.RoutineWalk.{RoutineWalk}
use Rattle.check_declarations.proofs.routine_data.Given as goal

abbrev pub invariant-loop-code : goal.invariant-loop-code
invariant-loop-code l = RoutineWalk l.initial.code l.initial.values l.initial.scope.head l.initial.scope.used l.at l.code l.values l.i l.scope.used l.last × Grown l.initial.scope l.scope

abbrev pub decreases-loop-code : goal.decreases-loop-code
decreases-loop-code l = word_limit - l.i
