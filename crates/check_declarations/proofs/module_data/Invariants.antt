use Prim.Native.Nat.{◌-◌}
use Rattle.paper.specs.Words.{word_limit}
use Rattle.check_names.specs.Scopes.{Grown}
use Rattle.check_declarations.proofs.DataWalk.{ModuleWalk}
use Rattle.check_declarations.proofs.module_data.Given as goal

abbrev pub invariant-loop-code : goal.invariant-loop-code
invariant-loop-code l = ModuleWalk l.initial.code l.initial.values l.at l.code l.values l.i l.scope.used × Grown l.initial.scope l.scope

abbrev pub decreases-loop-code : goal.decreases-loop-code
decreases-loop-code l = word_limit - l.i
