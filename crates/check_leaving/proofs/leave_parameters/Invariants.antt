use Prim.Native.Nat.{◌-◌}
use Rattle.check_leaving.proofs.NamesAgain.{ParametersLeft}
use Rattle.check_leaving.proofs.leave_parameters.Given as goal

abbrev pub invariant-loop : goal.invariant-loop
invariant-loop l = ParametersLeft l.code l.initial.values l.initial.at l.end l.values l.at (l.end - l.counter)
