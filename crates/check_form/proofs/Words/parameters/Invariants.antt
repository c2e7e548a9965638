use mathlib.Core.Path.{◌≡◌}
use Prim.Native.Nat.{◌-◌}
use Rattle.check_form.specs.Places.{sorts_in, separated, parameter, parameters}
use Rattle.check_form.proofs.Words.parameters.Given as goal

abbrev pub invariant-loop-m : goal.invariant-loop-m
invariant-loop-m l =
    parameters (sorts_in l.self.code.now l.self.count) l.at ≡ separated (sorts_in l.self.code.now l.self.count) (parameter (sorts_in l.self.code.now l.self.count)) l.n

abbrev pub decreases-loop-m : goal.decreases-loop-m
decreases-loop-m l = l.self.count - l.n
