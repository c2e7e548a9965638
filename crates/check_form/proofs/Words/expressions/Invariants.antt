use mathlib.Core.Path.{◌≡◌}
use Prim.Native.Nat.{◌-◌}
use Rattle.check_form.specs.Places.{sorts_in, expression_in, separated, expressions}
use Rattle.check_form.proofs.Words.expressions.Given as goal

abbrev pub invariant-loop-m : goal.invariant-loop-m
invariant-loop-m l =
    expressions (sorts_in l.self.code.now l.self.count) l.at ≡ separated (sorts_in l.self.code.now l.self.count) (expression_in (sorts_in l.self.code.now l.self.count) 17) l.n

abbrev pub decreases-loop-m : goal.decreases-loop-m
decreases-loop-m l = l.self.count - l.n
