use mathlib.Core.Path.{◌≡◌}
use Prim.Native.Nat.{◌-◌}
use Rattle.check_form.specs.Places.{sorts_in, declarations}
use Rattle.check_form.proofs.Words.declarations.Given as goal

abbrev pub invariant-loop-at : goal.invariant-loop-at
invariant-loop-at l = declarations (sorts_in l.self.code.now l.self.count) l.at ≡ declarations (sorts_in l.self.code.now l.self.count) l.n

abbrev pub decreases-loop-at : goal.decreases-loop-at
decreases-loop-at l = l.self.count - l.n
