use mathlib.Core.Path.{◌≡◌}
use Prim.Native.Nat.{◌-◌}
use Rattle.check_form.specs.Places.{sorts_in, routines}
use Rattle.check_form.proofs.Words.routines.Given as goal

abbrev pub invariant-loop-at : goal.invariant-loop-at
invariant-loop-at l = routines (sorts_in l.self.code.now l.self.count) l.at ≡ routines (sorts_in l.self.code.now l.self.count) l.n

abbrev pub decreases-loop-at : goal.decreases-loop-at
decreases-loop-at l = l.self.count - l.n
