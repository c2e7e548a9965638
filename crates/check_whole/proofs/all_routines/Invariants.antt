use Prim.Native.Nat.{◌-◌}
use Rattle.check_whole.proofs.RoutineWalk.{Invariant}
use mathlib.Core.Path.{◌≡◌}
use Rattle.check_whole.proofs.all_routines.Given as goal

abbrev pub invariant-loop-h : goal.invariant-loop-h
invariant-loop-h l = Invariant l.text l.initial.code l.initial.values l.at l.end l.code l.values l.h l.k × (l.scope ≡ l.initial.scope)

abbrev pub decreases-loop-h : goal.decreases-loop-h
decreases-loop-h l = l.end - l.h
