use Prim.Native.Nat.{◌-◌}
use lib.ListN.{length}
use Rattle.check_heads.proofs.AllRoutines.{RoutinesGo}
use Rattle.check_heads.proofs.routines.Given as goal

abbrev pub invariant-loop-code : goal.invariant-loop-code
invariant-loop-code l = RoutinesGo l.text l.initial.code l.initial.values l.at l.code l.values l.i l.k l.main

abbrev pub decreases-loop-code : goal.decreases-loop-code
decreases-loop-code l = length l.code - l.i
