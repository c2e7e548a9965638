use Prim.Native.Nat.{◌-◌}
use lib.ListN.{length}
use Rattle.check_heads.proofs.Leaves.{Going}
use Rattle.check_heads.proofs.next.Given as goal

abbrev pub invariant-loop-at : goal.invariant-loop-at
invariant-loop-at l = Going l.code l.at l.a l.b l.i

abbrev pub decreases-loop-at : goal.decreases-loop-at
decreases-loop-at l = length l.code - l.i
