use Prim.Native.Nat.{◌-◌}
use lib.ListN.{length}
use Rattle.check_simple.proofs.Strings.{Counting}
use Rattle.check_simple.proofs.characters.Given as goal

abbrev pub invariant-loop-k : goal.invariant-loop-k
invariant-loop-k l = Counting l.bytes l.k l.count

abbrev pub decreases-loop-k : goal.decreases-loop-k
decreases-loop-k l = length l.bytes - l.k
