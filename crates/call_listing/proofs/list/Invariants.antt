use Prim.Native.Nat.{◌-◌}
use lib.ListN.{length}
use Rattle.call_listing.proofs.Lists.{Lists}
use Rattle.call_listing.proofs.list.Given as goal

abbrev pub invariant-loop-word : goal.invariant-loop-word
invariant-loop-word l = Lists l.text l.initial.out l.out l.c

abbrev pub decreases-loop-word : goal.decreases-loop-word
decreases-loop-word l = length l.text - l.c.place
