use Prim.Native.Nat.{◌-◌}
use lib.ListN.{length}
use Rattle.text_offsets.proofs.WordCount.{Counts}
use Rattle.text_offsets.proofs.offset_of.Given as goal

abbrev pub invariant-loop-word : goal.invariant-loop-word
invariant-loop-word l = Counts l.text l.i l.c l.before

abbrev pub decreases-loop-word : goal.decreases-loop-word
decreases-loop-word l = length l.text - l.c.place
