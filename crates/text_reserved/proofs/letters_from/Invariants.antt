use Prim.Native.Nat.{◌-◌}
use Rattle.text_reserved.proofs.Packs.{Passed}
use Rattle.text_reserved.proofs.letters_from.Given as goal

abbrev pub invariant-loop-length : goal.invariant-loop-length
invariant-loop-length l = Passed l.text l.length l.first l.rest

abbrev pub decreases-loop-length : goal.decreases-loop-length
decreases-loop-length l = lib.ListN.length l.text - l.length
