use Prim.Native.Nat.{◌-◌}
use Rattle.text_scanner.proofs.Values.{Passed}
use Rattle.text_scanner.proofs.number.read_digits.Given as goal

abbrev pub invariant-loop-length : goal.invariant-loop-length
invariant-loop-length l = Passed l.text l.length l.value

abbrev pub decreases-loop-length : goal.decreases-loop-length
decreases-loop-length l = lib.ListN.length l.text - l.length
