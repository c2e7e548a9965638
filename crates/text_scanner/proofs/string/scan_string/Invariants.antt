use Prim.Native.Nat.{◌-◌}
use lib.ListN.{length}
use Rattle.text_scanner.proofs.Strings.{Left}
use Rattle.text_scanner.proofs.string.scan_string.Given as goal

abbrev pub invariant-loop-n : goal.invariant-loop-n
invariant-loop-n l = Left l.text l.room l.bad l.n

abbrev pub decreases-loop-n : goal.decreases-loop-n
decreases-loop-n l = length l.text - l.n
