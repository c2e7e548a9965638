use Prim.Native.Nat.{◌-◌}
use Rattle.run_output.proofs.StringCharacters.{Plainly}
use Rattle.run_output.proofs.copy_plain.Given as goal

abbrev pub invariant-loop-k : goal.invariant-loop-k
invariant-loop-k l = Plainly l.text l.initial.out l.out l.count l.k

abbrev pub decreases-loop-k : goal.decreases-loop-k
decreases-loop-k l = l.count - l.k
