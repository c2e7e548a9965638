use Rattle.paper.specs.Numbers.{digits}
use Rattle.run_decimals.proofs.Digits.{Writing}
use Rattle.run_decimals.proofs.write_digits.Given as goal

abbrev pub invariant-loop-m : goal.invariant-loop-m
invariant-loop-m l = Writing (digits 20 l.n) l.initial.out l.out l.m l.i

abbrev pub decreases-loop-m : goal.decreases-loop-m
decreases-loop-m l = l.m
