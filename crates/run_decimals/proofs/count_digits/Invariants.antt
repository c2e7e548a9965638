use Rattle.paper.specs.Numbers.{digits}
use Rattle.run_decimals.proofs.Digits.{Left}
use Rattle.run_decimals.proofs.count_digits.Given as goal

abbrev pub invariant-loop-m : goal.invariant-loop-m
invariant-loop-m l = Left (digits 20 l.n) l.m l.k

abbrev pub decreases-loop-m : goal.decreases-loop-m
decreases-loop-m l = l.m
