use borrow.Author.Rules.{rules}
use native.Mathlib.Omega.{arith}
use Rattle.check_expressions.proofs.Leaves.{breaks-never, breaks-not, breaks-only, breaks-wrong, breaks-unknown}
use Rattle.check_expressions.proofs.breaks_alone.Goals as goal

pub returns-in-3 : goal.returns-in-3
returns-in-3 c = search (rules, breaks-never)

pub returns-in-1 : goal.returns-in-1
returns-in-1 c = search (rules, breaks-not)

pub returns-in-1-to-7 : goal.returns-in-1-to-7
returns-in-1-to-7 c = search (rules, breaks-only)

pub returns-in-1-to-7-2 : goal.returns-in-1-to-7-2
returns-in-1-to-7-2 c = breaks-wrong _ _ (grind arith)

pub returns-in_default : goal.returns-in_default
returns-in_default c = breaks-unknown _ _ (λ h g. grind arith)
