use borrow.Author.Rules.{rules}
use native.Mathlib.Omega.{arith}
use Rattle.check_expressions.proofs.Leaves.{indexed-unknown, indexed-other, indexed-only}
use Rattle.check_expressions.proofs.breaks_indexed.Goals as goal

pub returns-in-1-to-7 : goal.returns-in-1-to-7
returns-in-1-to-7 c = search (rules, indexed-only)

pub returns-in-1-to-7-2 : goal.returns-in-1-to-7-2
returns-in-1-to-7-2 c = indexed-other _ _ (omega arith) (omega arith) (λ z. omega arith)

pub returns-in-1-to-7-3 : goal.returns-in-1-to-7-3
returns-in-1-to-7-3 c = indexed-other _ _ (omega arith) (omega arith) (λ z. omega arith)

pub returns-in_default : goal.returns-in_default
returns-in_default c = indexed-unknown _ _ (λ h g. omega arith)

pub returns-in_default-2 : goal.returns-in_default-2
returns-in_default-2 c = indexed-unknown _ _ (λ h g. omega arith)
