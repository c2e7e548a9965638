use borrow.Author.Rules.{rules}
use native.Mathlib.Omega.{arith}
use Rattle.check_expressions.proofs.Operators.{asks-same, asks-truths, asks-numbers}
use Rattle.check_expressions.proofs.asked.Goals as goal

pub returns-in-12 : goal.returns-in-12
returns-in-12 c = search (rules, asks-same)

pub returns-in_default : goal.returns-in_default
returns-in_default c = search (rules, asks-truths)

pub returns-in_default-2 : goal.returns-in_default-2
returns-in_default-2 c = asks-numbers _ _ _ c.requires c.if-l-gt-RELATIONS.false (λ z. grind arith) (λ z. grind arith)
