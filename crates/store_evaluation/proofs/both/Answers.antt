use borrow.Author.Rules.{rules}
use Rattle.store_evaluation.proofs.Operators.{both_left, both_right}
use Rattle.store_evaluation.proofs.both.Goals as goal

pub returns-then-is_zero : goal.returns-then-is_zero
returns-then-is_zero c = search (rules, both_left)

pub returns : goal.returns
returns c = search (rules, both_right)
