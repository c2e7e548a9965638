use borrow.Author.Rules.{rules}
use Rattle.store_evaluation.proofs.Operators.{either-right, either_left}
use Rattle.store_evaluation.proofs.either.Goals as goal

pub returns-then-is_zero : goal.returns-then-is_zero
returns-then-is_zero c = search (rules, either-right)

pub returns : goal.returns
returns c = search (rules, either_left)
