use borrow.Author.Rules.{rules}
use Rattle.store_evaluation.proofs.Operators.{fails-zero, fails-over, fails-early}
use Rattle.store_evaluation.proofs.failure.Goals as goal

pub returns-then-is_zero : goal.returns-then-is_zero
returns-then-is_zero c = search (rules, fails-zero)

pub returns-then-number-ge-DIV : goal.returns-then-number-ge-DIV
returns-then-number-ge-DIV c = search (rules, fails-over)

pub returns : goal.returns
returns c = search (rules, fails-early)
