use borrow.Author.Rules.{rules}
use Rattle.store_evaluation.proofs.Operators.{failing-outside, failing-inside}
use Rattle.store_evaluation.proofs.is_failing.Goals as goal

pub returns-then-outside : goal.returns-then-outside
returns-then-outside c = search (rules, failing-outside)

pub returns : goal.returns
returns c = search (rules, failing-inside)
