use borrow.Author.Rules.{rules}
use Rattle.store_evaluation.proofs.Operands.{ends-closed, ends_open}
use Rattle.store_evaluation.proofs.ends.Goals as goal

pub returns-then-op-le-PARENTHESIS : goal.returns-then-op-le-PARENTHESIS
returns-then-op-le-PARENTHESIS c = search (rules, ends-closed)

pub returns : goal.returns
returns c = search (rules, ends_open)
