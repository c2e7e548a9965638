use borrow.Author.Rules.{rules}
use Rattle.store_evaluation.proofs.Operands.{nests-one, nests-less, nests-same}
use Rattle.store_evaluation.proofs.nests.Goals as goal

pub overflow_sub-result : goal.overflow_sub-result
overflow_sub-result c = search (rules, nests-one)

pub returns-then-op-le-PARENTHESIS : goal.returns-then-op-le-PARENTHESIS
returns-then-op-le-PARENTHESIS c = search (rules, nests-less)

pub returns : goal.returns
returns c = search (rules, nests-same)
