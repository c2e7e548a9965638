use borrow.Author.Rules.{rules}
use Rattle.store_evaluation.proofs.Operands.{cell-own, cell-call}
use Rattle.store_evaluation.proofs.cell.Goals as goal

pub returns-then-op-own : goal.returns-then-op-own
returns-then-op-own c = search (rules, cell-own)

pub returns : goal.returns
returns c = search (rules, cell-call)
