use borrow.Author.Rules.{rules}
use Rattle.store_evaluation.proofs.Operands.{opens-element, opens-other}
use Rattle.store_evaluation.proofs.opens.Goals as goal

pub returns-then-op-le-CALL_ELEMENT : goal.returns-then-op-le-CALL_ELEMENT
returns-then-op-le-CALL_ELEMENT c = search (rules, opens-element)

pub returns : goal.returns
returns c = search (rules, opens-other)
