use borrow.Author.Rules.{rules}
use Rattle.store_evaluation.proofs.Operands.{closes-array, closed-element, closed-other, small-read}
use Rattle.store_evaluation.proofs.close.Goals as goal

pub element-requires : goal.element-requires
element-requires c = (c.requires.0, search (rules, closes-array), search (rules, small-read))

pub returns-then-w-le-CALL_ELEMENT : goal.returns-then-w-le-CALL_ELEMENT
returns-then-w-le-CALL_ELEMENT c = search (rules, closed-element)

pub apply-requires : goal.apply-requires
apply-requires c = search (rules, small-read)

pub returns : goal.returns
returns c = search (rules, closed-other)
