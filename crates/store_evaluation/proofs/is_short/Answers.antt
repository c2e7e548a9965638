use borrow.Author.Rules.{rules}
use native.Mathlib.Omega.{arith}
use Rattle.store_evaluation.proofs.Steps.{shorts-not, shorts-first, shorts-second, shorts-is}
use Rattle.store_evaluation.proofs.is_short.Goals as goal

pub overflow_add-from : goal.overflow_add-from
overflow_add-from c = omega (arith, shorts-first c.args.code.now c.args.from c.args.to c.args.nesting c.requires)

pub head-w-requires : goal.head-w-requires
head-w-requires c = search (rules, shorts-first)

pub head-x-requires : goal.head-x-requires
head-x-requires c = search (rules, shorts-second)

pub returns-then-x-ne-SPAN : goal.returns-then-x-ne-SPAN
returns-then-x-ne-SPAN c = search (rules, shorts-is)

pub returns-else-x-ne-SPAN : goal.returns-else-x-ne-SPAN
returns-else-x-ne-SPAN c = search (rules, shorts-not)

pub returns-else-w-le-CALL_SLOT : goal.returns-else-w-le-CALL_SLOT
returns-else-w-le-CALL_SLOT c = search (rules, shorts-not)

pub returns-else-to-from : goal.returns-else-to-from
returns-else-to-from c = search (rules, shorts-not)
