use borrow.Author.Rules.{rules}
use native.Mathlib.Omega.{arith}
use Rattle.store_evaluation.proofs.Numbers.{narrowed}
use Rattle.store_evaluation.proofs.Steps.{stands-in, short-second, short-first, short-carried, short-done}
use Rattle.store_evaluation.proofs.short.Goals as goal

pub head-w-requires : goal.head-w-requires
head-w-requires c = search (rules, stands-in)

pub overflow_add-from : goal.overflow_add-from
overflow_add-from c =
    omega (arith, stands-in c.args.nesting c.args.code.now c.args.values.now c.args.base c.args.from c.args.to c.requires.1)

pub head-x-requires : goal.head-x-requires
head-x-requires c = search (rules, short-second)

pub leaf-requires : goal.leaf-requires
leaf-requires c = (search rules, search (rules, short-first))

pub fused-requires : goal.fused-requires
fused-requires c = (search rules, search (rules, short-carried), search (rules, narrowed), search rules)

pub returns : goal.returns
returns c = search (rules, short-done)
