use native.Mathlib.Omega.{arith}
use borrow.Author.Rules.{rules}
use Rattle.store_evaluation.proofs.Steps.{stands-in, alone-leaf, alone-read}
use Rattle.store_evaluation.proofs.worth.Goals as goal

pub overflow_add-from : goal.overflow_add-from
overflow_add-from c =
    omega (arith, stands-in _ c.args.code.now c.args.values.now c.args.base c.args.from c.args.to c.requires.1)

pub head-w-requires : goal.head-w-requires
head-w-requires c = search (rules, stands-in)

pub leaf-requires : goal.leaf-requires
leaf-requires c = (search rules, search (rules, alone-leaf))

pub returns-then-to-from : goal.returns-then-to-from
returns-then-to-from c = search (rules, alone-read)
