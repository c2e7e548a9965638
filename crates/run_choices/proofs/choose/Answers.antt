use borrow.Author.Rules.{rules}
use native.Mathlib.Omega.{arith}
use Rattle.run_choices.proofs.Conditions.{starts, tries-store, tries, tries-in, then-in, behind-in, condition-fails, condition-holds, none-holds, tries-next, tries-less}
use Rattle.run_choices.proofs.choose.Goals as goal

pub loop-base-init : goal.loop-base-init
loop-base-init c = search (rules, starts)

pub overflow_add-j : goal.overflow_add-j
overflow_add-j c = omega (arith, tries-in _ _ _ _ c.loop-base.j c.loop-base.t c.loop-base.invariant)

pub worth-v-requires : goal.worth-v-requires
worth-v-requires c = search (rules, tries-store, tries)

pub returns-then-v-ge-FIRST_ERROR : goal.returns-then-v-ge-FIRST_ERROR
returns-then-v-ge-FIRST_ERROR c = search (rules, condition-fails)

pub value-requires : goal.value-requires
value-requires c = search (rules, then-in)

pub returns-then-v-ne0 : goal.returns-then-v-ne0
returns-then-v-ne0 c = search (rules, condition-holds)

pub link-j-requires : goal.link-j-requires
link-j-requires c = search (rules, then-in)

pub head-h-requires : goal.head-h-requires
head-h-requires c = search (rules, behind-in)

pub returns-then-h-ne-ELSE_IF : goal.returns-then-h-ne-ELSE_IF
returns-then-h-ne-ELSE_IF c = search (rules, none-holds)

pub loop-base-smaller : goal.loop-base-smaller
loop-base-smaller c = search (rules, tries-less)

pub loop-base-preserved : goal.loop-base-preserved
loop-base-preserved c = search (rules, tries-next)
