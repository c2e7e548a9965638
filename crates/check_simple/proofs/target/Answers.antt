use borrow.Author.Rules.{rules}
use native.Mathlib.Omega.{arith}
use Rattle.check_simple.proofs.Targets.{target-here, target-next, target_small, target-asks, element-stands, target-element, target-wrong, target_right}
use Rattle.check_simple.proofs.target.Goals as goal

pub meaning-m-requires : goal.meaning-m-requires
meaning-m-requires c = search (rules, target-asks)

pub overflow_add-at : goal.overflow_add-at
overflow_add-at c = omega (arith, target_small)

pub sort-requires : goal.sort-requires
sort-requires c = search (rules, target-next)

pub element_target-requires : goal.element_target-requires
element_target-requires c =
    element-stands _ _ _ c.requires _ c.meaning-m.ensures _ c.sort.ensures c.if-sort-eq-OPEN_BRACE.true

pub returns-then-sort-eq-OPEN_BRACE : goal.returns-then-sort-eq-OPEN_BRACE
returns-then-sort-eq-OPEN_BRACE c = search (rules, target-element)

pub returns-then-kind-ne-VARIABLE : goal.returns-then-kind-ne-VARIABLE
returns-then-kind-ne-VARIABLE c = search (rules, target-wrong)

pub set_head-requires : goal.set_head-requires
set_head-requires c = search (rules, target-here)

pub overflow_add-result : goal.overflow_add-result
overflow_add-result c = omega (arith, target_small)

pub returns : goal.returns
returns c = search (rules, target_right)
