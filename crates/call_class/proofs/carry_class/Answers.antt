use borrow.Author.Rules.{rules}
use native.Mathlib.Omega.{arith}
use Rattle.call_class.specs.Classes.{lent}
use Rattle.call_class.proofs.Modules.{class-none, class-start, class-text, class-carries, class-step, class-end}
use Rattle.call_class.proofs.carry_class.Goals as goal

pub returns-then-n-eq0 : goal.returns-then-n-eq0
returns-then-n-eq0 c = search (rules, class-none)

pub loop-i-init : goal.loop-i-init
loop-i-init c = class-start _ _ _ _ _ _ _ _ _ _

pub overflow_add-end : goal.overflow_add-end
overflow_add-end c =
    omega (arith, class-text _ _ _ _ _ _ _ _ _ _ c.requires _ _ _ _ _ _ _ _ c.loop-i.invariant c.loop-i-test.true c.get.ensures)

pub carry_module-requires : goal.carry_module-requires
carry_module-requires c = search (rules, class-carries)

pub loop-i-preserved : goal.loop-i-preserved
loop-i-preserved c =
    class-step _ _ _ _ _ _ _ _ _ _ c.requires _ _ _ _ _ _ _ _ c.loop-i.invariant c.loop-i-test.true c.get.ensures
    c.carry_module.ensures
    c.carry_module.auto.out c.carry_module.auto.code c.carry_module.auto.values c.carry_module.auto.records c.carry_module.auto.kept

pub shape_of-out : goal.shape_of-out
unfolding lent
shape_of-out c = c.loop-i.invariant.out-long

pub shape_of-code : goal.shape_of-code
unfolding lent
shape_of-code c = c.loop-i.invariant.code-long

pub shape_of-values : goal.shape_of-values
unfolding lent
shape_of-values c = c.loop-i.invariant.values-long

pub shape_of-records : goal.shape_of-records
unfolding lent
shape_of-records c = c.loop-i.invariant.records-long

pub shape_of-kept : goal.shape_of-kept
unfolding lent
shape_of-kept c = c.loop-i.invariant.data-long

pub returns : goal.returns
returns c = search (rules, class-end)

pub slice_bounds-carry_module-end : goal.slice_bounds-carry_module-end
slice_bounds-carry_module-end c =
    omega (arith, class-text _ _ _ _ _ _ _ _ _ _ c.requires _ _ _ _ _ _ _ _ c.loop-i.invariant c.loop-i-test.true c.get.ensures)
