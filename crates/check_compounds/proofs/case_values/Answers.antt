use borrow.Author.Rules.{rules}
use Rattle.std.proofs.lemmas.Result.{err_from_is_err_and}
use Rattle.check_compounds.proofs.NumbersHeld.{read-in-num, held-as}
use Rattle.check_compounds.proofs.ValuesOfCase.{values-begin, value_room, value-asks, value-ranged, value-next, value-long, value-wrong, values-end, values-go}
use native.Mathlib.Omega.{arith}
use Rattle.check_compounds.proofs.case_values.Goals as goal

pub loop-v-init : goal.loop-v-init
loop-v-init c = search (rules, values-begin)

pub overflow_add-w : goal.overflow_add-w
overflow_add-w c = omega (arith, value_room _ _ _ _ _ _ c.loop-v.invariant c.requires)

pub constant-requires : goal.constant-requires
constant-requires c = value-asks _ _ _ _ _ _ c.loop-v.invariant c.requires

pub shape_of-code-in_err-v : goal.shape_of-code-in_err-v
shape_of-code-in_err-v c =
    let z = (value_room _ _ _ _ _ _ c.loop-v.invariant c.requires).3 in search rules

pub returns-in_err-v : goal.returns-in_err-v
returns-in_err-v c =
    let p = err_from_is_err_and c.from_residual.result c.from_residual.ensures.1 in
    rw (p.1, p.2) (value-wrong _ _ _ _ _ _ c.loop-v.invariant _ _ c.constant.ensures _ c.in_err-v.was)

pub held-requires : goal.held-requires
held-requires c =
    read-in-num _ (value-ranged _ _ _ _ _ _ c.loop-v.invariant c.requires _ _ c.constant.ensures _ _ c.in_ok-v.was)

pub set_word-requires : goal.set_word-requires
set_word-requires c =
    let z = value-next _ _ _ _ _ _ c.loop-v.invariant c.requires _ _ c.constant.ensures _ _ c.in_ok-v.was in let y
    = value_room _ _ _ _ _ _ c.loop-v.invariant c.requires in (z.3, y.2, c.held.ensures.small, omega (arith, z))

pub sort-requires : goal.sort-requires
sort-requires c =
    omega (
      arith,
      value-next _ _ _ _ _ _ c.loop-v.invariant c.requires _ _ c.constant.ensures _ _ c.in_ok-v.was,
      c.set_word.ensures.kept.long,
    )

pub shape_of-code-then-sort-ne-COMMA : goal.shape_of-code-then-sort-ne-COMMA
shape_of-code-then-sort-ne-COMMA c =
    let z = value-long _ _ _ _ _ _ c.loop-v.invariant c.requires _ _ c.constant.ensures _ _ c.in_ok-v.was _ (held-as _ _
    (value-ranged _ _ _ _ _ _ c.loop-v.invariant c.requires _ _ c.constant.ensures _ _ c.in_ok-v.was) c.held.ensures) _
    c.set_word.ensures in search rules

pub returns-then-sort-ne-COMMA : goal.returns-then-sort-ne-COMMA
returns-then-sort-ne-COMMA c =
    values-end _ _ _ _ _ _ c.loop-v.invariant _ _ c.constant.ensures _ _ c.in_ok-v.was _ (held-as _ _
    (value-ranged _ _ _ _ _ _ c.loop-v.invariant c.requires _ _ c.constant.ensures _ _ c.in_ok-v.was) c.held.ensures) _
    c.set_word.ensures _ c.sort.ensures c.if-sort-ne-COMMA.true

pub loop-v-smaller : goal.loop-v-smaller
loop-v-smaller c =
    omega (arith, value-next _ _ _ _ _ _ c.loop-v.invariant c.requires _ _ c.constant.ensures _ _ c.in_ok-v.was)

pub loop-v-preserved : goal.loop-v-preserved
loop-v-preserved c =
    values-go _ _ _ _ _ _ c.loop-v.invariant _ _ c.constant.ensures _ _ c.in_ok-v.was _ (held-as _ _
    (value-ranged _ _ _ _ _ _ c.loop-v.invariant c.requires _ _ c.constant.ensures _ _ c.in_ok-v.was) c.held.ensures) _
    c.set_word.ensures _ c.sort.ensures c.if-sort-ne-COMMA.false
