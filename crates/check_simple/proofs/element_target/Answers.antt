use borrow.Author.Rules.{rules}
use mathlib.Core.Path.{sym}
use Rattle.std.proofs.lemmas.Result.{err_from_is_err_and}
use native.Mathlib.Omega.{arith}
use Rattle.check_simple.proofs.Targets.{element-small, index-stands, index-fits, index-end, element-no-array, element-faulty, element-typed}
use Rattle.check_simple.proofs.element_target.Goals as goal

pub returns-then-kind-ne-ARRAY : goal.returns-then-kind-ne-ARRAY
returns-then-kind-ne-ARRAY c = search (rules, element-no-array)

pub overflow_add-at : goal.overflow_add-at
overflow_add-at c = omega (arith, element-small)

pub typed-requires : goal.typed-requires
typed-requires c = search (rules, index-stands)

pub returns-in_err-end : goal.returns-in_err-end
returns-in_err-end c =
    let w = c.in_err-end.was in
    let p = err_from_is_err_and c.from_residual.result c.from_residual.ensures.1 in
    rw (p.1, p.2, sym w) (search (rules, element-faulty))

pub set_head-requires : goal.set_head-requires
set_head-requires c =
    let x = (index-end _ _ _ _ c.requires _ _ c.typed.ensures _ _ c.in_ok-end.was).1 in search rules

pub overflow_add-at-2 : goal.overflow_add-at-2
overflow_add-at-2 c = omega (arith, element-small)

pub set_link-requires : goal.set_link-requires
set_link-requires c =
    let x = index-end _ _ _ _ c.requires _ _ c.typed.ensures _ _ c.in_ok-end.was in
    (omega (arith, x.2, c.set_head.ensures.kept.long), omega (arith, x.0))

pub overflow_add-result : goal.overflow_add-result
overflow_add-result c = let w = c.in_ok-end.was in search (rules, index-fits)

pub returns : goal.returns
returns c = let w = c.in_ok-end.was in search (rules, element-typed)
