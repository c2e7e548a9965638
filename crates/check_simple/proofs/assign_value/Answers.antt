use borrow.Author.Rules.{rules}
use Rattle.std.proofs.lemmas.Result.{err_from_is_err_and}
use native.Mathlib.Omega.{arith}
use Rattle.check_simple.proofs.Assignments.{value-stands, value-small, value-fits, value-end, assigned-faulty, assigned-typed}
use Rattle.check_simple.proofs.assign_value.Goals as goal

pub overflow_add-b : goal.overflow_add-b
overflow_add-b c = omega (arith, value-small)

pub typed-requires : goal.typed-requires
typed-requires c = search (rules, value-stands)

pub returns-in_err-end : goal.returns-in_err-end
returns-in_err-end c =
    let w = c.in_err-end.was in
    let p = err_from_is_err_and c.from_residual.result c.from_residual.ensures.1 in
    rw (p.1, p.2) (search (rules, assigned-faulty))

pub set_link-requires : goal.set_link-requires
set_link-requires c =
    let x = value-end _ _ _ _ _ c.requires _ _ c.typed.ensures _ _ c.in_ok-end.was in (x.1, omega (arith, x.0))

pub overflow_add-end : goal.overflow_add-end
overflow_add-end c = let w = c.in_ok-end.was in search (rules, value-fits)

pub set_link-requires-2 : goal.set_link-requires-2
set_link-requires-2 c =
    let x = value-end _ _ _ _ _ c.requires _ _ c.typed.ensures _ _ c.in_ok-end.was in
    (omega (arith, x.2, c.set_link.ensures.kept.long), omega (arith, x.0))

pub overflow_add-result : goal.overflow_add-result
overflow_add-result c = let w = c.in_ok-end.was in search (rules, value-fits)

pub returns : goal.returns
returns c =
    assigned-typed _ _ _ _ _ _ _ c.typed.ensures _ _ c.in_ok-end.was _ c.set_link.ensures _
    c.set_link-2.ensures
