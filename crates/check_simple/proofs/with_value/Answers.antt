use mathlib.Core.Path.{refl}
use borrow.Author.Rules.{rules}
use native.Mathlib.Omega.{arith}
use Rattle.std.proofs.lemmas.Result.{err_from_is_err_and}
use Rattle.check_simple.proofs.Expressions.{values-stands, values-room, values-end, valued-faulty, valued-typed}
use Rattle.check_simple.proofs.with_value.Goals as goal

pub typed-requires : goal.typed-requires
typed-requires c = search (rules, values-stands)

pub returns-in_err-end : goal.returns-in_err-end
returns-in_err-end c =
    let w = c.in_err-end.was in
    let p = err_from_is_err_and c.from_residual.result c.from_residual.ensures.1 in
    rw (p.1, p.2) (search (rules, valued-faulty))

pub overflow_cast-end : goal.overflow_cast-end
overflow_cast-end c =
    omega (arith, values-end _ _ _ _ c.requires.0 _ _ _ refl _ c.typed.ensures _ _ c.in_ok-end.was)

pub overflow_add-end : goal.overflow_add-end
overflow_add-end c =
    omega (arith, values-end _ _ _ _ c.requires.0 _ _ _ refl _ c.typed.ensures _ _ c.in_ok-end.was)

pub set_word-requires : goal.set_word-requires
set_word-requires c =
    let z = values-end _ _ _ _ c.requires.0 _ _ _ refl _ c.typed.ensures _ _ c.in_ok-end.was in let y = values-room _ _ _ _
    c.requires.0 _ _ _ refl _ c.typed.ensures in search rules

pub overflow_add-result : goal.overflow_add-result
overflow_add-result c =
    omega (arith, values-end _ _ _ _ c.requires.0 _ _ _ refl _ c.typed.ensures _ _ c.in_ok-end.was)

pub returns : goal.returns
returns c = valued-typed _ _ _ _ _ _ _ _ _ c.typed.ensures _ _ c.in_ok-end.was c.set_word.ensures
