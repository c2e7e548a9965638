use borrow.Author.Rules.{rules}
use Rattle.std.proofs.lemmas.Result.{err_from_is_err_and}
use Rattle.check_compounds.proofs.Heads.{bound-stands, bound-room, bound-links, bound-wrong, bound-right}
use native.Mathlib.Omega.{arith}
use Rattle.check_compounds.proofs.bound.Goals as goal

pub overflow_add-i : goal.overflow_add-i
overflow_add-i c = omega (arith, bound-room _ _ _ c.requires)

pub typed-requires : goal.typed-requires
typed-requires c = search (rules, bound-stands)

pub returns-in_err-n : goal.returns-in_err-n
returns-in_err-n c =
    let w = c.in_err-n.was in
    let p = err_from_is_err_and c.from_residual.result c.from_residual.ensures.1 in
    rw (p.1, p.2) (search (rules, bound-wrong))

pub set_link-requires : goal.set_link-requires
set_link-requires c =
    bound-links _ _ _ c.requires _ _ c.typed.ensures _ _ c.in_ok-n.was

pub returns : goal.returns
returns c = bound-right _ _ _ _ _ c.typed.ensures _ _ c.in_ok-n.was _ c.set_link.ensures
