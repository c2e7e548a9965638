use borrow.Author.Rules.{rules}
use mathlib.Core.Path.{sym}
use Rattle.std.proofs.lemmas.Result.{err_from_is_err_and}
use Rattle.check_compounds.proofs.Heads.{head-lower, head-upper, head-steps, head-name-wrong, head-lower-wrong, head-upper-wrong, head-finished}
use Rattle.check_compounds.proofs.for_head.Goals as goal

pub returns-in_err-from : goal.returns-in_err-from
returns-in_err-from c =
    let w = c.in_err-from.was in
    let p = err_from_is_err_and c.from_residual.result c.from_residual.ensures.1 in
    rw (p.1, p.2, sym w) (search (rules, head-name-wrong))

pub bound-requires : goal.bound-requires
bound-requires c = let a = c.in_ok-from.was in search (rules, head-lower)

pub returns-in_err-to : goal.returns-in_err-to
returns-in_err-to c =
    let a = c.in_ok-from.was in
    let w = c.in_err-to.was in
    let p = err_from_is_err_and c.from_residual-in_err-to.result c.from_residual-in_err-to.ensures.1 in
    rw (p.1, p.2, sym w) (search (rules, head-lower-wrong))

pub bound-requires-2 : goal.bound-requires-2
bound-requires-2 c = let a = c.in_ok-from.was in let b = c.in_ok-to.was in search (rules, head-upper)

pub returns-in_err-s : goal.returns-in_err-s
returns-in_err-s c =
    let a = c.in_ok-from.was in
    let b = c.in_ok-to.was in
    let w = c.in_err-s.was in
    let p = err_from_is_err_and c.from_residual-in_err-s.result c.from_residual-in_err-s.ensures.1 in
    rw (p.1, p.2, sym w) (search (rules, head-upper-wrong))

pub for_step-requires : goal.for_step-requires
for_step-requires c =
    head-steps _ _ _ _ c.requires _ c.for_name.ensures _ c.in_ok-from.was _ _ c.bound.ensures _ c.in_ok-to.was _ _ c.bound-2.ensures _ c.in_ok-s.was

pub returns : goal.returns
returns c = let a = c.in_ok-from.was in let b = c.in_ok-to.was in let d = c.in_ok-s.was in search (rules, head-finished)
