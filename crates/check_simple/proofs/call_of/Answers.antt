use borrow.Author.Rules.{rules}
use mathlib.Core.Path.{sym}
use Rattle.std.proofs.lemmas.Result.{err_from_is_err_and}
use Rattle.check_simple.proofs.ProcedureCalls.{of-callees, of-small, of-side, of_end, called-of-wrong, called-of-faulty, called-of-typed}
use native.Mathlib.Omega.{arith}
use Rattle.check_simple.proofs.call_of.Goals as goal

pub callee_at-requires : goal.callee_at-requires
callee_at-requires c = search (rules, of-callees)

pub overflow_add-i : goal.overflow_add-i
overflow_add-i c = omega (arith, of-small)

pub call-requires : goal.call-requires
call-requires c =
    (of-side _ _ _ _ c.requires _ c.callee_at.ensures _ c.in_ok-h.was, omega arith)

pub returns-in_err-end : goal.returns-in_err-end
returns-in_err-end c =
    let h = c.in_ok-h.was in
    let w = c.in_err-end.was in
    let p = err_from_is_err_and c.from_residual-in_err-end.result c.from_residual-in_err-end.ensures.1 in
    rw (p.1, p.2, sym w) (search (rules, called-of-faulty))

pub overflow_add-end : goal.overflow_add-end
overflow_add-end c =
    omega (
      arith,
      (of_end _ _ _ _ c.requires _ c.callee_at.ensures _ c.in_ok-h.was _ _ c.call.ensures _ c.in_ok-end.was).0,
    )

pub set_word-requires : goal.set_word-requires
set_word-requires c =
    let x = of_end _ _ _ _ c.requires _ c.callee_at.ensures _ c.in_ok-h.was _ _ c.call.ensures _ c.in_ok-end.was in (x.1, omega arith, omega arith, omega (arith, x.0))

pub overflow_add-result : goal.overflow_add-result
overflow_add-result c =
    omega (arith, (of_end _ _ _ _ c.requires _ c.callee_at.ensures _ c.in_ok-h.was _ _ c.call.ensures _ c.in_ok-end.was).0)

pub returns-in_err-h : goal.returns-in_err-h
returns-in_err-h c =
    let w = c.in_err-h.was in
    let p = err_from_is_err_and c.from_residual.result c.from_residual.ensures.1 in
    rw (p.1, p.2) (search (rules, called-of-wrong))

pub returns : goal.returns
returns c = let h = c.in_ok-h.was in let w = c.in_ok-end.was in search (rules, called-of-typed)
