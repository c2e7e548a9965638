use borrow.Author.Rules.{rules}
use native.Mathlib.Omega.{arith}
use Rattle.std.proofs.lemmas.Result.{err_from_is_err_and}
use Rattle.check_simple.proofs.FunctionCalls.{for-callees, for-small, for-head, for-side, for-wrong, for-differs, for-called}
use Rattle.check_simple.proofs.call_for.Goals as goal

pub callee_at-requires : goal.callee_at-requires
callee_at-requires c = search (rules, for-callees)

pub returns-in_err-h : goal.returns-in_err-h
returns-in_err-h c =
    let w = c.in_err-h.was in
    let p = err_from_is_err_and c.from_residual.result c.from_residual.ensures.1 in
    rw (p.1, p.2) (search (rules, for-wrong))

pub overflow_add-h : goal.overflow_add-h
overflow_add-h c =
    omega (arith, (for-head _ _ _ _ c.requires _ c.callee_at.ensures _ c.in_ok-h.was).0)

pub head-requires : goal.head-requires
head-requires c =
    (for-head _ _ _ _ c.requires _ c.callee_at.ensures _ c.in_ok-h.was).1

pub returns-then-differs : goal.returns-then-differs
returns-then-differs c = let w = c.in_ok-h.was in search (rules, for-differs)

pub overflow_add-i : goal.overflow_add-i
overflow_add-i c = omega (arith, for-small)

pub call-requires : goal.call-requires
call-requires c =
    (for-side _ _ _ _ c.requires _ c.callee_at.ensures _ c.in_ok-h.was, omega arith)

pub returns : goal.returns
returns c = let w = c.in_ok-h.was in search (rules, for-called)
