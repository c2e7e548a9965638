use borrow.Author.Rules.{rules}
use mathlib.Core.Path.{sym}
use Rattle.std.proofs.lemmas.Result.{err_from_is_err_and}
use Rattle.check_simple.proofs.FunctionCalls.{assign-small, assign-fits, assign-next, assign-op-fits, call-faulty, call-typed}
use native.Mathlib.Omega.{arith}
use Rattle.check_simple.proofs.assign_call.Goals as goal

pub overflow_add-b : goal.overflow_add-b
overflow_add-b c = omega (arith, assign-small)

pub returns-in_err-end : goal.returns-in_err-end
returns-in_err-end c =
    let w = c.in_err-end.was in
    let p = err_from_is_err_and c.from_residual.result c.from_residual.ensures.1 in
    rw (p.1, p.2, sym w) (search (rules, call-faulty))

pub head-w-requires : goal.head-w-requires
head-w-requires c =
    (assign-fits _ _ _ _ _ _ c.requires _ _ c.call_for.ensures _ c.in_ok-end.was).1

pub overflow_add-end : goal.overflow_add-end
overflow_add-end c = let w = c.in_ok-end.was in search (rules, assign-next)

pub set_word-requires : goal.set_word-requires
set_word-requires c =
    let x = assign-fits _ _ _ _ _ _ c.requires _ _ c.call_for.ensures _ c.in_ok-end.was in let y = assign-op-fits _ _ _ _ _ _ c.requires _ _ c.call_for.ensures _ c.in_ok-end.was _ c.head-w.ensures in let u = x.0 in let v = x.1 in search rules

pub overflow_add-result : goal.overflow_add-result
overflow_add-result c = let w = c.in_ok-end.was in search (rules, assign-next)

pub returns : goal.returns
returns c = let w = c.in_ok-end.was in search (rules, call-typed)
