use borrow.Author.Rules.{rules}
use Rattle.std.proofs.lemmas.Result.{err_from_is_err_and}
use Rattle.check_simple.proofs.Statements.{assign-targets, assign_end, call-assigns, value-assigns, assigned-no-target, assigned-call, assigned-value}
use native.Mathlib.Omega.{arith}
use Rattle.check_simple.proofs.assignment.Goals as goal

pub target-requires : goal.target-requires
target-requires c = search (rules, assign-targets)

pub returns-in_err-t : goal.returns-in_err-t
returns-in_err-t c =
    let w = c.in_err-t.was in
    let p = err_from_is_err_and c.from_residual.result c.from_residual.ensures.1 in
    rw (p.1, p.2) (search (rules, assigned-no-target))

pub overflow_add-b : goal.overflow_add-b
overflow_add-b c =
    omega (arith, (assign_end _ _ _ _ c.requires _ _ c.target.ensures _ _ c.in_ok-t.was).0)

pub is_call-requires : goal.is_call-requires
is_call-requires c =
    (assign_end _ _ _ _ c.requires _ _ c.target.ensures _ _ c.in_ok-t.was).1

pub assign_call-requires : goal.assign_call-requires
assign_call-requires c = call-assigns _ _ _ _ c.requires _ _ c.target.ensures _ _ c.in_ok-t.was _ c.is_call.ensures c.if-is_call.true

pub returns-then-is_call : goal.returns-then-is_call
returns-then-is_call c = let w = c.in_ok-t.was in search (rules, assigned-call)

pub assign_value-requires : goal.assign_value-requires
assign_value-requires c =
    value-assigns _ _ _ _ c.requires _ _ c.target.ensures _ _ c.in_ok-t.was _ c.is_call.ensures c.if-is_call.false

pub returns : goal.returns
returns c = let w = c.in_ok-t.was in search (rules, assigned-value)
