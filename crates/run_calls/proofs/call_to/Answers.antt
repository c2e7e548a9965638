use borrow.Author.Rules.{rules}
use native.Mathlib.Omega.{arith}
use Rattle.run_calls.proofs.CallSteps.{to-callee, to-first, to_cell, to-may}
use Rattle.run_calls.proofs.call_to.Goals as goal

pub overflow_add-next : goal.overflow_add-next
overflow_add-next c = search (rules, to-callee)

pub overflow_add-next-2 : goal.overflow_add-next-2
overflow_add-next-2 c = search (rules, to-first)

pub overflow_add-cell : goal.overflow_add-cell
overflow_add-cell c = omega (arith, to_cell _ _ _ _ _ _ _ c.requires)

pub call-requires : goal.call-requires
call-requires c = search (rules, to-may)
