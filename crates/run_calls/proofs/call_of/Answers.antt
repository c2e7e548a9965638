use borrow.Author.Rules.{rules}
use native.Mathlib.Omega.{arith}
use Rattle.run_machine.proofs.Current.{step-in}
use Rattle.run_calls.proofs.CallSteps.{of-may}
use Rattle.run_calls.proofs.call_of.Goals as goal

pub overflow_add-i : goal.overflow_add-i
overflow_add-i c = omega (arith, step-in _ _ _ _ c.requires.0, c.requires.0.code-size)

pub call-requires : goal.call-requires
call-requires c = search (rules, of-may)
