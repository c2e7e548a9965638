use borrow.Author.Rules.{rules}
use native.Mathlib.Omega.{arith}
use Rattle.check_leaving.proofs.NamesAgain.{parameters-kept, leave_room, leave-table, leave-links, leave-adds, next-adds, parameters-leave, parameters-left}
use Rattle.check_leaving.proofs.leave_parameters.Goals as goal

pub loop-init : goal.loop-init
loop-init c = search (rules, parameters-kept)

pub overflow_add-at : goal.overflow_add-at
overflow_add-at c = leave-adds _ _ _ _ _ _ _ c.loop.invariant c.requires (omega arith)

pub restore-requires : goal.restore-requires
restore-requires c =
    let m = c.loop.invariant in
    (leave_room _ _ _ _ _ _ _ m c.requires (omega arith), leave-table _ _ _ _ _ _ _ m c.requires (omega arith), leave-links _ _ _ _ _ _ _ m c.requires (omega arith))

pub overflow_add-at-in-loop : goal.overflow_add-at-in-loop
overflow_add-at-in-loop c = next-adds _ _ _ _ _ _ _ c.loop.invariant c.requires (omega arith)

pub loop-preserved : goal.loop-preserved
loop-preserved c = parameters-leave _ _ _ _ _ _ _ c.loop.invariant c.requires (omega arith) _ c.restore.ensures _ (omega arith)

pub returns : goal.returns
returns c = parameters-left _ _ _ _ _ _ _ c.loop.invariant (omega arith)
