use borrow.Author.Rules.{rules}
use Rattle.run_whole.proofs.RunAborted.{run-never, run-below, run-through, run-strikes, run-struck}
use Rattle.run_whole.proofs.run.Goals as goal

pub returns-in_default : goal.returns-in_default
returns-in_default c = search (rules, run-never)

pub returns-then-steps-at : goal.returns-then-steps-at
returns-then-steps-at c = search (rules, run-below)

pub returns-in_default-ending : goal.returns-in_default-ending
returns-in_default-ending c = search (rules, run-through)

pub undo-requires : goal.undo-requires
undo-requires c =
    run-strikes _ _ _ _ _ _ _ _ c.requires _ _ _ c.set_out-w.ensures c.in-StepsSpent.is _ c.last_window.ensures

pub returns : goal.returns
returns c =
    run-struck _ _ _ _ _ _ _ _ c.requires _ _ _ c.set_out-w.ensures c.in-StepsSpent.is _ c.last_window.ensures
    _ _ c.allowed-n.ensures _ _ c.in-At.is c.if-steps-at.false _ _ _ c.undo.ensures
