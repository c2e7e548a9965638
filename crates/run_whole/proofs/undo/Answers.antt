use borrow.Author.Rules.{rules}
use Rattle.run_whole.proofs.RunEnds.{undo-none, undo-steps, undo-walked}
use Rattle.run_whole.proofs.undo.Goals as goal

pub returns-in_default : goal.returns-in_default
returns-in_default c = search (rules, undo-none)

pub walk-w-requires : goal.walk-w-requires
walk-w-requires c = search (rules, undo-steps)

pub returns : goal.returns
returns c = search (rules, undo-walked)
