use borrow.Author.Rules.{rules}
use Rattle.run_returns.proofs.ReturnSteps.{gave-stored, gave-nothing}
use Rattle.run_returns.proofs.give.Goals as goal

pub returns-then-cell-ne0 : goal.returns-then-cell-ne0
returns-then-cell-ne0 c = search (rules, gave-stored)

pub returns-else-cell-ne0 : goal.returns-else-cell-ne0
returns-else-cell-ne0 c = search (rules, gave-nothing)
