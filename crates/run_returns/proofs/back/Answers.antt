use borrow.Author.Rules.{rules}
use Rattle.run_returns.proofs.ReturnSteps.{back-main, back-caller}
use Rattle.run_returns.proofs.back.Goals as goal

pub returns-then-base-eq-FIRST_WINDOW : goal.returns-then-base-eq-FIRST_WINDOW
returns-then-base-eq-FIRST_WINDOW c = search (rules, back-main)

pub returns : goal.returns
returns c = search (rules, back-caller)
