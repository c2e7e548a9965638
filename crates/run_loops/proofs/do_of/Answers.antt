use borrow.Author.Rules.{rules}
use Rattle.run_loops.proofs.ForTests.{do-behind, do-here}
use Rattle.run_loops.proofs.do_of.Goals as goal

pub returns-then-head-eq-STEP : goal.returns-then-head-eq-STEP
returns-then-head-eq-STEP c = search (rules, do-behind)

pub returns : goal.returns
returns c = search (rules, do-here)
