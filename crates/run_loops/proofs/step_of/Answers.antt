use borrow.Author.Rules.{rules}
use Rattle.run_loops.proofs.ForTests.{step-stands, step_given, step_down, step-up}
use Rattle.run_loops.proofs.step_of.Goals as goal

pub worth-requires : goal.worth-requires
worth-requires c = search (rules, step-stands)

pub returns-then-head-eq-STEP : goal.returns-then-head-eq-STEP
returns-then-head-eq-STEP c = search (rules, step_given)

pub returns-then-b-a : goal.returns-then-b-a
returns-then-b-a c = search (rules, step_down)

pub returns : goal.returns
returns c = search (rules, step-up)
