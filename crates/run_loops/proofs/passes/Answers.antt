use borrow.Author.Rules.{rules}
use Rattle.run_loops.proofs.ForTests.{passes-down, passes_up}
use Rattle.run_loops.proofs.passes.Goals as goal

pub returns-then-step-lt0 : goal.returns-then-step-lt0
returns-then-step-lt0 c = search (rules, passes-down)

pub returns : goal.returns
returns c = search (rules, passes_up)
