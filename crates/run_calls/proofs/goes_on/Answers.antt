use borrow.Author.Rules.{rules}
use Rattle.run_calls.proofs.CallSteps.{goes-closing, goes-own}
use Rattle.run_calls.proofs.goes_on.Goals as goal

pub returns-then-res-eq0 : goal.returns-then-res-eq0
returns-then-res-eq0 c = search (rules, goes-closing)

pub returns : goal.returns
returns c = search (rules, goes-own)
