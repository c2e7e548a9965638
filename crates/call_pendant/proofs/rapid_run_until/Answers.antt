use borrow.Author.Rules.{rules}
use Rattle.call_pendant.proofs.TwoCalls.{until-flagged, until-called}
use Rattle.call_pendant.proofs.rapid_run_until.Goals as goal

pub returns-then-flags-ne0 : goal.returns-then-flags-ne0
returns-then-flags-ne0 c = search (rules, until-flagged)

pub returns : goal.returns
returns c = search (rules, until-called)
