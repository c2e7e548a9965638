use borrow.Author.Rules.{rules}
use Rattle.call_pendant.proofs.TwoCalls.{run-called}
use Rattle.call_pendant.proofs.rapid_run.Goals as goal

pub returns : goal.returns
returns c = search (rules, run-called)
