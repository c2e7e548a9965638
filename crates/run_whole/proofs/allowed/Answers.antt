use borrow.Author.Rules.{rules}
use Rattle.run_whole.proofs.RunAborted.{allowed-never, allowed-below, allowed_at}
use Rattle.run_whole.proofs.allowed.Goals as goal

pub returns-in_default : goal.returns-in_default
returns-in_default c = search (rules, allowed-never)

pub returns-then-at-steps : goal.returns-then-at-steps
returns-then-at-steps c = search (rules, allowed_at)

pub returns : goal.returns
returns c = search (rules, allowed-below)
