use borrow.Author.Rules.{rules}
use Rattle.run_whole.proofs.Walking.{spent-aborted, spent-plain}
use Rattle.run_whole.proofs.spent.Goals as goal

pub returns-then-aborted : goal.returns-then-aborted
returns-then-aborted c = search (rules, spent-aborted)

pub returns : goal.returns
returns c = search (rules, spent-plain)
