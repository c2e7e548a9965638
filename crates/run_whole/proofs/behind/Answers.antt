use borrow.Author.Rules.{rules}
use Rattle.run_whole.proofs.Walking.{left-counted, left-same}
use Rattle.run_whole.proofs.behind.Goals as goal

pub returns-then-counts : goal.returns-then-counts
returns-then-counts c = search (rules, left-counted)

pub returns : goal.returns
returns c = search (rules, left-same)
