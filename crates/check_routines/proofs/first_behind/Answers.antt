use borrow.Author.Rules.{rules}
use Rattle.check_routines.proofs.Leaves.{no-list-behind, a-list-behind}
use Rattle.check_routines.proofs.first_behind.Goals as goal

pub returns-then-z-e : goal.returns-then-z-e
returns-then-z-e c = search (rules, no-list-behind)

pub returns : goal.returns
returns c = search (rules, a-list-behind)
