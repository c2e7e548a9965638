use borrow.Author.Rules.{rules}
use Rattle.check_routines.proofs.Leaves.{a-function-end, a-plain-end}
use Rattle.check_routines.proofs.end_list.Goals as goal

pub returns-then-function : goal.returns-then-function
returns-then-function c = search (rules, a-function-end)

pub returns-else-function : goal.returns-else-function
returns-else-function c = search (rules, a-plain-end)
