use Rattle.check_heads.proofs.Leaves.{names-plain, names-function}
use borrow.Author.Rules.{rules}
use Rattle.check_heads.proofs.name_of.Goals as goal

pub returns-then-sort-ne-FUNC : goal.returns-then-sort-ne-FUNC
returns-then-sort-ne-FUNC c = search (rules, names-plain)

pub returns : goal.returns
returns c = search (rules, names-function)
