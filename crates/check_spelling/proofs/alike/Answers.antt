use Rattle.check_spelling.proofs.Letters.{alike-equal, alike-folded}
use borrow.Author.Rules.{rules}
use Rattle.check_spelling.proofs.alike.Goals as goal

pub returns-then-a-b : goal.returns-then-a-b
returns-then-a-b c = search (rules, alike-equal)

pub returns-else-a-b : goal.returns-else-a-b
returns-else-a-b c = search (rules, alike-folded)
