use borrow.Author.Rules.{rules}
use Rattle.call_screen.proofs.Lines.{behind-last, behind-other}
use Rattle.call_screen.proofs.behind.Goals as goal

pub returns-then-k-eq-LAST : goal.returns-then-k-eq-LAST
returns-then-k-eq-LAST c = search (rules, behind-last)

pub returns-else-k-eq-LAST : goal.returns-else-k-eq-LAST
returns-else-k-eq-LAST c = search (rules, behind-other)
