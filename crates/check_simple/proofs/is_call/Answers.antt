use borrow.Author.Rules.{rules}
use Rattle.check_simple.proofs.KindsAndTypes.{call-not, call-is}
use Rattle.check_simple.proofs.is_call.Goals as goal

pub returns-then-sort-eq-NAME : goal.returns-then-sort-eq-NAME
returns-then-sort-eq-NAME c = search (rules, call-is)

pub returns-else-sort-eq-NAME : goal.returns-else-sort-eq-NAME
returns-else-sort-eq-NAME c = search (rules, call-not)
