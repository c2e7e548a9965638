use borrow.Author.Rules.{rules}
use Rattle.check_datum.proofs.Contents.{datum-taken, datum-free}
use Rattle.check_datum.proofs.datum.Goals as goal

pub returns-then-is_taken : goal.returns-then-is_taken
returns-then-is_taken c = search (rules, datum-taken)

pub returns-then-sort-eq-OPEN_BRACE : goal.returns-then-sort-eq-OPEN_BRACE
returns-then-sort-eq-OPEN_BRACE c = search (rules, datum-free)

pub returns : goal.returns
returns c = search (rules, datum-free)
