use borrow.Author.Rules.{rules}
use Rattle.run_undoing.proofs.ListsLeft.{left-main, left-stands, left-on}
use Rattle.run_undoing.proofs.leave.Goals as goal

pub returns-then-base-eq-FIRST_WINDOW : goal.returns-then-base-eq-FIRST_WINDOW
returns-then-base-eq-FIRST_WINDOW c = left-main _ _ _ _ _ c.ranges.r c.note.ensures c.if-base-eq-FIRST_WINDOW.true

pub drop_to-requires : goal.drop_to-requires
drop_to-requires c = search (rules, left-stands)

pub returns : goal.returns
returns c = search (rules, left-on)
