use borrow.Author.Rules.{rules}
use Rattle.run_undoing.proofs.ListsLeft.{note-cast, note-sub, note-small, noted-error, noted-none}
use Rattle.run_undoing.proofs.note.Goals as goal

pub overflow_cast-e : goal.overflow_cast-e
overflow_cast-e c = note-cast _ _ c.ranges.r c.requires c.if-r-ge-FIRST_ERROR.true

pub overflow_sub-e : goal.overflow_sub-e
overflow_sub-e c = search (rules, note-sub)

pub overflow_cast-e-then-r-ge-FIRST_ERROR : goal.overflow_cast-e-then-r-ge-FIRST_ERROR
overflow_cast-e-then-r-ge-FIRST_ERROR c = search (rules, note-small)

pub returns-then-r-ge-FIRST_ERROR : goal.returns-then-r-ge-FIRST_ERROR
returns-then-r-ge-FIRST_ERROR c = search (rules, noted-error)

pub returns-else-r-ge-FIRST_ERROR : goal.returns-else-r-ge-FIRST_ERROR
returns-else-r-ge-FIRST_ERROR c = search (rules, noted-none)
