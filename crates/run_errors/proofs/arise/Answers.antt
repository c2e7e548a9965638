use borrow.Author.Rules.{rules}
use Rattle.run_errors.proofs.CallsDropped.{raised-cast, raised-sub, raised-small, arise-here, arise-fails, arise-main, arise-up, arise-hands}
use Rattle.run_errors.proofs.arise.Goals as goal

pub overflow_cast-e : goal.overflow_cast-e
overflow_cast-e c = raised-cast _ c.ranges.r c.requires.1 c.if-r-ge-FIRST_ERROR.true

pub overflow_sub-e : goal.overflow_sub-e
overflow_sub-e c = search (rules, raised-sub)

pub overflow_cast-e-then-r-ge-FIRST_ERROR : goal.overflow_cast-e-then-r-ge-FIRST_ERROR
overflow_cast-e-then-r-ge-FIRST_ERROR c = search (rules, raised-small)

pub unwind-requires : goal.unwind-requires
unwind-requires c = search (rules, arise-here)

pub returns-then-r-ge-FIRST_ERROR : goal.returns-then-r-ge-FIRST_ERROR
returns-then-r-ge-FIRST_ERROR c = search (rules, arise-fails)

pub returns-then-base-eq-FIRST_WINDOW : goal.returns-then-base-eq-FIRST_WINDOW
returns-then-base-eq-FIRST_WINDOW c = search (rules, arise-main)

pub unwind-requires-2 : goal.unwind-requires-2
unwind-requires-2 c = search (rules, arise-up)

pub returns : goal.returns
returns c = search (rules, arise-hands)
