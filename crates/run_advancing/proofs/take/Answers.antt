use borrow.Author.Rules.{rules}
use Rattle.run_advancing.proofs.NotMade.{unmade-cast, unmade-place, take-stops, take_ends, take-raises, take-dies, take-resumes}
use Rattle.run_advancing.proofs.take.Goals as goal

pub overflow_cast-r : goal.overflow_cast-r
overflow_cast-r c = unmade-cast _ _ _ _ _ c.ranges.r c.requires

pub over-requires : goal.over-requires
over-requires c = search (rules, take-stops)

pub returns-then-r-lt-HANDED : goal.returns-then-r-lt-HANDED
returns-then-r-lt-HANDED c = search (rules, take_ends)

pub arise-requires : goal.arise-requires
arise-requires c = take-raises _ _ _ _ _ c.ranges.r c.requires c.if-r-lt-HANDED.false

pub place-requires : goal.place-requires
place-requires c = search (rules, unmade-place)

pub returns-in-Some : goal.returns-in-Some
returns-in-Some c = search (rules, take-resumes)

pub returns-in-None : goal.returns-in-None
returns-in-None c = search (rules, take-dies)
