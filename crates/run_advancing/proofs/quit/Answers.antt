use borrow.Author.Rules.{rules}
use Rattle.run_advancing.proofs.NotMade.{unmade-cast, quit-stops, quit-ends, quit-stands, quit-gone, quit-on}
use Rattle.run_advancing.proofs.quit.Goals as goal

pub overflow_cast-r : goal.overflow_cast-r
overflow_cast-r c = unmade-cast _ _ _ _ _ c.ranges.r c.requires

pub over-requires : goal.over-requires
over-requires c = search (rules, quit-stops)

pub returns-then-is_lack : goal.returns-then-is_lack
returns-then-is_lack c = search (rules, quit-ends)

pub leave-requires : goal.leave-requires
leave-requires c = quit-stands _ _ _ _ _ c.ranges.r c.requires _ c.is_lack.ensures c.if-is_lack.false

pub returns-in-Some : goal.returns-in-Some
returns-in-Some c = search (rules, quit-on)

pub returns-in-None : goal.returns-in-None
returns-in-None c = search (rules, quit-gone)
