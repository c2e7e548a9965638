use Rattle.store_numbers.proofs.Outcomes.{held_low, held_high, held}
use borrow.Author.Rules.{rules}
use Rattle.store_numbers.proofs.ranged.Goals as goal

pub returns-then-z-r : goal.returns-then-z-r
returns-then-z-r c = search (rules, held_low)

pub returns-then-r-z : goal.returns-then-r-z
returns-then-r-z c = search (rules, held_high)

pub returns : goal.returns
returns c = search (rules, held)
