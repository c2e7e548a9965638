use Rattle.text_reserved.proofs.Ranges.{below-range, in-range}
use borrow.Author.Rules.{rules}
use Rattle.text_reserved.proofs.classes.in_range.Goals as goal

pub returns-then-b-low : goal.returns-then-b-low
returns-then-b-low c = search (rules, below-range)

pub returns : goal.returns
returns c = search (rules, in-range)
