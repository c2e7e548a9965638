use Rattle.text_reserved.proofs.Ranges.{below-range, in-range}
use borrow.Author.Rules.{rules}
use Rattle.text_reserved.proofs.is_capital.Goals as goal

pub returns-then-folded-lt-CAPITAL_A : goal.returns-then-folded-lt-CAPITAL_A
returns-then-folded-lt-CAPITAL_A c = search (rules, below-range)

pub returns : goal.returns
returns c = search (rules, in-range)
