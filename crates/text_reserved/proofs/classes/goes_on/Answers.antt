use Rattle.text_reserved.proofs.Ranges.{chain}
use borrow.Author.Rules.{rules}
use Rattle.text_reserved.proofs.classes.goes_on.Goals as goal

pub returns-then-is_digit : goal.returns-then-is_digit
returns-then-is_digit c = search (rules, chain)

pub returns : goal.returns
returns c = search (rules, chain)
