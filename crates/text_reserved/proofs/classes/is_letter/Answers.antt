use Rattle.paper.specs.Words.{letter}
use Rattle.text_reserved.proofs.Ranges.{chain}
use borrow.Author.Rules.{rules}
use Rattle.text_reserved.proofs.classes.is_letter.Goals as goal

pub returns-then-in_range : goal.returns-then-in_range
unfolding letter
returns-then-in_range c = search (rules, chain)

pub returns : goal.returns
unfolding letter
returns c = search (rules, chain)
