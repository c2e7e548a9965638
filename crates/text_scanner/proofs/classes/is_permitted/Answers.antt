use Rattle.paper.specs.Words.{permitted}
use Rattle.text_reserved.proofs.Ranges.{chain}
use borrow.Author.Rules.{rules}
use Rattle.text_scanner.proofs.classes.is_permitted.Goals as goal

pub returns-then-in_range : goal.returns-then-in_range
unfolding permitted
returns-then-in_range c = search (rules, chain)

pub returns-then-b-eq9 : goal.returns-then-b-eq9
unfolding permitted
returns-then-b-eq9 c = search (rules, chain)

pub returns-then-b-eq10 : goal.returns-then-b-eq10
unfolding permitted
returns-then-b-eq10 c = search (rules, chain)

pub returns : goal.returns
unfolding permitted
returns c = search (rules, chain)
