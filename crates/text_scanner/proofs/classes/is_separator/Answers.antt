use Rattle.paper.specs.Words.{separates}
use Rattle.text_reserved.proofs.Ranges.{chain}
use borrow.Author.Rules.{rules}
use Rattle.text_scanner.proofs.classes.is_separator.Goals as goal

pub returns-then-b-eq32 : goal.returns-then-b-eq32
unfolding separates
returns-then-b-eq32 c = search (rules, chain)

pub returns-then-b-eq9 : goal.returns-then-b-eq9
unfolding separates
returns-then-b-eq9 c = search (rules, chain)

pub returns-then-b-eq13 : goal.returns-then-b-eq13
unfolding separates
returns-then-b-eq13 c = search (rules, chain)

pub returns : goal.returns
unfolding separates
returns c = search (rules, chain)
