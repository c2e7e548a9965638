use Rattle.paper.specs.Words.{permitted_inside}
use Rattle.text_reserved.proofs.Ranges.{chain}
use borrow.Author.Rules.{rules}
use Rattle.text_scanner.proofs.classes.is_permitted_inside.Goals as goal

pub returns-then-is_permitted : goal.returns-then-is_permitted
unfolding permitted_inside
returns-then-is_permitted c = search (rules, chain)

pub returns : goal.returns
unfolding permitted_inside
returns c = search (rules, chain)
