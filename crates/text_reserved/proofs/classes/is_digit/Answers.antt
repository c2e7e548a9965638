use Rattle.paper.specs.Words.{digit}
use borrow.Author.Rules.{rules}
use Rattle.text_reserved.proofs.classes.is_digit.Goals as goal

pub returns : goal.returns
unfolding digit
returns c = search rules
