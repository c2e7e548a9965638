use Rattle.text_reserved.proofs.Rows.{this-one, other-one}
use borrow.Author.Rules.{rules}
use Rattle.text_reserved.proofs.lengths.when.Goals as goal

pub returns-then-rest-word : goal.returns-then-rest-word
returns-then-rest-word c = search (rules, this-one)

pub returns : goal.returns
returns c = search (rules, other-one)
