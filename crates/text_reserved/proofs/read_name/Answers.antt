use Rattle.text_reserved.proofs.Packs.{rest-name, letters-name}
use borrow.Author.Rules.{rules}
use Rattle.text_reserved.proofs.read_name.Goals as goal

pub returns-then-more : goal.returns-then-more
returns-then-more c = search (rules, rest-name)

pub returns : goal.returns
returns c = search (rules, letters-name)
