use borrow.Author.Rules.{rules}
use Rattle.store_writing.proofs.Writing.{link-written}
use Rattle.store_writing.proofs.set_link.Goals as goal

pub returns : goal.returns
returns c = search (rules, link-written)
