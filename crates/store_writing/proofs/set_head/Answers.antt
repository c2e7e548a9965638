use borrow.Author.Rules.{rules}
use Rattle.store_writing.proofs.Writing.{head-written}
use Rattle.store_writing.proofs.set_head.Goals as goal

pub returns : goal.returns
returns c = search (rules, head-written)
