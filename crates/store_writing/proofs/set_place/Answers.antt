use borrow.Author.Rules.{rules}
use Rattle.store_writing.proofs.Writing.{place-written}
use Rattle.store_writing.proofs.set_place.Goals as goal

pub returns : goal.returns
returns c = search (rules, place-written)
