use borrow.Author.Rules.{rules}
use Rattle.store_writing.proofs.Writing.{value_written}
use Rattle.store_writing.proofs.set_value.Goals as goal

pub returns : goal.returns
returns c = search (rules, value_written)
