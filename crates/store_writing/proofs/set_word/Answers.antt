use borrow.Author.Rules.{rules}
use Rattle.store_writing.proofs.Writing.{word-written}
use Rattle.store_writing.proofs.set_word.Goals as goal

pub returns : goal.returns
returns c = search (rules, word-written)
