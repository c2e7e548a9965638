use borrow.Author.Rules.{rules}
use Rattle.check_datum.proofs.Words.{word-cast, word-is}
use Rattle.check_datum.proofs.word_of.Goals as goal

pub overflow_cast-v : goal.overflow_cast-v
overflow_cast-v c = search (rules, word-cast)

pub returns : goal.returns
returns c = search (rules, word-is)
