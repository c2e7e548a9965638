use Rattle.check_load.proofs.NextWord.{name-comes, goes_other}
use borrow.Author.Rules.{rules}
use Rattle.check_load.proofs.load_word.Goals as goal

pub load_name-requires : goal.load_name-requires
load_name-requires c = search (rules, name-comes)

pub returns : goal.returns
returns c = search (rules, goes_other)
