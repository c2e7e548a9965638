use borrow.Author.Rules.{rules}
use Rattle.check_simple.proofs.OneWord.{alone-no, alone-yes}
use Rattle.check_simple.proofs.word.Goals as goal

pub returns-then-not-fine : goal.returns-then-not-fine
returns-then-not-fine c = search (rules, alone-no)

pub returns : goal.returns
returns c = search (rules, alone-yes)
