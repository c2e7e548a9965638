use borrow.Author.Rules.{rules}
use Rattle.check_simple.proofs.KindsAndTypes.{wrong-none, wrong-high, wrong-other}
use Rattle.check_simple.proofs.wrong_name.Goals as goal

pub returns-in-1-to-7 : goal.returns-in-1-to-7
returns-in-1-to-7 c = search (rules, wrong-other)

pub returns-in_default : goal.returns-in_default
returns-in_default c = search (rules, wrong-none)

pub returns-in_default-2 : goal.returns-in_default-2
returns-in_default-2 c = search (rules, wrong-high)
