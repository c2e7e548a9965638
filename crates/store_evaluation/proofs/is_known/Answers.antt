use borrow.Author.Rules.{rules}
use Rattle.store_evaluation.proofs.Operators.{known-and, known-or, known-none}
use Rattle.store_evaluation.proofs.is_known.Goals as goal

pub returns-in-12 : goal.returns-in-12
returns-in-12 c = search (rules, known-and)

pub returns-in-13 : goal.returns-in-13
returns-in-13 c = search (rules, known-or)

pub returns-in_default : goal.returns-in_default
returns-in_default c = search (rules, known-none)
