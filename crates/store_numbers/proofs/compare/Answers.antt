use Rattle.store_numbers.proofs.Outcomes.{compared}
use borrow.Author.Rules.{rules}
use Rattle.store_numbers.proofs.compare.Goals as goal

pub returns : goal.returns
returns c = search (rules, compared)
