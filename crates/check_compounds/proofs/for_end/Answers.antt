use borrow.Author.Rules.{rules}
use Rattle.check_compounds.proofs.Ends.{for-ended}
use Rattle.check_compounds.proofs.for_end.Goals as goal

pub returns : goal.returns
returns c = search (rules, for-ended)
