use borrow.Author.Rules.{rules}
use Rattle.check_routines.proofs.Leaves.{finished}
use Rattle.check_routines.proofs.finish.Goals as goal

pub returns : goal.returns
returns c = search (rules, finished)
