use borrow.Author.Rules.{rules}
use Rattle.check_names.proofs.Answering.{left}
use Rattle.check_names.proofs.restore.Goals as goal

pub returns : goal.returns
returns c = search (rules, left)
