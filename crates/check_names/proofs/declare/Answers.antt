use borrow.Author.Rules.{rules}
use Rattle.check_names.proofs.Answering.{declared}
use Rattle.check_names.proofs.declare.Goals as goal

pub returns : goal.returns
returns c = search (rules, declared)
