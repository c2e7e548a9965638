use borrow.Author.Rules.{rules}
use Rattle.check_names.proofs.Answering.{meant}
use Rattle.check_names.proofs.meaning.Goals as goal

pub returns : goal.returns
returns c = search (rules, meant)
