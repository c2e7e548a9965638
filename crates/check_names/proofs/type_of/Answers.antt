use borrow.Author.Rules.{rules}
use Rattle.check_names.proofs.Reading.{tells-num, tells-bool}
use Rattle.check_names.proofs.type_of.Goals as goal

pub returns : goal.returns
returns c = search (rules, tells-num, tells-bool)
