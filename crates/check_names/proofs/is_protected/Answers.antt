use borrow.Author.Rules.{rules}
use Rattle.check_names.proofs.Reading.{protects-by}
use Rattle.check_names.proofs.is_protected.Goals as goal

pub returns : goal.returns
returns c = search (rules, protects-by)
