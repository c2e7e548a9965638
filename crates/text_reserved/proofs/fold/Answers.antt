use Rattle.text_reserved.proofs.Folds.{folds}
use borrow.Author.Rules.{rules}
use Rattle.text_reserved.proofs.fold.Goals as goal

pub returns : goal.returns
returns c = folds _ (search rules)
