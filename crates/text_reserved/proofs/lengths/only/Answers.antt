use Rattle.text_reserved.specs.Keys.{chosen}
use borrow.Author.Rules.{rules}
use Rattle.text_reserved.proofs.lengths.only.Goals as goal

pub returns : goal.returns
unfolding chosen
returns c = search rules
