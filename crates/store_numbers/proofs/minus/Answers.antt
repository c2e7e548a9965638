use Rattle.paper.specs.Numbers.{minus, subtract}
use Rattle.store_numbers.proofs.Outcomes.{minus-done}
use borrow.Author.Rules.{rules}
use Rattle.store_numbers.proofs.minus.Goals as goal

pub returns : goal.returns
unfolding minus subtract
returns c = search (rules, minus-done)
