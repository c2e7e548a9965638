use Rattle.paper.specs.Numbers.{minus}
use Rattle.store_numbers.proofs.Outcomes.{divide-zero, divide-minus-one, divide-done}
use borrow.Author.Rules.{rules}
use Rattle.store_numbers.proofs.divide.Goals as goal

pub returns-then-b-eq0 : goal.returns-then-b-eq0
returns-then-b-eq0 c = search (rules, divide-zero)

pub returns-then-b-eqminus1 : goal.returns-then-b-eqminus1
unfolding minus
returns-then-b-eqminus1 c = search (rules, divide-minus-one)

pub returns : goal.returns
returns c = search (rules, divide-done)
