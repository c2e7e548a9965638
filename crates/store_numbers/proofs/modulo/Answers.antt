use Rattle.store_numbers.proofs.Outcomes.{modulo-zero, modulo-minus-one, modulo-done}
use borrow.Author.Rules.{rules}
use Rattle.store_numbers.proofs.modulo.Goals as goal

pub returns-then-b-eq0 : goal.returns-then-b-eq0
returns-then-b-eq0 c = search (rules, modulo-zero)

pub returns-then-b-eqminus1 : goal.returns-then-b-eqminus1
returns-then-b-eqminus1 c = search (rules, modulo-minus-one)

pub returns : goal.returns
returns c = search (rules, modulo-done)
