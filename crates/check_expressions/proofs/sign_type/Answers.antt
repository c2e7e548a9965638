use borrow.Author.Rules.{rules}
use Rattle.check_expressions.proofs.Operators.{sign-not, sign-other}
use Rattle.check_expressions.proofs.sign_type.Goals as goal

pub returns-then-s-eq-NOT : goal.returns-then-s-eq-NOT
returns-then-s-eq-NOT c = search (rules, sign-not)

pub returns-else-s-eq-NOT : goal.returns-else-s-eq-NOT
returns-else-s-eq-NOT c = search (rules, sign-other)
