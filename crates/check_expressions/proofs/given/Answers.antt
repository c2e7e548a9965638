use borrow.Author.Rules.{rules}
use Rattle.check_expressions.proofs.Operators.{gives-number, gives-truth}
use Rattle.check_expressions.proofs.given.Goals as goal

pub returns-then-l-lt-RELATIONS : goal.returns-then-l-lt-RELATIONS
returns-then-l-lt-RELATIONS c = search (rules, gives-number)

pub returns-else-l-lt-RELATIONS : goal.returns-else-l-lt-RELATIONS
returns-else-l-lt-RELATIONS c = search (rules, gives-truth)
