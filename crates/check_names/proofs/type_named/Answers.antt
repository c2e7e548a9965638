use borrow.Author.Rules.{rules}
use Rattle.check_names.proofs.Reading.{names-num, names-bool}
use Rattle.check_names.proofs.type_named.Goals as goal

pub returns-then-s-eq-NUM : goal.returns-then-s-eq-NUM
returns-then-s-eq-NUM c = search (rules, names-num)

pub returns : goal.returns
returns c = search (rules, names-bool)
