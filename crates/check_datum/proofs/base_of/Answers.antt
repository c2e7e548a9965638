use borrow.Author.Rules.{rules}
use Rattle.check_datum.proofs.Words.{base-routine, base-module}
use Rattle.check_datum.proofs.base_of.Goals as goal

pub returns-then-own-eq-OF_ROUTINE : goal.returns-then-own-eq-OF_ROUTINE
returns-then-own-eq-OF_ROUTINE c = search (rules, base-routine)

pub returns : goal.returns
returns c = search (rules, base-module)
