use borrow.Author.Rules.{rules}
use Rattle.check_routines.proofs.Leaves.{other-kind, of-kind}
use Rattle.check_routines.proofs.names_routine.Goals as goal

pub returns-then-kind_of-eq-ROUTINE : goal.returns-then-kind_of-eq-ROUTINE
returns-then-kind_of-eq-ROUTINE c = search (rules, of-kind)

pub returns-else-kind_of-eq-ROUTINE : goal.returns-else-kind_of-eq-ROUTINE
returns-else-kind_of-eq-ROUTINE c = search (rules, other-kind)
