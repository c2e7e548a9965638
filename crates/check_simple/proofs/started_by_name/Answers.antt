use borrow.Author.Rules.{rules}
use native.Mathlib.Omega.{arith}
use Rattle.check_simple.proofs.SimpleStatements.{stands-next, stands-small}
use Rattle.check_simple.proofs.Statements.{name-assigns, name-calls, begun-assigned, begun-calls}
use Rattle.check_simple.proofs.started_by_name.Goals as goal

pub overflow_add-i : goal.overflow_add-i
overflow_add-i c = omega (arith, stands-small)

pub sort-requires : goal.sort-requires
sort-requires c = search (rules, stands-next)

pub assignment-requires : goal.assignment-requires
assignment-requires c = search (rules, name-assigns)

pub returns-in-11 : goal.returns-in-11
returns-in-11 c = search (rules, begun-assigned)

pub call_of-requires : goal.call_of-requires
call_of-requires c = search (rules, name-calls)

pub returns-in_default : goal.returns-in_default
returns-in_default c = search (rules, begun-calls)
