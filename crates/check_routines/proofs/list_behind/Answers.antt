use borrow.Author.Rules.{rules}
use native.Mathlib.Omega.{arith}
use Rattle.check_routines.proofs.ListBehind.{behind-room, behind-small, behind-list, behind-missing, behind-passed}
use Rattle.check_names.proofs.Growing.{grown-self}
use Rattle.check_routines.proofs.list_behind.Goals as goal

pub sort-requires : goal.sort-requires
sort-requires c = search (rules, behind-room)

pub returns-then-sort-leader : goal.returns-then-sort-leader
returns-then-sort-leader c = search (rules, behind-missing, grown-self)

pub overflow_add-e : goal.overflow_add-e
overflow_add-e c = omega (arith, behind-small)

pub list-requires : goal.list-requires
list-requires c = search (rules, behind-list)

pub returns : goal.returns
returns c = search (rules, behind-passed)
