use borrow.Author.Rules.{rules}
use native.Mathlib.Omega.{arith}
use Rattle.check_datum.proofs.Words.{base-small, starts-routine, starts-module}
use Rattle.check_datum.proofs.start.Goals as goal

pub overflow_add-base_of : goal.overflow_add-base_of
overflow_add-base_of c = omega (arith, base-small _ _ c.base_of.ensures)

pub fill-requires : goal.fill-requires
fill-requires c = let h = base-small _ _ c.base_of.ensures in (omega (arith, h), omega (arith, h))

pub returns-then-own-eq-OF_ROUTINE : goal.returns-then-own-eq-OF_ROUTINE
returns-then-own-eq-OF_ROUTINE c = search (rules, starts-routine)

pub returns-else-own-eq-OF_ROUTINE : goal.returns-else-own-eq-OF_ROUTINE
returns-else-own-eq-OF_ROUTINE c = search (rules, starts-module)
