use borrow.Author.Rules.{rules}
use Rattle.check_simple.proofs.SimpleStatements.{stands_here, stands-next, stands-small}
use Rattle.check_simple.proofs.ReturnRaiseExit.{raise-values, raised-alone, raised-barred, raised-number}
use native.Mathlib.Omega.{arith}
use Rattle.check_simple.proofs.raises.Goals as goal

pub overflow_add-i : goal.overflow_add-i
overflow_add-i c = omega (arith, stands-small)

pub sort-requires : goal.sort-requires
sort-requires c = search (rules, stands-next)

pub word-requires : goal.word-requires
word-requires c = (omega (arith, stands_here), omega arith, omega (arith, stands-small))

pub returns-then-sort-eq-SEMICOLON : goal.returns-then-sort-eq-SEMICOLON
returns-then-sort-eq-SEMICOLON c = search (rules, raised-alone)

pub returns-then-ne : goal.returns-then-ne
returns-then-ne c = search (rules, raised-barred)

pub overflow_add-i-2 : goal.overflow_add-i-2
overflow_add-i-2 c = omega (arith, stands-small)

pub with_value-requires : goal.with_value-requires
with_value-requires c = search (rules, raise-values)

pub returns : goal.returns
returns c = search (rules, raised-number)
