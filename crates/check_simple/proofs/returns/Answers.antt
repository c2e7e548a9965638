use borrow.Author.Rules.{rules}
use native.Mathlib.Omega.{arith}
use Rattle.check_simple.proofs.SimpleStatements.{stands_here, stands-next, stands-small}
use Rattle.check_simple.proofs.ReturnRaiseExit.{return-values, returned-undo, returned-alone, returned-proc, returned-func}
use Rattle.check_simple.proofs.returns.Goals as goal

pub returns-then-eq : goal.returns-then-eq
returns-then-eq c = search (rules, returned-undo)

pub overflow_add-i : goal.overflow_add-i
overflow_add-i c = omega (arith, stands-small)

pub sort-requires : goal.sort-requires
sort-requires c = search (rules, stands-next)

pub word-requires : goal.word-requires
word-requires c = (omega (arith, stands_here), omega arith, omega (arith, stands-small))

pub returns-then-sort-eq-SEMICOLON : goal.returns-then-sort-eq-SEMICOLON
returns-then-sort-eq-SEMICOLON c = search (rules, returned-alone)

pub overflow_add-i-in-Some : goal.overflow_add-i-in-Some
overflow_add-i-in-Some c = omega (arith, stands-small)

pub with_value-requires : goal.with_value-requires
with_value-requires c =
    (return-values _ _ _ _ c.requires _ c.sort.ensures c.if-sort-eq-SEMICOLON.false, omega arith)

pub returns-in-Some : goal.returns-in-Some
returns-in-Some c = let e = c.in-Some.is in search (rules, returned-func)

pub returns-in-None : goal.returns-in-None
returns-in-None c = let e = c.in-None.is in search (rules, returned-proc)
