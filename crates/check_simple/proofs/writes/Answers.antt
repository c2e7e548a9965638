use borrow.Author.Rules.{rules}
use native.Mathlib.Omega.{arith}
use Rattle.check_simple.proofs.SimpleStatements.{stands-small}
use Rattle.check_simple.proofs.TPWrite.{writes-string, writes-next, writes-behind, writes-values, writes-fits, wrote-number, wrote-plain}
use Rattle.check_simple.proofs.writes.Goals as goal

pub overflow_add-i : goal.overflow_add-i
overflow_add-i c = omega (arith, stands-small)

pub string-requires : goal.string-requires
string-requires c = search (rules, writes-string)

pub overflow_add-i-2 : goal.overflow_add-i-2
overflow_add-i-2 c = omega (arith, writes-next)

pub sort-requires : goal.sort-requires
sort-requires c = search (rules, writes-behind)

pub overflow_add-i-then-sort-eq-BACKSLASH : goal.overflow_add-i-then-sort-eq-BACKSLASH
overflow_add-i-then-sort-eq-BACKSLASH c =
    writes-fits _ _ _ _ c.requires _ c.string.ensures _ c.sort.ensures c.if-sort-eq-BACKSLASH.true

pub with_value-requires : goal.with_value-requires
with_value-requires c =
    (writes-values _ _ _ _ c.requires _ c.string.ensures _ c.sort.ensures c.if-sort-eq-BACKSLASH.true, omega arith)

pub returns-then-sort-eq-BACKSLASH : goal.returns-then-sort-eq-BACKSLASH
returns-then-sort-eq-BACKSLASH c = search (rules, wrote-number)

pub overflow_add-i-3 : goal.overflow_add-i-3
overflow_add-i-3 c = omega (arith, writes-next)

pub set_word-requires : goal.set_word-requires
set_word-requires c =
    let x = writes-behind _ _ _ _ c.requires _ c.string.ensures in omega (arith, writes-next)

pub overflow_add-result : goal.overflow_add-result
overflow_add-result c = omega (arith, writes-next)

pub returns : goal.returns
returns c = search (rules, wrote-plain)
