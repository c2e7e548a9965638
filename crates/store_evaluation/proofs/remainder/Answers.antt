use Rattle.store_evaluation.proofs.Numbers.{divisor-ok, divided-none, rem-minus, rem_wide, rem-done}
use borrow.Author.Rules.{rules}
use Rattle.store_evaluation.proofs.remainder.Goals as goal

pub returns-then-is_zero : goal.returns-then-is_zero
returns-then-is_zero c = search (rules, divided-none)

pub returns-then-b-eqminus1 : goal.returns-then-b-eqminus1
returns-then-b-eqminus1 c = search (rules, rem-minus)

pub overflow_cast-result-3 : goal.overflow_cast-result-3
overflow_cast-result-3 c = search (rules, rem_wide)

pub returns : goal.returns
returns c = search (rules, rem-done)

pub nonzero_rem-result : goal.nonzero_rem-result
nonzero_rem-result c = divisor-ok _ _ c.ranges.a c.ranges.b c.requires.0 c.requires.1 c.is_zero.result c.is_zero.ensures c.if-is_zero.false c.if-b-eqminus1.false
