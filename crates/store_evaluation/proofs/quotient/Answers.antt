use Rattle.store_evaluation.proofs.Numbers.{divided-none, minus-fits, divisor-ok, quot-minus, quot-wide, quot-done}
use borrow.Author.Rules.{rules}
use Rattle.store_evaluation.proofs.quotient.Goals as goal

pub returns-then-is_zero : goal.returns-then-is_zero
returns-then-is_zero c = search (rules, divided-none)

pub overflow_sub-result : goal.overflow_sub-result
overflow_sub-result c = search (rules, minus-fits)

pub returns-then-b-eqminus1 : goal.returns-then-b-eqminus1
returns-then-b-eqminus1 c = search (rules, quot-minus)

pub overflow_cast-result-3 : goal.overflow_cast-result-3
overflow_cast-result-3 c = search (rules, quot-wide)

pub returns : goal.returns
returns c = search (rules, quot-done)

pub nonzero_div-result : goal.nonzero_div-result
nonzero_div-result c = divisor-ok _ _ c.ranges.a c.ranges.b c.requires.0 c.requires.1 c.is_zero.result c.is_zero.ensures c.if-is_zero.false c.if-b-eqminus1.false
