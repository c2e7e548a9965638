use borrow.Author.Rules.{rules}
use Rattle.store_evaluation.proofs.Operators.{apply-not, negative_fits, apply-over, apply-minus, apply-none, apply-error}
use Rattle.store_evaluation.proofs.apply.Goals as goal

pub returns-then-op-eq-NOT : goal.returns-then-op-eq-NOT
returns-then-op-eq-NOT c = search (rules, apply-not)

pub overflow_sub-a : goal.overflow_sub-a
overflow_sub-a c = search (rules, negative_fits)

pub returns-then-outside : goal.returns-then-outside
returns-then-outside c = search (rules, apply-over)

pub overflow_sub-result : goal.overflow_sub-result
overflow_sub-result c = search (rules, negative_fits)

pub returns-then-op-eq-MINUS : goal.returns-then-op-eq-MINUS
returns-then-op-eq-MINUS c = search (rules, apply-minus)

pub returns-then-is_value : goal.returns-then-is_value
returns-then-is_value c = search (rules, apply-none)

pub returns : goal.returns
returns c = search (rules, apply-error)
