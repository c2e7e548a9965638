use borrow.Author.Rules.{rules}
use mathlib.Core.Path.{refl}
use native.Mathlib.Omega.{arith}
use Rattle.paper.specs.Sorts.{NOT, minus_sign}
use Rattle.code.specs.Spans.{a_not, a_minus, prefix_in}
use Rattle.check_expressions.proofs.Operators.{prefix_here, prefix-plus}
use Rattle.check_expressions.proofs.prefix_of.Goals as goal

pub returns-in-65 : goal.returns-in-65
unfolding prefix_in
returns-in-65 c = prefix_here _ NOT a_not c.in-65.is (omega arith) (omega arith) refl

pub returns-in-19 : goal.returns-in-19
unfolding prefix_in
returns-in-19 c = prefix_here _ minus_sign a_minus c.in-19.is (omega arith) (omega arith) refl

pub returns-in_default : goal.returns-in_default
returns-in_default c = search (rules, prefix-plus)
