use borrow.Author.Rules.{rules}
use mathlib.Core.Path.{refl}
use native.Mathlib.Omega.{arith}
use Rattle.paper.specs.Sorts.{AND, DIV, MOD, OR, plus, minus_sign, times, equal, less, less_equal, unequal, greater, greater_equal}
use Rattle.code.specs.Spans.{operators, operator_of}
use Rattle.check_expressions.proofs.Operators.{number-here, number-last}
use Rattle.check_expressions.proofs.number_of.Goals as goal

pub returns-in-18 : goal.returns-in-18
unfolding operator_of operators
returns-in-18 c = number-here _ plus 0 c.in-18.is (omega arith) refl

pub returns-in-19 : goal.returns-in-19
unfolding operator_of operators
returns-in-19 c = number-here _ minus_sign 1 c.in-19.is (omega arith) refl

pub returns-in-20 : goal.returns-in-20
unfolding operator_of operators
returns-in-20 c = number-here _ times 2 c.in-20.is (omega arith) refl

pub returns-in-39 : goal.returns-in-39
unfolding operator_of operators
returns-in-39 c = number-here _ DIV 3 c.in-39.is (omega arith) refl

pub returns-in-62 : goal.returns-in-62
unfolding operator_of operators
returns-in-62 c = number-here _ MOD 4 c.in-62.is (omega arith) refl

pub returns-in-13 : goal.returns-in-13
unfolding operator_of operators
returns-in-13 c = number-here _ less 5 c.in-13.is (omega arith) refl

pub returns-in-14 : goal.returns-in-14
unfolding operator_of operators
returns-in-14 c = number-here _ less_equal 6 c.in-14.is (omega arith) refl

pub returns-in-16 : goal.returns-in-16
unfolding operator_of operators
returns-in-16 c = number-here _ greater 7 c.in-16.is (omega arith) refl

pub returns-in-17 : goal.returns-in-17
unfolding operator_of operators
returns-in-17 c = number-here _ greater_equal 8 c.in-17.is (omega arith) refl

pub returns-in-12 : goal.returns-in-12
unfolding operator_of operators
returns-in-12 c = number-here _ equal 9 c.in-12.is (omega arith) refl

pub returns-in-15 : goal.returns-in-15
unfolding operator_of operators
returns-in-15 c = number-here _ unequal 10 c.in-15.is (omega arith) refl

pub returns-in-33 : goal.returns-in-33
unfolding operator_of operators
returns-in-33 c = number-here _ AND 12 c.in-33.is (omega arith) refl

pub returns-in-67 : goal.returns-in-67
unfolding operator_of operators
returns-in-67 c = number-here _ OR 13 c.in-67.is (omega arith) refl

pub returns-in_default : goal.returns-in_default
returns-in_default c = search (rules, number-last)
