use borrow.Author.Rules.{rules}
use Rattle.store_evaluation.proofs.Numbers.{narrowed}
use Rattle.store_evaluation.proofs.Operators.{sum_fits, difference-fits, product-fits, work-add, work-subtract, work-multiply, work-divide, work-modulo}
use Rattle.store_evaluation.proofs.Operators.{work-less, work-less-equal, work-greater, work-greater-equal, work-equal, work-unequal, work-xor, work-both, work-either, work-14, work-15, work-rest}
use Rattle.store_evaluation.proofs.operate.Goals as goal

pub overflow_add-result : goal.overflow_add-result
overflow_add-result c = search (rules, sum_fits)

pub overflow_sub-result : goal.overflow_sub-result
overflow_sub-result c = search (rules, difference-fits)

pub overflow_mul-result : goal.overflow_mul-result
overflow_mul-result c = search (rules, product-fits)

pub quotient-requires : goal.quotient-requires
quotient-requires c = (search (rules, narrowed), search (rules, narrowed))

pub remainder-requires : goal.remainder-requires
remainder-requires c = (search (rules, narrowed), search (rules, narrowed))

pub both-requires : goal.both-requires
both-requires c = (search (rules, narrowed), search (rules, narrowed))

pub either-requires : goal.either-requires
either-requires c = (search (rules, narrowed), search (rules, narrowed))

pub returns-in-0 : goal.returns-in-0
returns-in-0 c = search (rules, work-add)

pub returns-in-1 : goal.returns-in-1
returns-in-1 c = search (rules, work-subtract)

pub returns-in-2 : goal.returns-in-2
returns-in-2 c = search (rules, work-multiply)

pub returns-in-3 : goal.returns-in-3
returns-in-3 c = search (rules, work-divide)

pub returns-in-4 : goal.returns-in-4
returns-in-4 c = search (rules, work-modulo)

pub returns-in-5 : goal.returns-in-5
returns-in-5 c = search (rules, work-less)

pub returns-in-6 : goal.returns-in-6
returns-in-6 c = search (rules, work-less-equal)

pub returns-in-7 : goal.returns-in-7
returns-in-7 c = search (rules, work-greater)

pub returns-in-8 : goal.returns-in-8
returns-in-8 c = search (rules, work-greater-equal)

pub returns-in-9 : goal.returns-in-9
returns-in-9 c = search (rules, work-equal)

pub returns-in-10 : goal.returns-in-10
returns-in-10 c = search (rules, work-unequal)

pub returns-in-11 : goal.returns-in-11
returns-in-11 c = search (rules, work-xor)

pub returns-in-12 : goal.returns-in-12
returns-in-12 c = search (rules, work-both)

pub returns-in-13 : goal.returns-in-13
returns-in-13 c = search (rules, work-either)

pub returns-in-14 : goal.returns-in-14
returns-in-14 c = search (rules, work-14)

pub returns-in-15 : goal.returns-in-15
returns-in-15 c = search (rules, work-15)

pub returns-in_default : goal.returns-in_default
returns-in_default c = search (rules, work-rest)
