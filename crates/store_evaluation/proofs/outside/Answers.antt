use Rattle.store_evaluation.proofs.Numbers.{outside_low, outside_high}
use borrow.Author.Rules.{rules}
use Rattle.store_evaluation.proofs.outside.Goals as goal

pub returns-then-z-lt-LOWEST_NUM : goal.returns-then-z-lt-LOWEST_NUM
returns-then-z-lt-LOWEST_NUM c = search (rules, outside_low)

pub returns : goal.returns
returns c = search (rules, outside_high)
