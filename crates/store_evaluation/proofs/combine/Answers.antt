use borrow.Author.Rules.{rules}
use Rattle.store_evaluation.proofs.Numbers.{narrowed}
use Rattle.store_evaluation.proofs.Operators.{combine-value, combine-error}
use Rattle.store_evaluation.proofs.combine.Goals as goal

pub operate-z-requires : goal.operate-z-requires
operate-z-requires c = (search (rules, narrowed), search (rules, narrowed))

pub returns-then-is_failing : goal.returns-then-is_failing
returns-then-is_failing c = search (rules, combine-error)

pub returns : goal.returns
returns c = search (rules, combine-value)
