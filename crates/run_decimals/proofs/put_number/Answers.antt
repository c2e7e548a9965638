use Rattle.run_decimals.proofs.Parts.{number-done, number_past, number_short}
use borrow.Author.Rules.{rules}
use Rattle.run_decimals.proofs.put_number.Goals as goal

pub returns-then-out-at : goal.returns-then-out-at
returns-then-out-at c = search (rules, number_past)

pub returns-then-out-at-2 : goal.returns-then-out-at-2
returns-then-out-at-2 c = search (rules, number_short)

pub returns : goal.returns
returns c = search (rules, number-done)
