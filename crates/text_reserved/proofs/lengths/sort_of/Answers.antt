use Rattle.text_reserved.specs.Keys.{of, table}
use Rattle.text_reserved.proofs.Rows.{by_length, no_length}
use borrow.Author.Rules.{rules}
use Rattle.text_reserved.proofs.lengths.sort_of.Goals as goal

pub returns-in-2 : goal.returns-in-2
returns-in-2 c = search (rules, by_length)

pub returns-in-3 : goal.returns-in-3
returns-in-3 c = search (rules, by_length)

pub returns-in-4 : goal.returns-in-4
returns-in-4 c = search (rules, by_length)

pub returns-in-5 : goal.returns-in-5
returns-in-5 c = search (rules, by_length)

pub returns-in-6 : goal.returns-in-6
returns-in-6 c = search (rules, by_length)

pub returns-in-7 : goal.returns-in-7
returns-in-7 c = search (rules, by_length)

pub returns-in-8 : goal.returns-in-8
returns-in-8 c = search (rules, by_length)

pub returns-in-9 : goal.returns-in-9
returns-in-9 c = search (rules, by_length)

pub returns-in_default : goal.returns-in_default
unfolding table of
returns-in_default c = no_length _ _ _ (search rules)
