use Rattle.paper.specs.Sorts.{bytes, folded, reserved, equal_texts, number_in, name_sort}
use Rattle.text_reserved.specs.Keys.{packed, behind, word_of, look, of, row, table, candidates}
use Rattle.text_reserved.proofs.Rows.{by-letter, no-letter}
use borrow.Author.Rules.{rules}
use Rattle.text_reserved.proofs.lengths.four.Goals as goal

-- antt computes the row of each letter that begins a word
pub returns-in-66 : goal.returns-in-66
unfolding candidates look table of row word_of behind packed name_sort number_in equal_texts reserved bytes folded
returns-in-66 c = search (rules, by-letter)

pub returns-in-67 : goal.returns-in-67
unfolding candidates look table of row word_of behind packed name_sort number_in equal_texts reserved bytes folded
returns-in-67 c = search (rules, by-letter)

pub returns-in-69 : goal.returns-in-69
unfolding candidates look table of row word_of behind packed name_sort number_in equal_texts reserved bytes folded
returns-in-69 c = search (rules, by-letter)

pub returns-in-70 : goal.returns-in-70
unfolding candidates look table of row word_of behind packed name_sort number_in equal_texts reserved bytes folded
returns-in-70 c = search (rules, by-letter)

pub returns-in-71 : goal.returns-in-71
unfolding candidates look table of row word_of behind packed name_sort number_in equal_texts reserved bytes folded
returns-in-71 c = search (rules, by-letter)

pub returns-in-80 : goal.returns-in-80
unfolding candidates look table of row word_of behind packed name_sort number_in equal_texts reserved bytes folded
returns-in-80 c = search (rules, by-letter)

pub returns-in-83 : goal.returns-in-83
unfolding candidates look table of row word_of behind packed name_sort number_in equal_texts reserved bytes folded
returns-in-83 c = search (rules, by-letter)

pub returns-in-84 : goal.returns-in-84
unfolding candidates look table of row word_of behind packed name_sort number_in equal_texts reserved bytes folded
returns-in-84 c = search (rules, by-letter)

pub returns-in-85 : goal.returns-in-85
unfolding candidates look table of row word_of behind packed name_sort number_in equal_texts reserved bytes folded
returns-in-85 c = search (rules, by-letter)

pub returns-in-87 : goal.returns-in-87
unfolding candidates look table of row word_of behind packed name_sort number_in equal_texts reserved bytes folded
returns-in-87 c = search (rules, by-letter)

-- and no other letter has one
pub returns-in_default : goal.returns-in_default
unfolding look table of row bytes
returns-in_default c = no-letter 4 _ _ (search rules)
