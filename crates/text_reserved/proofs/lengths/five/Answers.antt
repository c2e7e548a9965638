use Rattle.paper.specs.Sorts.{bytes, folded, reserved, equal_texts, number_in, name_sort}
use Rattle.text_reserved.specs.Keys.{packed, behind, word_of, look, of, row, table, candidates}
use Rattle.text_reserved.proofs.Rows.{by-letter, no-letter}
use borrow.Author.Rules.{rules}
use Rattle.text_reserved.proofs.lengths.five.Goals as goal

-- antt computes the row of each letter that begins a word
pub returns-in-65 : goal.returns-in-65
unfolding candidates look table of row word_of behind packed name_sort number_in equal_texts reserved bytes folded
returns-in-65 c = search (rules, by-letter)

pub returns-in-67 : goal.returns-in-67
unfolding candidates look table of row word_of behind packed name_sort number_in equal_texts reserved bytes folded
returns-in-67 c = search (rules, by-letter)

pub returns-in-69 : goal.returns-in-69
unfolding candidates look table of row word_of behind packed name_sort number_in equal_texts reserved bytes folded
returns-in-69 c = search (rules, by-letter)

pub returns-in-70 : goal.returns-in-70
unfolding candidates look table of row word_of behind packed name_sort number_in equal_texts reserved bytes folded
returns-in-70 c = search (rules, by-letter)

pub returns-in-73 : goal.returns-in-73
unfolding candidates look table of row word_of behind packed name_sort number_in equal_texts reserved bytes folded
returns-in-73 c = search (rules, by-letter)

pub returns-in-76 : goal.returns-in-76
unfolding candidates look table of row word_of behind packed name_sort number_in equal_texts reserved bytes folded
returns-in-76 c = search (rules, by-letter)

pub returns-in-82 : goal.returns-in-82
unfolding candidates look table of row word_of behind packed name_sort number_in equal_texts reserved bytes folded
returns-in-82 c = search (rules, by-letter)

pub returns-in-87 : goal.returns-in-87
unfolding candidates look table of row word_of behind packed name_sort number_in equal_texts reserved bytes folded
returns-in-87 c = search (rules, by-letter)

-- and no other letter has one
pub returns-in_default : goal.returns-in_default
unfolding look table of row bytes
returns-in_default c = no-letter 5 _ _ (search rules)
