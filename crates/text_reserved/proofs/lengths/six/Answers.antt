use Rattle.paper.specs.Sorts.{bytes, folded, reserved, equal_texts, number_in, name_sort}
use Rattle.text_reserved.specs.Keys.{packed, behind, word_of, look, of, row, table, candidates}
use Rattle.text_reserved.proofs.Rows.{by-letter, no-letter}
use borrow.Author.Rules.{rules}
use Rattle.text_reserved.proofs.lengths.six.Goals as goal

-- antt computes the row of each letter that begins a word
pub returns-in-69 : goal.returns-in-69
unfolding candidates look table of row word_of behind packed name_sort number_in equal_texts reserved bytes folded
returns-in-69 c = search (rules, by-letter)

pub returns-in-77 : goal.returns-in-77
unfolding candidates look table of row word_of behind packed name_sort number_in equal_texts reserved bytes folded
returns-in-77 c = search (rules, by-letter)

pub returns-in-78 : goal.returns-in-78
unfolding candidates look table of row word_of behind packed name_sort number_in equal_texts reserved bytes folded
returns-in-78 c = search (rules, by-letter)

pub returns-in-82 : goal.returns-in-82
unfolding candidates look table of row word_of behind packed name_sort number_in equal_texts reserved bytes folded
returns-in-82 c = search (rules, by-letter)

-- and no other letter has one
pub returns-in_default : goal.returns-in_default
unfolding look table of row bytes
returns-in_default c = no-letter 6 _ _ (search rules)
