use Rattle.paper.specs.Sorts.{bytes, folded, signs, equal_texts, number_in, sign_sort}
use Rattle.text_scanner.proofs.Bytes.{last-middle, a-sign}
use borrow.Author.Rules.{rules}
use Rattle.text_scanner.proofs.classes.middle_sign.Goals as goal

-- antt computes each sign's sort
pub returns-in-58 : goal.returns-in-58
unfolding sign_sort number_in signs equal_texts bytes folded
returns-in-58 c = a-sign _ 58 c.in-58.is

pub returns-in-59 : goal.returns-in-59
unfolding sign_sort number_in signs equal_texts bytes folded
returns-in-59 c = a-sign _ 59 c.in-59.is

pub returns-in-60 : goal.returns-in-60
unfolding sign_sort number_in signs equal_texts bytes folded
returns-in-60 c = a-sign _ 60 c.in-60.is

pub returns-in-61 : goal.returns-in-61
unfolding sign_sort number_in signs equal_texts bytes folded
returns-in-61 c = a-sign _ 61 c.in-61.is

pub returns-in_default : goal.returns-in_default
unfolding sign_sort number_in signs equal_texts bytes folded
returns-in_default c = a-sign _ 62 (last-middle _ c.requires.0 c.requires.1 (search rules))
