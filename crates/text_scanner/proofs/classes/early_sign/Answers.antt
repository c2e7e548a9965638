use Rattle.paper.specs.Sorts.{bytes, folded, signs, equal_texts, number_in, sign_sort}
use Rattle.text_scanner.proofs.Bytes.{no-early, a-sign}
use borrow.Author.Rules.{rules}
use Rattle.text_scanner.proofs.classes.early_sign.Goals as goal

-- antt computes each sign's sort
pub returns-in-40 : goal.returns-in-40
unfolding sign_sort number_in signs equal_texts bytes folded
returns-in-40 c = a-sign _ 40 c.in-40.is

pub returns-in-41 : goal.returns-in-41
unfolding sign_sort number_in signs equal_texts bytes folded
returns-in-41 c = a-sign _ 41 c.in-41.is

pub returns-in-42 : goal.returns-in-42
unfolding sign_sort number_in signs equal_texts bytes folded
returns-in-42 c = a-sign _ 42 c.in-42.is

pub returns-in-43 : goal.returns-in-43
unfolding sign_sort number_in signs equal_texts bytes folded
returns-in-43 c = a-sign _ 43 c.in-43.is

pub returns-in-44 : goal.returns-in-44
unfolding sign_sort number_in signs equal_texts bytes folded
returns-in-44 c = a-sign _ 44 c.in-44.is

pub returns-in-45 : goal.returns-in-45
unfolding sign_sort number_in signs equal_texts bytes folded
returns-in-45 c = a-sign _ 45 c.in-45.is

pub returns-in_default : goal.returns-in_default
returns-in_default c = no-early _ c.ranges.b.fits c.requires (search rules)
