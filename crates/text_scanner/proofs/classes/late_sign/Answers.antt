use Rattle.paper.specs.Sorts.{bytes, folded, signs, equal_texts, number_in, sign_sort}
use Rattle.text_scanner.proofs.Bytes.{no-late, a-sign}
use borrow.Author.Rules.{rules}
use Rattle.text_scanner.proofs.classes.late_sign.Goals as goal

-- antt computes each sign's sort
pub returns-in-92 : goal.returns-in-92
unfolding sign_sort number_in signs equal_texts bytes folded
returns-in-92 c = a-sign _ 92 c.in-92.is

pub returns-in-123 : goal.returns-in-123
unfolding sign_sort number_in signs equal_texts bytes folded
returns-in-123 c = a-sign _ 123 c.in-123.is

pub returns-in-125 : goal.returns-in-125
unfolding sign_sort number_in signs equal_texts bytes folded
returns-in-125 c = a-sign _ 125 c.in-125.is

pub returns-in_default : goal.returns-in_default
returns-in_default c = no-late _ c.ranges.b.fits c.requires (search rules)
