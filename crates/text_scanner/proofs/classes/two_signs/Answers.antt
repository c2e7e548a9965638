use Rattle.paper.specs.Sorts.{bytes, folded, signs, equal_texts, number_in, sign_sort}
use Rattle.text_scanner.proofs.Bytes.{no-pair-equal, no-pair-more, unpaired, a_pair}
use Rattle.text_scanner.proofs.classes.two_signs.Goals as goal

pub returns-then-b-eq58 : goal.returns-then-b-eq58
unfolding sign_sort number_in signs equal_texts bytes folded
returns-then-b-eq58 c = a_pair _ _ 58 61 c.if-b-eq58.true c.if-c-eq61.true

pub returns-then-b-eq60 : goal.returns-then-b-eq60
unfolding sign_sort number_in signs equal_texts bytes folded
returns-then-b-eq60 c = a_pair _ _ 60 61 c.if-b-eq60.true c.if-c-eq61.true

pub returns-then-b-eq62 : goal.returns-then-b-eq62
unfolding sign_sort number_in signs equal_texts bytes folded
returns-then-b-eq62 c = a_pair _ _ 62 61 c.if-b-eq62.true c.if-c-eq61.true

pub returns-then-c-eq61 : goal.returns-then-c-eq61
returns-then-c-eq61 c =
    no-pair-equal _ _ c.ranges.b.fits c.if-c-eq61.true c.if-b-eq58.false c.if-b-eq60.false c.if-b-eq62.false

pub returns-then-b-eq60-2 : goal.returns-then-b-eq60-2
unfolding sign_sort number_in signs equal_texts bytes folded
returns-then-b-eq60-2 c = a_pair _ _ 60 62 c.if-b-eq60-2.true c.if-c-eq62.true

pub returns-else-b-eq60-2 : goal.returns-else-b-eq60-2
returns-else-b-eq60-2 c = no-pair-more _ _ c.ranges.b.fits c.if-c-eq62.true c.if-b-eq60-2.false

pub returns-else-c-eq62 : goal.returns-else-c-eq62
returns-else-c-eq62 c = unpaired _ _ c.if-c-eq61.false c.if-c-eq62.false
