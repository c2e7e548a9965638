use Rattle.text_scanner.proofs.Signs.{a_pair, no-pair, no-pair-below, no-pair-above}
use borrow.Author.Rules.{rules}
use Rattle.text_scanner.proofs.sign.pair_sort.Goals as goal

pub returns-then-b-lt58 : goal.returns-then-b-lt58
returns-then-b-lt58 c = search (rules, no-pair-below)

pub returns-then-b-gt62 : goal.returns-then-b-gt62
returns-then-b-gt62 c = search (rules, no-pair-above)

pub returns-then-text-gt1 : goal.returns-then-text-gt1
returns-then-text-gt1 c = search (rules, a_pair)

pub returns : goal.returns
returns c = search (rules, no-pair)
