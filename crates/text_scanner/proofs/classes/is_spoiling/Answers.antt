use Rattle.paper.specs.Words.{spoils_number}
use Rattle.text_reserved.proofs.Ranges.{chain}
use Rattle.text_scanner.proofs.Bytes.{spoils-not}
use borrow.Author.Rules.{rules}
use Rattle.text_scanner.proofs.classes.is_spoiling.Goals as goal

pub returns-then-b-lt46 : goal.returns-then-b-lt46
returns-then-b-lt46 c = search (rules, spoils-not)

pub returns-then-is_letter : goal.returns-then-is_letter
unfolding spoils_number
returns-then-is_letter c = search (rules, chain)

pub returns-then-b-eq95 : goal.returns-then-b-eq95
unfolding spoils_number
returns-then-b-eq95 c = search (rules, chain)

pub returns : goal.returns
unfolding spoils_number
returns c = search (rules, chain)
