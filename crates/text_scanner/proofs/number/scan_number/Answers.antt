use Rattle.text_scanner.proofs.Values.{number-spoiled, number-large, number-good}
use borrow.Author.Rules.{rules}
use Rattle.text_scanner.proofs.number.scan_number.Goals as goal

pub returns-then-is_spoiled : goal.returns-then-is_spoiled
returns-then-is_spoiled c = search (rules, number-spoiled)

pub returns-then-value-gt-NUMBER_READ : goal.returns-then-value-gt-NUMBER_READ
returns-then-value-gt-NUMBER_READ c = rw c.at_start-then-value-gt-NUMBER_READ.ensures (number-large _ _ _ _ c.read_digits-d.ensures c.is_spoiled.ensures c.if-is_spoiled.false c.if-value-gt-NUMBER_READ.true)

pub returns : goal.returns
returns c = search (rules, number-good)
