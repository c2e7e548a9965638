use Rattle.text_scanner.proofs.Values.{still-large}
use borrow.Author.Rules.{rules}
use Rattle.text_scanner.proofs.number.with_digit.Goals as goal

pub returns-then-value-gt-NUMBER_READ : goal.returns-then-value-gt-NUMBER_READ
returns-then-value-gt-NUMBER_READ c = search (rules, still-large)
