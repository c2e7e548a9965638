use Rattle.text_scanner.proofs.Starts.{nothing, a-name, a-number, a-string, a-sign}
use borrow.Author.Rules.{rules}
use Rattle.text_scanner.proofs.scan_word.Goals as goal

pub returns-then-text-eq0 : goal.returns-then-text-eq0
returns-then-text-eq0 c = search (rules, nothing)

pub returns-then-is_letter : goal.returns-then-is_letter
returns-then-is_letter c = search (rules, a-name)

pub returns-then-is_digit : goal.returns-then-is_digit
returns-then-is_digit c = search (rules, a-number)

pub returns-then-b-eq34 : goal.returns-then-b-eq34
returns-then-b-eq34 c = search (rules, a-string)

pub returns : goal.returns
returns c = search (rules, a-sign)
