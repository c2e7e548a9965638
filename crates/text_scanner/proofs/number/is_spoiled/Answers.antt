use Rattle.text_scanner.proofs.Values.{nothing-spoils}
use borrow.Author.Rules.{rules}
use Rattle.text_scanner.proofs.number.is_spoiled.Goals as goal

pub returns : goal.returns
returns c = search (rules, nothing-spoils)
