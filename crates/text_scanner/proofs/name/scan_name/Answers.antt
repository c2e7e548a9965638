use Rattle.text_scanner.proofs.Starts.{name-long, name-short}
use borrow.Author.Rules.{rules}
use Rattle.text_scanner.proofs.name.scan_name.Goals as goal

pub returns-then-length-gt-NAME : goal.returns-then-length-gt-NAME
returns-then-length-gt-NAME c = search (rules, name-long)

pub returns : goal.returns
returns c = search (rules, name-short)
