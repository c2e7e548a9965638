use Rattle.text_scanner.proofs.Bytes.{barred-in-print, barred-cr, barred-lf}
use borrow.Author.Rules.{rules}
use Rattle.text_scanner.proofs.classes.is_barred.Goals as goal

pub returns-then-in_range : goal.returns-then-in_range
returns-then-in_range c = search (rules, barred-in-print)

pub returns-then-b-eq13 : goal.returns-then-b-eq13
returns-then-b-eq13 c = search (rules, barred-cr)

pub returns : goal.returns
returns c = search (rules, barred-lf)
