use Rattle.text_scanner.proofs.Strings.{closed-good, closed-bad}
use borrow.Author.Rules.{rules}
use Rattle.text_scanner.proofs.string.closed.Goals as goal

pub returns-then-bad-eq0 : goal.returns-then-bad-eq0
returns-then-bad-eq0 c = search (rules, closed-good)

pub returns : goal.returns
returns c = search (rules, closed-bad)
