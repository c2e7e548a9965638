use Rattle.text_scanner.proofs.Strings.{no-quote}
use borrow.Author.Rules.{rules}
use Rattle.text_scanner.proofs.string.ends_before.Goals as goal

pub returns : goal.returns
returns c = search (rules, no-quote)
