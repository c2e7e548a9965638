use borrow.Author.Rules.{rules}
use Rattle.check_links.proofs.WordsPass.{turned-low, turned}
use Rattle.check_links.proofs.resolve_word.Goals as goal

pub returns-then-op-lt-TARGET : goal.returns-then-op-lt-TARGET
returns-then-op-lt-TARGET c = search (rules, turned-low)

pub returns : goal.returns
returns c = search (rules, turned)
