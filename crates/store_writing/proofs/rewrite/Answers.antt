use borrow.Author.Rules.{rules}
use Rattle.store_writing.proofs.Rewriting.{two-puts}
use Rattle.store_writing.proofs.rewrite.Goals as goal

pub returns : goal.returns
returns c = search (rules, two-puts)
