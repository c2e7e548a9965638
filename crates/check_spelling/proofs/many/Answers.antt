use Rattle.check_spelling.proofs.Hashing.{mixes-start, mixes-on, mixes-end}
use borrow.Author.Rules.{rules}
use Rattle.check_spelling.proofs.many.Goals as goal

pub loop-k-init : goal.loop-k-init
loop-k-init c = search (rules, mixes-start)

pub loop-k-preserved : goal.loop-k-preserved
loop-k-preserved c = search (rules, mixes-on)

pub returns : goal.returns
returns c = search (rules, mixes-end)
