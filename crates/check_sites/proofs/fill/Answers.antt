use borrow.Author.Rules.{rules}
use Rattle.check_sites.proofs.Words.{fills-none, fills-more, fills-long, fills-done}
use Rattle.check_sites.proofs.fill.Goals as goal

pub loop-k-init : goal.loop-k-init
loop-k-init c = search (rules, fills-none)

pub loop-k-preserved : goal.loop-k-preserved
loop-k-preserved c = search (rules, fills-more)

pub shape_of-values : goal.shape_of-values
shape_of-values c = search (rules, fills-long)

pub returns : goal.returns
returns c = search (rules, fills-done)
