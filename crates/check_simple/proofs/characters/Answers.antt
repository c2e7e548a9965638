use borrow.Author.Rules.{rules}
use Rattle.check_simple.proofs.Strings.{counting-first, counting-on, counting-done}
use Rattle.check_simple.proofs.characters.Goals as goal

pub loop-k-init : goal.loop-k-init
loop-k-init c = search (rules, counting-first)

pub loop-k-preserved : goal.loop-k-preserved
loop-k-preserved c = search (rules, counting-on)

pub returns : goal.returns
returns c = search (rules, counting-done)
