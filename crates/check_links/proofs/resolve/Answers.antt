use Rattle.check_links.proofs.WordsPass.{passing-start, passing-on, passing-end}
use borrow.Author.Rules.{rules}
use Rattle.check_links.proofs.resolve.Goals as goal

pub loop-i-init : goal.loop-i-init
loop-i-init c = search (rules, passing-start)

pub loop-i-preserved : goal.loop-i-preserved
loop-i-preserved c = search (rules, passing-on)

pub returns : goal.returns
returns c = search (rules, passing-end)
