use borrow.Author.Rules.{rules}
use Rattle.call_class.proofs.Lengths.{adding-start, adding-stop, adding-step, adding-end}
use Rattle.call_class.proofs.adds_up.Goals as goal

pub loop-i-init : goal.loop-i-init
loop-i-init c = adding-start _ _

pub returns-in_default : goal.returns-in_default
returns-in_default c = adding-stop _ _ _ _ c.loop-i.invariant _ c.loop-i-test.true c.get.ensures c.in_default.ensures

pub loop-i-preserved : goal.loop-i-preserved
loop-i-preserved c = search (rules, adding-step)

pub returns : goal.returns
returns c = search (rules, adding-end)
