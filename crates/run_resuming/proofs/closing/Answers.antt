use borrow.Author.Rules.{rules}
use Rattle.run_resuming.proofs.NextStep.{closed_none, closed-start, closed_in, closed-less, closed-next, closed-end}
use Rattle.run_resuming.proofs.closing.Goals as goal

pub returns-then-first-end : goal.returns-then-first-end
returns-then-first-end c = search (rules, closed_none)

pub loop-b-init : goal.loop-b-init
loop-b-init c = search (rules, closed-start)

pub head-requires : goal.head-requires
head-requires c = search (rules, closed_in)

pub link-b-requires : goal.link-b-requires
link-b-requires c = search (rules, closed_in)

pub loop-b-smaller : goal.loop-b-smaller
loop-b-smaller c = search (rules, closed-less)

pub loop-b-preserved : goal.loop-b-preserved
loop-b-preserved c = search (rules, closed-next)

pub returns : goal.returns
returns c = search (rules, closed-end)
