use Rattle.check_load.proofs.Chains.{part-inside, seeks-start, seeks-found, seeks-less, seeks-on, seeks-none}
use native.Mathlib.Omega.{arith}
use borrow.Author.Rules.{rules}
use Rattle.check_load.proofs.find.Goals as goal

pub loop-j-init : goal.loop-j-init
loop-j-init c = search (rules, seeks-start)

pub slice_bounds-same-end : goal.slice_bounds-same-end
slice_bounds-same-end c = omega (arith, part-inside _ _ _ _ c.requires _ c.loop-j.invariant c.loop-j-test.true _ _ c.get-tail.ensures c.get.ensures)

pub returns-then-same : goal.returns-then-same
returns-then-same c = search (rules, seeks-found)

pub loop-j-smaller : goal.loop-j-smaller
loop-j-smaller c = search (rules, seeks-less)

pub loop-j-preserved : goal.loop-j-preserved
loop-j-preserved c = search (rules, seeks-on)

pub returns : goal.returns
returns c = search (rules, seeks-none)
