use borrow.Author.Rules.{rules}
use Rattle.run_starting.proofs.CellsWritten.{idle-start, idle-inside, idle-inside-ends, idle-inside-steps, idle-on, idle-end}
use Rattle.run_starting.proofs.start_loops.Goals as goal

pub loop-k-init : goal.loop-k-init
loop-k-init c = search (rules, idle-start)

pub put-requires : goal.put-requires
put-requires c = search (rules, idle-inside)

pub put-requires-in-loop-k : goal.put-requires-in-loop-k
put-requires-in-loop-k c = search (rules, idle-inside-ends)

pub put-requires-in-loop-k-2 : goal.put-requires-in-loop-k-2
put-requires-in-loop-k-2 c = search (rules, idle-inside-steps)

pub loop-k-preserved : goal.loop-k-preserved
loop-k-preserved c =
    let room = c.requires in
    let idled = c.loop-k.invariant in
    let word = c.put.ensures in
    let end = c.put-in-loop-k.ensures in
    idle-on _ _ _ _ _ idled room (search rules) _ word _ end _ c.put-in-loop-k-2.ensures

pub returns : goal.returns
returns c = search (rules, idle-end)
