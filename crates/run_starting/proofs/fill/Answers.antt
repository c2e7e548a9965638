use borrow.Author.Rules.{rules}
use Rattle.run_starting.proofs.CellsWritten.{fill_start, fill-inside, fill_on, fill_end, filled-read, fill_one}
use Rattle.run_starting.proofs.fill.Goals as goal

pub returns-then-count-eq1 : goal.returns-then-count-eq1
returns-then-count-eq1 c = search (rules, fill_one)

pub loop-k-init : goal.loop-k-init
loop-k-init c = search (rules, fill_start)

pub put-requires-in-loop-k : goal.put-requires-in-loop-k
put-requires-in-loop-k c = search (rules, fill-inside)

pub loop-k-preserved : goal.loop-k-preserved
loop-k-preserved c = search (rules, fill_on)

pub returns : goal.returns
returns c = search (rules, fill_end, filled-read)
