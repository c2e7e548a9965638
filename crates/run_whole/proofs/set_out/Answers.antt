use borrow.Author.Rules.{rules}
use Rattle.run_whole.proofs.RunEnds.{out-place, out-steps, sets-out}
use Rattle.run_whole.proofs.set_out.Goals as goal

pub place-requires : goal.place-requires
place-requires c = search (rules, out-place)

pub walk-requires : goal.walk-requires
walk-requires c = search (rules, out-steps)

pub returns : goal.returns
returns c = search (rules, sets-out)
