use borrow.Author.Rules.{rules}
use Rattle.run_whole.proofs.RunEnds.{out-place, out-steps}
use Rattle.run_marking.proofs.Beginning.{ran-beside}
use Rattle.run_marking.proofs.mark.Goals as goal

pub place-requires : goal.place-requires
place-requires c = search (rules, out-place)

pub follow-requires : goal.follow-requires
follow-requires c = search (rules, out-steps)

pub returns : goal.returns
returns c = search (rules, ran-beside)
