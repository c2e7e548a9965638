use borrow.Author.Rules.{rules}
use Rattle.run_whole.proofs.Walking.{turn-starts, turn-steps, turn_on, turn-long, turn-out-long, turn-over, turn-place, turn-spent}
use Rattle.run_whole.proofs.walk.Goals as goal

pub loop-left-init : goal.loop-left-init
loop-left-init c = search (rules, turn-starts)

pub advance-requires : goal.advance-requires
advance-requires c = search (rules, turn-steps)

pub loop-left-preserved : goal.loop-left-preserved
loop-left-preserved c = search (rules, turn_on)

pub shape_of-values-in-Over : goal.shape_of-values-in-Over
shape_of-values-in-Over c = search (rules, turn-long)

pub shape_of-out-in-Over : goal.shape_of-out-in-Over
shape_of-out-in-Over c = search (rules, turn-out-long)

pub returns-in-Over : goal.returns-in-Over
returns-in-Over c = search (rules, turn-over)

pub place-requires : goal.place-requires
place-requires c = search (rules, turn-place)

pub returns : goal.returns
returns c = search (rules, turn-spent)
