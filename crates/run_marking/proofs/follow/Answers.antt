use borrow.Author.Rules.{rules}
use Rattle.run_marking.proofs.Following.{follow-starts, follow-steps, follow-place, follow-spent, turn-long, turn-out-long, follow-on, follow-counted, follow-uncounted}
use Rattle.run_marking.proofs.follow.Goals as goal

pub loop-made-init : goal.loop-made-init
loop-made-init c = search (rules, follow-starts)

pub place-at-requires : goal.place-at-requires
place-at-requires c = search (rules, follow-place)

pub advance-requires : goal.advance-requires
advance-requires c = search (rules, follow-steps)

pub loop-made-preserved : goal.loop-made-preserved
loop-made-preserved c = search (rules, follow-on)

pub shape_of-values-then-halt : goal.shape_of-values-then-halt
shape_of-values-then-halt c = search (rules, turn-long)

pub shape_of-out-then-halt : goal.shape_of-out-then-halt
shape_of-out-then-halt c = search (rules, turn-out-long)

pub returns-then-halt : goal.returns-then-halt
returns-then-halt c = search (rules, follow-counted)

pub shape_of-values-in-Over : goal.shape_of-values-in-Over
shape_of-values-in-Over c = search (rules, turn-long)

pub shape_of-out-in-Over : goal.shape_of-out-in-Over
shape_of-out-in-Over c = search (rules, turn-out-long)

pub returns-in-Over : goal.returns-in-Over
returns-in-Over c = search (rules, follow-uncounted)

pub place-requires : goal.place-requires
place-requires c = search (rules, follow-place)

pub returns : goal.returns
returns c = search (rules, follow-spent)
