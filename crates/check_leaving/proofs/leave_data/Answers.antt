use borrow.Author.Rules.{rules}
use Rattle.check_leaving.proofs.NamesAgain.{head-room, data-kept, datum-room, data-values, name-adds, name-room, name-table, name-links, data-fall, data-leave, data-left}
use Rattle.check_leaving.proofs.leave_data.Goals as goal

pub link-i-requires : goal.link-i-requires
link-i-requires c = search (rules, head-room)

pub loop-values-init : goal.loop-values-init
loop-values-init c = search (rules, data-kept)

pub sort-requires : goal.sort-requires
sort-requires c = search (rules, datum-room)

pub overflow_add-i : goal.overflow_add-i
overflow_add-i c = search (rules, name-adds)

pub restore-requires : goal.restore-requires
restore-requires c = (search (rules, name-room), search (rules, name-table), search (rules, name-links))

pub link-i-requires-in-loop-values : goal.link-i-requires-in-loop-values
link-i-requires-in-loop-values c = search (rules, datum-room)

pub loop-values-smaller : goal.loop-values-smaller
loop-values-smaller c = search (rules, data-fall)

pub loop-values-preserved : goal.loop-values-preserved
loop-values-preserved c = search (rules, data-leave)

pub shape_of-values : goal.shape_of-values
shape_of-values c = search (rules, data-values)

pub returns : goal.returns
returns c = search (rules, data-left)
