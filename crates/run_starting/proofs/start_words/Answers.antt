use borrow.Author.Rules.{rules}
use Rattle.run_starting.proofs.DataWords.{starts-in, starts-begin, datum-in, number_fits, number_small, datum-room, datum-next, datum-less, datum-on, fors-room, started}
use Rattle.run_starting.proofs.start_words.Goals as goal

pub head-w-requires : goal.head-w-requires
head-w-requires c = search (rules, starts-in)

pub loop-w-init : goal.loop-w-init
loop-w-init c = search (rules, starts-begin)

pub place-requires : goal.place-requires
place-requires c = search (rules, datum-in)

pub overflow_sub-w : goal.overflow_sub-w
overflow_sub-w c = search (rules, number_fits)

pub fill-n-requires : goal.fill-n-requires
fill-n-requires c = search (rules, datum-room, number_small)

pub link-q-requires : goal.link-q-requires
link-q-requires c = search (rules, datum-in)

pub head-w-requires-in-loop-w : goal.head-w-requires-in-loop-w
head-w-requires-in-loop-w c = search (rules, datum-next)

pub loop-w-smaller : goal.loop-w-smaller
loop-w-smaller c = search (rules, datum-less)

pub loop-w-preserved : goal.loop-w-preserved
loop-w-preserved c = search (rules, datum-on)

pub place-requires-2 : goal.place-requires-2
place-requires-2 c = search (rules, datum-in)

pub start_loops-requires : goal.start_loops-requires
start_loops-requires c = search (rules, fors-room)

pub returns : goal.returns
returns c = search (rules, started)
