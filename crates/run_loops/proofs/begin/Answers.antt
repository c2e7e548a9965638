use borrow.Author.Rules.{rules}
use native.Mathlib.Omega.{arith}
use Rattle.run_loops.proofs.ForHeads.{loop-inside, end-inside, first-steps, first-do-in, for-in, from-small, to-small, step_small, step-inside, word-inside, begin-skips, begin-enters}
use Rattle.run_loops.proofs.begin.Goals as goal

pub overflow_add-k : goal.overflow_add-k
overflow_add-k c = let begins = c.requires in omega (arith, loop-inside _ _ _ _ _ _ _ _ _ begins)

pub overflow_add-k-2 : goal.overflow_add-k-2
overflow_add-k-2 c = let begins = c.requires in omega (arith, loop-inside _ _ _ _ _ _ _ _ _ begins)

pub put-requires : goal.put-requires
put-requires c = search (rules, end-inside, to-small)

pub overflow_add-k-3 : goal.overflow_add-k-3
overflow_add-k-3 c = let begins = c.requires in omega (arith, loop-inside _ _ _ _ _ _ _ _ _ begins)

pub put-requires-2 : goal.put-requires-2
put-requires-2 c = search (rules, step-inside, step_small)

pub put-requires-then-passes : goal.put-requires-then-passes
put-requires-then-passes c = search (rules, word-inside, from-small)

pub do_of-requires : goal.do_of-requires
do_of-requires c = search (rules, first-steps)

pub value-requires : goal.value-requires
value-requires c = search (rules, first-do-in)

pub returns-then-passes : goal.returns-then-passes
returns-then-passes c = search (rules, begin-enters)

pub link-requires : goal.link-requires
link-requires c = search (rules, for-in)

pub returns : goal.returns
returns c = search (rules, begin-skips)
