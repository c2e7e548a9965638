use borrow.Author.Rules.{rules}
use Rattle.run_machine.proofs.Deciding.{word_in}
use Rattle.run_loops.proofs.ForTests.{for-inside, for-end-inside, for-word-inside, for-word-in, for-sum, for-small, for-again, for-done}
use Rattle.run_loops.proofs.for_test.Goals as goal

pub load-step-requires : goal.load-step-requires
load-step-requires c = search (rules, for-inside)

pub load-requires : goal.load-requires
load-requires c = search (rules, for-word-inside)

pub overflow_add-z : goal.overflow_add-z
overflow_add-z c = search (rules, for-sum)

pub load-requires-2 : goal.load-requires-2
load-requires-2 c = search (rules, for-end-inside)

pub put-requires : goal.put-requires
put-requires c = search (rules, for-word-inside, for-small)

pub link-requires : goal.link-requires
link-requires c = search (rules, word_in)

pub returns-then-passes : goal.returns-then-passes
returns-then-passes c = search (rules, for-again)

pub link-requires-2 : goal.link-requires-2
link-requires-2 c = search (rules, for-word-in)

pub returns : goal.returns
returns c = search (rules, for-done)
