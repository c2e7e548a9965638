use borrow.Author.Rules.{rules}
use Rattle.run_targets.proofs.TargetStores.{next-inside, next_fits, assign-stores, assign-stands, cell-inside, value-small, step-inside, assign-fails, assign-done}
use Rattle.run_targets.proofs.assign.Goals as goal

pub overflow_add-at : goal.overflow_add-at
overflow_add-at c = search (rules, next_fits)

pub link-requires : goal.link-requires
link-requires c = search (rules, next-inside)

pub worth-v-requires : goal.worth-v-requires
worth-v-requires c = search (rules, assign-stores, assign-stands)

pub put-requires : goal.put-requires
put-requires c = search (rules, cell-inside, value-small)

pub link-requires-then-v-lt-FIRST_ERROR : goal.link-requires-then-v-lt-FIRST_ERROR
link-requires-then-v-lt-FIRST_ERROR c = search (rules, step-inside)

pub returns-then-v-lt-FIRST_ERROR : goal.returns-then-v-lt-FIRST_ERROR
returns-then-v-lt-FIRST_ERROR c = search (rules, assign-done)

pub returns : goal.returns
returns c = search (rules, assign-fails)
