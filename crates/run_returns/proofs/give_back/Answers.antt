use borrow.Author.Rules.{rules}
use Rattle.run_targets.proofs.StoreSteps.{after-fits}
use Rattle.run_machine.proofs.Current.{stores-here}
use Rattle.run_returns.proofs.ReturnSteps.{return-stands, return-fails, return-main, return-inside, return-small, return-done}
use Rattle.run_returns.proofs.give_back.Goals as goal

pub overflow_add-i : goal.overflow_add-i
overflow_add-i c = search (rules, after-fits)

pub worth-v-requires : goal.worth-v-requires
worth-v-requires c = search (rules, stores-here, return-stands)

pub returns-then-v-ge-FIRST_ERROR : goal.returns-then-v-ge-FIRST_ERROR
returns-then-v-ge-FIRST_ERROR c = search (rules, return-fails)

pub returns-then-base-eq-FIRST_WINDOW : goal.returns-then-base-eq-FIRST_WINDOW
returns-then-base-eq-FIRST_WINDOW c = search (rules, return-main)

pub give-requires : goal.give-requires
give-requires c = search (rules, return-inside, return-small)

pub returns : goal.returns
returns c = search (rules, return-done)
