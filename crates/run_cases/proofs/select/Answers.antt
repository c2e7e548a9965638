use borrow.Author.Rules.{rules}
use native.Mathlib.Omega.{arith}
use Rattle.run_machine.proofs.Current.{stores-here}
use Rattle.run_machine.proofs.Deciding.{word_in, value-small}
use Rattle.run_cases.proofs.TestSteps.{test-stands, test-cases, test-fails, test-goes}
use Rattle.run_cases.proofs.select.Goals as goal

pub overflow_add-i : goal.overflow_add-i
overflow_add-i c = omega (arith, word_in _ _ _ _ c.requires.0)

pub worth-v-requires : goal.worth-v-requires
worth-v-requires c = search (rules, stores-here, test-stands)

pub returns-then-v-ge-FIRST_ERROR : goal.returns-then-v-ge-FIRST_ERROR
returns-then-v-ge-FIRST_ERROR c = search (rules, test-fails)

pub matching-requires : goal.matching-requires
matching-requires c = search (rules, value-small, test-cases)

pub returns : goal.returns
returns c = search (rules, test-goes)
