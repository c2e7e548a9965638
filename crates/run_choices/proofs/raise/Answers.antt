use borrow.Author.Rules.{rules}
use native.Mathlib.Omega.{arith}
use Rattle.run_machine.proofs.Current.{stores-here}
use Rattle.run_machine.proofs.Deciding.{word_in}
use Rattle.run_choices.proofs.ChoiceSteps.{raise-stands, raise-fails, raise-low, raise-high, raise-fits, raise-given}
use Rattle.run_choices.proofs.raise.Goals as goal

pub overflow_add-i : goal.overflow_add-i
overflow_add-i c = omega (arith, word_in _ _ _ _ c.requires.0)

pub worth-v-requires : goal.worth-v-requires
worth-v-requires c = search (rules, stores-here, raise-stands)

pub returns-then-v-ge-FIRST_ERROR : goal.returns-then-v-ge-FIRST_ERROR
returns-then-v-ge-FIRST_ERROR c = search (rules, raise-fails)

pub returns-then-v-lt-LOWEST_RAISED : goal.returns-then-v-lt-LOWEST_RAISED
returns-then-v-lt-LOWEST_RAISED c = search (rules, raise-low)

pub returns-then-v-gt-HIGHEST_RAISED : goal.returns-then-v-gt-HIGHEST_RAISED
returns-then-v-gt-HIGHEST_RAISED c = search (rules, raise-high)

pub overflow_add-result : goal.overflow_add-result
overflow_add-result c = search (rules, raise-fits)

pub returns : goal.returns
returns c = search (rules, raise-given)
