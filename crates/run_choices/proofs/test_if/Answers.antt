use borrow.Author.Rules.{rules}
use native.Mathlib.Omega.{arith}
use Rattle.run_machine.proofs.Current.{stores-here}
use Rattle.run_machine.proofs.Deciding.{word_in}
use Rattle.run_choices.proofs.ChoiceSteps.{if-stands, if-small, if-fails, if-then, if-else}
use Rattle.run_choices.proofs.test_if.Goals as goal

pub overflow_add-i : goal.overflow_add-i
overflow_add-i c = omega (arith, word_in _ _ _ _ c.requires.0)

pub worth-v-requires : goal.worth-v-requires
worth-v-requires c = search (rules, stores-here, if-stands)

pub returns-then-v-ge-FIRST_ERROR : goal.returns-then-v-ge-FIRST_ERROR
returns-then-v-ge-FIRST_ERROR c = search (rules, if-fails)

pub overflow_cast-result : goal.overflow_cast-result
overflow_cast-result c = search (rules, if-small)

pub returns-then-v-ne0 : goal.returns-then-v-ne0
returns-then-v-ne0 c = search (rules, if-then)

pub link-requires : goal.link-requires
link-requires c = search (rules, word_in)

pub returns : goal.returns
returns c = search (rules, if-else)
