use borrow.Author.Rules.{rules}
use native.Mathlib.Omega.{arith}
use Rattle.run_machine.proofs.Current.{stores-here}
use Rattle.run_machine.proofs.Deciding.{word_in}
use Rattle.run_choices.proofs.ChoiceSteps.{while-stands, while-body-in, while-fails, while-body, while-after}
use Rattle.run_choices.proofs.test_while.Goals as goal

pub overflow_add-i : goal.overflow_add-i
overflow_add-i c = omega (arith, word_in _ _ _ _ c.requires.0)

pub worth-v-requires : goal.worth-v-requires
worth-v-requires c = search (rules, stores-here, while-stands)

pub returns-then-v-ge-FIRST_ERROR : goal.returns-then-v-ge-FIRST_ERROR
returns-then-v-ge-FIRST_ERROR c = search (rules, while-fails)

pub value-requires : goal.value-requires
value-requires c = search (rules, while-body-in)

pub returns-then-v-ne0 : goal.returns-then-v-ne0
returns-then-v-ne0 c = search (rules, while-body)

pub link-requires : goal.link-requires
link-requires c = search (rules, word_in)

pub returns : goal.returns
returns c = search (rules, while-after)
