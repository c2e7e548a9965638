use borrow.Author.Rules.{rules}
use Rattle.run_machine.proofs.Current.{stores-here}
use Rattle.run_targets.proofs.StoreSteps.{after-fits, store-brace, store-indexes, store-signed, store-small, element-assigns, element-done, element-lost}
use Rattle.run_targets.proofs.store_element.Goals as goal

pub overflow_add-i : goal.overflow_add-i
overflow_add-i c = search (rules, after-fits)

pub link-end-requires : goal.link-end-requires
link-end-requires c = search (rules, store-brace)

pub element-k-requires : goal.element-k-requires
element-k-requires c = search (rules, stores-here, store-indexes)

pub overflow_cast-k : goal.overflow_cast-k
overflow_cast-k c = search (rules, store-signed, store-small)

pub assign-requires : goal.assign-requires
assign-requires c = search (rules, element-assigns)

pub returns-then-k-lt-FIRST_ERROR : goal.returns-then-k-lt-FIRST_ERROR
returns-then-k-lt-FIRST_ERROR c = search (rules, element-done)

pub returns : goal.returns
returns c = search (rules, element-lost)
