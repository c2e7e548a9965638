use borrow.Author.Rules.{rules}
use Rattle.run_targets.proofs.StoreSteps.{after-fits, store-assigns, store-done}
use Rattle.run_targets.proofs.store.Goals as goal

pub overflow_add-i : goal.overflow_add-i
overflow_add-i c = search (rules, after-fits)

pub assign-requires : goal.assign-requires
assign-requires c = search (rules, store-assigns)

pub returns : goal.returns
returns c = search (rules, store-done)
