use borrow.Author.Rules.{rules}
use Rattle.run_targets.proofs.StoreSteps.{after-fits}
use Rattle.run_calls.proofs.CallTargets.{word-calls}
use Rattle.run_calls.proofs.call_for.Goals as goal

pub overflow_add-i : goal.overflow_add-i
overflow_add-i c = search (rules, after-fits)

pub call_to-requires : goal.call_to-requires
call_to-requires c = search (rules, word-calls)
