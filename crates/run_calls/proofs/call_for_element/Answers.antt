use borrow.Author.Rules.{rules}
use Rattle.run_targets.proofs.StoreSteps.{after-fits}
use Rattle.run_machine.proofs.Current.{stores-here}
use Rattle.run_calls.proofs.CallTargets.{call-brace, call-indexes, call_signed, call-small, element-calls, element-refused}
use Rattle.run_calls.proofs.call_for_element.Goals as goal

pub overflow_add-i : goal.overflow_add-i
overflow_add-i c = search (rules, after-fits)

pub link-end-requires : goal.link-end-requires
link-end-requires c = search (rules, call-brace)

pub element-k-requires : goal.element-k-requires
element-k-requires c = search (rules, stores-here, call-indexes)

pub overflow_cast-k : goal.overflow_cast-k
overflow_cast-k c = search (rules, call_signed, call-small)

pub call_to-requires : goal.call_to-requires
call_to-requires c = search (rules, element-calls)

pub returns : goal.returns
returns c = search (rules, element-refused)
