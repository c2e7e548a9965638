use borrow.Author.Rules.{rules}
use Rattle.run_resuming.proofs.NextStep.{step-in, step_small, call-closes, call-in, call-after, for-in, for_after, end_after, function-end-after, undo-end-after, plain-after}
use Rattle.run_resuming.proofs.after.Goals as goal

pub head-w-requires : goal.head-w-requires
head-w-requires c = search (rules, step-in)

pub overflow_add-i : goal.overflow_add-i
overflow_add-i c = search (rules, step_small)

pub link-requires : goal.link-requires
link-requires c = search (rules, step-in)

pub closing-requires : goal.closing-requires
closing-requires c = search (rules, call-closes)

pub link-requires-in-136 : goal.link-requires-in-136
link-requires-in-136 c = search (rules, call-in)

pub link-requires-in-151 : goal.link-requires-in-151
link-requires-in-151 c = search (rules, for-in)

pub link-requires-in_default : goal.link-requires-in_default
link-requires-in_default c = search (rules, step-in)

pub returns-in-136 : goal.returns-in-136
returns-in-136 c = search (rules, call-after)

pub returns-in-151 : goal.returns-in-151
returns-in-151 c = search (rules, for_after)

pub returns-in-153 : goal.returns-in-153
returns-in-153 c = search (rules, end_after)

pub returns-in-154 : goal.returns-in-154
returns-in-154 c = search (rules, function-end-after)

pub returns-in-155 : goal.returns-in-155
returns-in-155 c = search (rules, undo-end-after)

pub returns-in_default : goal.returns-in_default
returns-in_default c = search (rules, plain-after)
