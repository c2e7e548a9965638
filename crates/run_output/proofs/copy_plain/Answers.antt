use borrow.Author.Rules.{rules}
use Rattle.run_output.proofs.StringCharacters.{plainly-start, plainly-step, plainly-end}
use Rattle.run_output.proofs.copy_plain.Goals as goal

pub loop-k-init : goal.loop-k-init
loop-k-init c = plainly-start _ _ _

pub bounds-text-k : goal.bounds-text-k
bounds-text-k c = search (rules, plainly-step, plainly-end)

pub bounds-out-k : goal.bounds-out-k
bounds-out-k c = search (rules, plainly-step, plainly-end)

pub overflow_add-k : goal.overflow_add-k
overflow_add-k c = search (rules, plainly-step, plainly-end)

pub loop-k-smaller : goal.loop-k-smaller
loop-k-smaller c = search (rules, plainly-step, plainly-end)

pub loop-k-preserved : goal.loop-k-preserved
loop-k-preserved c = search (rules, plainly-step, plainly-end)

pub shape_of-out : goal.shape_of-out
shape_of-out c = search (rules, plainly-step, plainly-end)

pub returns : goal.returns
returns c = search (rules, plainly-step, plainly-end)
