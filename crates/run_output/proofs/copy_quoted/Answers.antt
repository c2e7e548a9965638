use borrow.Author.Rules.{rules}
use Rattle.run_output.proofs.StringCharacters.{copy_start, copy-in, copy-fits, copy_step, copy-end}
use Rattle.run_output.proofs.copy_quoted.Goals as goal

pub loop-k-init : goal.loop-k-init
loop-k-init c = copy_start _ _ _

pub bounds-text-p : goal.bounds-text-p
bounds-text-p c = search (rules, copy-in)

pub bounds-out-k : goal.bounds-out-k
bounds-out-k c = search (rules, copy-in, copy_step, copy-end)

pub overflow_add-p : goal.overflow_add-p
overflow_add-p c =
    record { fits = copy-fits _ _ _ _ _ _ c.loop-k.invariant c.loop-k-test.true c.requires _ c.width-p.ensures c.well_formed.0.1 }

pub overflow_add-k : goal.overflow_add-k
overflow_add-k c = search (rules, copy-in, copy_step, copy-end)

pub loop-k-smaller : goal.loop-k-smaller
loop-k-smaller c = search (rules, copy-in, copy_step, copy-end)

pub loop-k-preserved : goal.loop-k-preserved
loop-k-preserved c = search (rules, copy-in, copy_step, copy-end)

pub shape_of-out : goal.shape_of-out
shape_of-out c = search (rules, copy-in, copy_step, copy-end)

pub returns : goal.returns
returns c = search (rules, copy-in, copy_step, copy-end)
