use lib.ListN.{length-set}
use Rattle.run_decimals.proofs.Digits.{write-first, write-start, write_step, write-more, write-room, write-end}
use Rattle.run_decimals.proofs.write_digits.Goals as goal

pub overflow_sub-i : goal.overflow_sub-i
overflow_sub-i c = write-first _ _ c.requires.0

pub loop-m-init : goal.loop-m-init
loop-m-init c = write-start _ _ _ c.ranges.n.fits c.requires.0

pub bounds-out-i : goal.bounds-out-i
bounds-out-i c = write-room _ _ _ _ _ _ c.loop-m.invariant c.requires.0 c.requires.1

pub overflow_sub-i-in-loop-m : goal.overflow_sub-i-in-loop-m
overflow_sub-i-in-loop-m c = write-more _ _ _ _ _ _ c.loop-m.invariant c.requires.0 c.requires.1 c.loop-m-test.true

pub loop-m-preserved : goal.loop-m-preserved
loop-m-preserved c = write_step _ _ _ _ _ _ c.loop-m.invariant c.requires.0 c.requires.1 c.loop-m-test.true

pub bounds-out-i-2 : goal.bounds-out-i-2
bounds-out-i-2 c = write-room _ _ _ _ _ _ c.loop-m.invariant c.requires.0 c.requires.1

pub shape_of-out : goal.shape_of-out
shape_of-out c = simp length-set c.loop-m.invariant.long

pub returns : goal.returns
returns c = write-end _ _ _ _ _ _ c.loop-m.invariant c.requires.0 c.requires.1 c.loop-m-test.false
