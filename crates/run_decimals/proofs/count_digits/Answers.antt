use native.Mathlib.Omega.{arith}
use Rattle.run_decimals.proofs.Digits.{left-start, left_step, left-room, counted, few}
use Rattle.run_decimals.proofs.count_digits.Goals as goal

pub loop-m-init : goal.loop-m-init
loop-m-init c = left-start _ c.ranges.n.fits

pub overflow_add-k : goal.overflow_add-k
overflow_add-k c = omega (arith, left-room c.loop-m.invariant, few 20 c.args.n)

pub loop-m-preserved : goal.loop-m-preserved
loop-m-preserved c = left_step c.loop-m.invariant c.loop-m-test.true

pub overflow_add-result : goal.overflow_add-result
overflow_add-result c = omega (arith, left-room c.loop-m.invariant, few 20 c.args.n)

pub returns : goal.returns
returns c = counted _ _ _ c.loop-m.invariant c.loop-m-test.false
