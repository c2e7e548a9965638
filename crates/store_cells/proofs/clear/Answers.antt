use native.Mathlib.Omega.{arith}
use Rattle.store_cells.proofs.Laws.{clear-start, clear_step, clear-end}
use Rattle.store_cells.proofs.clear.Goals as goal

pub loop-j-init : goal.loop-j-init
loop-j-init c = clear-start _ _ _

pub loop-j-preserved : goal.loop-j-preserved
loop-j-preserved c = clear_step _ _ _ _ _ c.loop-j.invariant (omega arith) c.loop-j-test.true

pub returns : goal.returns
returns c = clear-end _ _ _ _ _ c.requires c.loop-j-test.false c.loop-j.invariant
