use native.Mathlib.Omega.{arith}
use Rattle.store_cells.proofs.Laws.{get-word}
use Rattle.store_cells.proofs.get.Goals as goal

pub returns : goal.returns
returns c =
    omega (arith, get-word c.args.bytes.now c.args.i (omega (arith, c)), c)
