use native.Mathlib.Omega.{arith}
use lib.ListN.{length-set}
use Rattle.store_cells.proofs.Laws.{put-law}
use Rattle.store_cells.proofs.put.Goals as goal

pub bounds-bytes-a-2 : goal.bounds-bytes-a-2
bounds-bytes-a-2 c = simp length-set (omega arith)

pub bounds-bytes-a-3 : goal.bounds-bytes-a-3
bounds-bytes-a-3 c = simp length-set (omega arith)

pub bounds-bytes-a-4 : goal.bounds-bytes-a-4
bounds-bytes-a-4 c = simp length-set (omega arith)

pub returns : goal.returns
returns c =
    put-law _ _ _ _ _ _ _ (omega (arith, c)) c.low.ensures c.low-2.ensures c.low-3.ensures c.low-4.ensures
