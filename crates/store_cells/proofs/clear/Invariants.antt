use Prim.Native.Nat.{◌-◌}
use Rattle.store_cells.proofs.Laws.{Clearing}
use Rattle.store_cells.proofs.clear.Given as goal

abbrev pub invariant-loop-j : goal.invariant-loop-j
invariant-loop-j l = Clearing l.initial.bytes l.bytes l.a l.n l.j

abbrev pub decreases-loop-j : goal.decreases-loop-j
decreases-loop-j l = l.n - l.j
