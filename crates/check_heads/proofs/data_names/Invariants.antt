use Prim.Native.Nat.{◌-◌}
use lib.ListN.{length}
use Rattle.check_heads.proofs.DataToCome.{DataGo}
use Rattle.check_heads.proofs.data_names.Given as goal

abbrev pub invariant-loop-values : goal.invariant-loop-values
invariant-loop-values l = DataGo l.code l.initial.values l.at l.values l.i

abbrev pub decreases-loop-values : goal.decreases-loop-values
decreases-loop-values l = length l.code - l.i
