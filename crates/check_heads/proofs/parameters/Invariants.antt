use Prim.Native.Nat.{◌-◌}
use lib.ListN.{length}
use Rattle.check_heads.proofs.ParameterMarks.{ParamsGo}
use Rattle.check_heads.proofs.parameters.Given as goal

abbrev pub invariant-loop-h : goal.invariant-loop-h
invariant-loop-h l = ParamsGo l.initial.code l.initial.values l.h l.at l.code l.values l.i l.count

abbrev pub decreases-loop-h : goal.decreases-loop-h
decreases-loop-h l = length l.code - l.i
