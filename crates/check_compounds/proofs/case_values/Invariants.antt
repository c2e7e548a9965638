use Rattle.paper.specs.Words.{word_limit}
use Rattle.check_compounds.proofs.ValuesOfCase.{Valuings}
use Prim.Native.Nat.{◌-◌}
use Rattle.check_compounds.proofs.case_values.Given as goal

abbrev pub invariant-loop-v : goal.invariant-loop-v
invariant-loop-v l = Valuings l.initial.code l.values l.c l.code l.w l.op

abbrev pub decreases-loop-v : goal.decreases-loop-v
decreases-loop-v l = word_limit - l.w
