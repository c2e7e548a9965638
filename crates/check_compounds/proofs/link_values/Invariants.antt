use Rattle.check_compounds.proofs.CaseLinks.{Linkings}
use Prim.Native.Nat.{◌-◌}
use Rattle.check_compounds.proofs.link_values.Given as goal

abbrev pub invariant-loop-code : goal.invariant-loop-code
invariant-loop-code l = Linkings l.initial.code l.code l.colon l.next l.c l.w

abbrev pub decreases-loop-code : goal.decreases-loop-code
decreases-loop-code l = l.colon - l.w
