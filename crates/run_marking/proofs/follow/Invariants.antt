use Prim.Native.Nat.{◌-◌}
use Rattle.run_marking.proofs.Following.{Following}
use Rattle.run_marking.proofs.follow.Given as goal

abbrev pub invariant-loop-made : goal.invariant-loop-made
invariant-loop-made l =
    Following l.text l.code l.initial.values l.inputs l.initial.out l.listing l.last l.initial.m l.steps l.values l.out l.m l.made l.common

abbrev pub decreases-loop-made : goal.decreases-loop-made
decreases-loop-made l = l.steps - l.made
