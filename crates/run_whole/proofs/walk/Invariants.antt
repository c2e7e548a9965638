use Rattle.run_whole.proofs.Walking.{Turning}
use Rattle.run_whole.proofs.walk.Given as goal

abbrev pub invariant-loop-left : goal.invariant-loop-left
invariant-loop-left l = Turning l.text l.code l.initial.values l.inputs l.initial.out l.last l.initial.m l.steps l.aborted l.values l.out l.m l.left

abbrev pub decreases-loop-left : goal.decreases-loop-left
decreases-loop-left l = l.left
