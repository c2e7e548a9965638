use Rattle.run_choices.proofs.Conditions.{conditions_left, Trying}
use Rattle.run_choices.proofs.choose.Given as goal

abbrev pub invariant-loop-base : goal.invariant-loop-base
invariant-loop-base l = Trying l.code l.values l.base l.i l.j l.t

abbrev pub decreases-loop-base : goal.decreases-loop-base
decreases-loop-base l = conditions_left l.code l.t
