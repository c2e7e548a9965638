use Rattle.check_sites.specs.Parts.{Fills}
use Rattle.check_sites.proofs.fill.Given as goal

abbrev pub invariant-loop-k : goal.invariant-loop-k
invariant-loop-k l = Fills l.initial.values l.values l.from l.k l.v
