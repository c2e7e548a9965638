use Rattle.run_starting.proofs.CellsWritten.{Filling}
use Rattle.run_starting.proofs.fill.Given as goal

abbrev pub invariant-loop-k : goal.invariant-loop-k
invariant-loop-k l = Filling l.initial.values l.values l.at l.count l.v l.k
