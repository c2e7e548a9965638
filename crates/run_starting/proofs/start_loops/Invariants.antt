use Rattle.run_starting.proofs.CellsWritten.{Idling}
use Rattle.run_starting.proofs.start_loops.Given as goal

abbrev pub invariant-loop-k : goal.invariant-loop-k
invariant-loop-k l = Idling l.initial.values l.values l.at l.fors l.k
