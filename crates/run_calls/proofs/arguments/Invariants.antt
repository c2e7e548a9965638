use Rattle.store_cells.specs.Cells.{cells_of}
use Rattle.run_calls.proofs.ArgumentsPassed.{Passing, arguments_left}
use Rattle.run_calls.proofs.arguments.Given as goal

abbrev pub invariant-loop-base : goal.invariant-loop-base
invariant-loop-base l = Passing l.code l.initial.values l.base l.room l.first l.end l.values l.a l.b l.n

abbrev pub decreases-loop-base : goal.decreases-loop-base
decreases-loop-base l = arguments_left (cells_of l.code) l.b
