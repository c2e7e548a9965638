use Rattle.store_cells.specs.Cells.{cells_of}
use Rattle.run_starting.proofs.DataWords.{Starting, data_left}
use Rattle.run_starting.proofs.start_words.Given as goal

abbrev pub invariant-loop-w : goal.invariant-loop-w
invariant-loop-w l = Starting l.code l.initial.values l.values l.first l.at l.q l.n l.w

abbrev pub decreases-loop-w : goal.decreases-loop-w
decreases-loop-w l = data_left (cells_of l.code) l.q
