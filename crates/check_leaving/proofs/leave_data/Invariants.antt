use Rattle.store_cells.specs.Cells.{cells_of}
use Rattle.paper.specs.Words.{word_limit}
use Rattle.check_leaving.proofs.NamesAgain.{chain_length, DataLeft}
use Rattle.check_leaving.proofs.leave_data.Given as goal

abbrev pub invariant-loop-values : goal.invariant-loop-values
invariant-loop-values l = DataLeft l.code l.initial.values l.head l.values l.i

abbrev pub decreases-loop-values : goal.decreases-loop-values
decreases-loop-values l = chain_length (cells_of l.code) word_limit l.i
