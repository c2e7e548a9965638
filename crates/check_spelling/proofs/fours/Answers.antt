use Rattle.check_spelling.proofs.Fronts.{fours-start, fours-on}
use borrow.Author.Rules.{rules}
use Rattle.check_spelling.proofs.fours.Goals as goal

pub loop-k-init : goal.loop-k-init
loop-k-init c = search (rules, fours-start)

pub loop-k-preserved : goal.loop-k-preserved
loop-k-preserved c = search (rules, fours-on)
