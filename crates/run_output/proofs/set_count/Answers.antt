use borrow.Author.Rules.{rules}
use Rattle.run_output.proofs.Lines.{counted}
use Rattle.run_output.proofs.set_count.Goals as goal

pub returns : goal.returns
returns c = search (rules, counted)
