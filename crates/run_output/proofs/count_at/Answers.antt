use borrow.Author.Rules.{rules}
use Rattle.run_output.proofs.Lines.{count_of}
use Rattle.run_output.proofs.count_at.Goals as goal

pub returns : goal.returns
returns c = search (rules, count_of)
