use borrow.Author.Rules.{rules}
use Rattle.run_marking.proofs.Entries.{agree-ours, agree-so}
use Rattle.run_marking.proofs.agree.Goals as goal

pub returns-then-common-made : goal.returns-then-common-made
returns-then-common-made c = search (rules, agree-ours)

pub returns : goal.returns
returns c = search (rules, agree-so)
