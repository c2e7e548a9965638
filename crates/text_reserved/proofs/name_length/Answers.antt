use Rattle.text_reserved.proofs.Runs.{letters-run, run_more, run-stop, run_out}
use borrow.Author.Rules.{rules}
use Rattle.text_reserved.proofs.name_length.Goals as goal

pub loop-n-init : goal.loop-n-init
loop-n-init c = search (rules, letters-run)

pub loop-n-preserved : goal.loop-n-preserved
loop-n-preserved c = search (rules, run_more)

pub returns-else-is_in_name : goal.returns-else-is_in_name
returns-else-is_in_name c = search (rules, run-stop)

pub returns : goal.returns
returns c = search (rules, run_out)
