use borrow.Author.Rules.{rules}
use Rattle.call_class.proofs.Copies.{copy_start, copy_step, copy-end}
use Rattle.call_class.proofs.copy_words.Goals as goal

pub loop-j-init : goal.loop-j-init
loop-j-init c = copy_start _ _ _

pub loop-j-preserved : goal.loop-j-preserved
loop-j-preserved c = search (rules, copy_step)

pub returns : goal.returns
returns c = search (rules, copy-end)
