use Rattle.text_reserved.proofs.Ranges.{said}
use Rattle.text_reserved.proofs.Packs.{passed_start, passed-more, passed-stop, passed-out}
use borrow.Author.Rules.{rules}
use Rattle.text_reserved.proofs.letters_from.Goals as goal

pub loop-length-init : goal.loop-length-init
loop-length-init c = search (rules, passed_start)

pub with_letter-rest-requires : goal.with_letter-rest-requires
with_letter-rest-requires c = search (rules, said)

pub loop-length-preserved : goal.loop-length-preserved
loop-length-preserved c = search (rules, passed-more)

pub returns-else-is_capital : goal.returns-else-is_capital
returns-else-is_capital c = search (rules, passed-stop)

pub returns : goal.returns
returns c = search (rules, passed-out)
