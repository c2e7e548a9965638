use Rattle.check_links.proofs.Ops.{value-goes, value_stays}
use borrow.Author.Rules.{rules}
use Rattle.check_links.proofs.led_value.Goals as goal

pub returns-then-goes_by_value : goal.returns-then-goes_by_value
returns-then-goes_by_value c = search (rules, value-goes)

pub returns : goal.returns
returns c = search (rules, value_stays)
