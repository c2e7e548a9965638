use Rattle.text_scanner.proofs.Values.{passed_start, passed-digit, passed-more, passed-stop, passed-out}
use borrow.Author.Rules.{rules}
use Rattle.text_scanner.proofs.number.read_digits.Goals as goal

pub loop-length-init : goal.loop-length-init
loop-length-init c = search (rules, passed_start)

pub with_digit-value-requires : goal.with_digit-value-requires
with_digit-value-requires c = passed-digit _ _ _ c.loop-length.invariant _ _ c.is_digit.ensures c.if-is_digit.true

pub loop-length-preserved : goal.loop-length-preserved
loop-length-preserved c = search (rules, passed-more)

pub returns-else-is_digit : goal.returns-else-is_digit
returns-else-is_digit c = search (rules, passed-stop)

pub returns : goal.returns
returns c = search (rules, passed-out)
