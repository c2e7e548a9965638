use Rattle.check_links.proofs.Ops.{place-goes, place-stays}
use borrow.Author.Rules.{rules}
use Rattle.check_links.proofs.led_place.Goals as goal

pub returns-then-goes_by_place : goal.returns-then-goes_by_place
returns-then-goes_by_place c = search (rules, place-goes)

pub returns : goal.returns
returns c = search (rules, place-stays)
