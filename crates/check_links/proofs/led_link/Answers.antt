use Rattle.check_links.proofs.Ops.{link_stays, link-goes-other, link-to-else, link-goes-then}
use borrow.Author.Rules.{rules}
use Rattle.check_links.proofs.led_link.Goals as goal

pub returns-then-not-goes_by_link : goal.returns-then-not-goes_by_link
returns-then-not-goes_by_link c = search (rules, link_stays)

pub returns-then-op-ne-THEN : goal.returns-then-op-ne-THEN
returns-then-op-ne-THEN c = search (rules, link-goes-other)

pub returns-then-sort-eq-ELSE_IF : goal.returns-then-sort-eq-ELSE_IF
returns-then-sort-eq-ELSE_IF c = search (rules, link-to-else)

pub returns : goal.returns
returns c = search (rules, link-goes-then)
