use borrow.Author.Rules.{rules}
use Rattle.run_marking.proofs.Entries.{meet-parted, meet-ended, meet-other, meet-same}
use Rattle.run_marking.proofs.meet.Goals as goal

pub returns-then-common-made : goal.returns-then-common-made
returns-then-common-made c = search (rules, meet-parted)

pub returns-then-listing-made : goal.returns-then-listing-made
returns-then-listing-made c = search (rules, meet-ended)

pub returns-then-get-at : goal.returns-then-get-at
returns-then-get-at c = search (rules, meet-other)

pub returns : goal.returns
returns c = search (rules, meet-same)
