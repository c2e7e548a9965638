use Rattle.call_listing.proofs.Entries.{reserved-kind, sign-kind, string-kind, number-kind, name-kind}
use borrow.Author.Rules.{rules}
use Rattle.call_listing.proofs.kind_number.Goals as goal

pub returns-then-sort-ge-FIRST_RESERVED : goal.returns-then-sort-ge-FIRST_RESERVED
returns-then-sort-ge-FIRST_RESERVED c = search (rules, reserved-kind)

pub returns-then-sort-ge-FIRST_SIGN : goal.returns-then-sort-ge-FIRST_SIGN
returns-then-sort-ge-FIRST_SIGN c = search (rules, sign-kind)

pub returns-then-sort-eq-STRING : goal.returns-then-sort-eq-STRING
returns-then-sort-eq-STRING c = search (rules, string-kind)

pub returns-then-sort-eq-NUMBER : goal.returns-then-sort-eq-NUMBER
returns-then-sort-eq-NUMBER c = search (rules, number-kind)

pub returns : goal.returns
returns c = search (rules, name-kind)
