use Rattle.call_listing.proofs.Entries.{entry-none, entry-some}
use borrow.Author.Rules.{rules}
use Rattle.call_listing.proofs.put_entry.Goals as goal

pub returns-then-out-i : goal.returns-then-out-i
returns-then-out-i c = search (rules, entry-none)

pub returns : goal.returns
returns c = search (rules, entry-some)
