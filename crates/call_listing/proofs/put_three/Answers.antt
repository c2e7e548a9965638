use Rattle.call_listing.proofs.Entries.{three-put}
use borrow.Author.Rules.{rules}
use Rattle.call_listing.proofs.put_three.Goals as goal

pub returns : goal.returns
returns c = search (rules, three-put)
