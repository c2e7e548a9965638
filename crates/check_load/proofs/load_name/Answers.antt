use Rattle.check_load.proofs.NextWord.{name-chain, goes-found, goes-new}
use borrow.Author.Rules.{rules}
use Rattle.check_load.proofs.load_name.Goals as goal

pub find-requires : goal.find-requires
find-requires c = search (rules, name-chain)

pub returns-in-Some : goal.returns-in-Some
returns-in-Some c = search (rules, goes-found)

pub returns : goal.returns
returns c = search (rules, goes-new)
