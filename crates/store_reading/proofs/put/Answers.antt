use borrow.Author.Rules.{rules}
use Rattle.store_reading.proofs.Storing.{stores}
use Rattle.store_reading.proofs.put.Goals as goal

pub returns : goal.returns
returns c = search (rules, stores)
