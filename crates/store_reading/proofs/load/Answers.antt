use borrow.Author.Rules.{rules}
use Rattle.store_reading.proofs.Storing.{loads}
use Rattle.store_reading.proofs.load.Goals as goal

pub returns : goal.returns
returns c = search (rules, loads)
