use borrow.Author.Rules.{rules}
use Rattle.call_records.proofs.Refusals.{deep-empties, deep-refused}
use Rattle.call_records.proofs.refuse_depth.Goals as goal

pub empty-requires : goal.empty-requires
empty-requires c = search (rules, deep-empties)

pub returns : goal.returns
returns c = search (rules, deep-refused)
