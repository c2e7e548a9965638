use borrow.Author.Rules.{rules}
use Rattle.call_records.proofs.Records.{refusal-written}
use Rattle.call_records.proofs.refuse.Goals as goal

pub returns : goal.returns
returns c = search (rules, refusal-written)
