use borrow.Author.Rules.{rules}
use Rattle.call_records.proofs.Records.{report-written}
use Rattle.call_records.proofs.report.Goals as goal

pub returns : goal.returns
returns c = search (rules, report-written)
