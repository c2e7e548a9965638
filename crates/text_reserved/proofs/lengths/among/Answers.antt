use Rattle.text_reserved.proofs.Rows.{one_more}
use borrow.Author.Rules.{rules}
use Rattle.text_reserved.proofs.lengths.among.Goals as goal

pub returns : goal.returns
returns c = search (rules, one_more)
