use Rattle.call_listing.proofs.Exports.{exported-short, exported-all}
use borrow.Author.Rules.{rules}
use Rattle.call_listing.proofs.rapid_list.Goals as goal

pub returns-then-answer-lt-THREE : goal.returns-then-answer-lt-THREE
returns-then-answer-lt-THREE c = search (rules, exported-short)

pub returns : goal.returns
returns c = search (rules, exported-all)
