use borrow.Author.Rules.{rules}
use Rattle.run_advancing.proofs.Answers.{lack-low, lack-high}
use Rattle.run_advancing.proofs.is_lack.Goals as goal

pub returns-then-r-lt-LACKED : goal.returns-then-r-lt-LACKED
returns-then-r-lt-LACKED c = search (rules, lack-low)

pub returns : goal.returns
returns c = search (rules, lack-high)
