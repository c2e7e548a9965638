use Rattle.run_decimals.proofs.Digits.{neg-length, pos-length}
use borrow.Author.Rules.{rules}
use Rattle.run_decimals.proofs.number_length.Goals as goal

pub returns-then-z-lt0 : goal.returns-then-z-lt0
returns-then-z-lt0 c = search (rules, neg-length)

pub returns : goal.returns
returns c = search (rules, pos-length)
