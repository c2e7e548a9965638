use native.Mathlib.Omega.{arith}
use Rattle.check_load.proofs.NextWord.{value-string, value-other}
use borrow.Author.Rules.{rules}
use Rattle.check_load.proofs.value_of.Goals as goal

pub returns-then-w-eq-STRING : goal.returns-then-w-eq-STRING
returns-then-w-eq-STRING c = (search (rules, value-string), omega arith)

pub returns : goal.returns
returns c = (search (rules, value-other), omega arith)
