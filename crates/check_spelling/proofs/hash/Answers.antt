use Rattle.check_spelling.proofs.Hashing.{hash-few, hash-many}
use native.Mathlib.Omega.{arith}
use borrow.Author.Rules.{rules}
use Rattle.check_spelling.proofs.hash.Goals as goal

pub returns-then-name-lt4 : goal.returns-then-name-lt4
returns-then-name-lt4 c = (search (rules, hash-few), omega arith)

pub returns : goal.returns
returns c = (search (rules, hash-many), omega arith)
