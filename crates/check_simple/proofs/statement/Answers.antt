use borrow.Author.Rules.{rules}
use Rattle.check_simple.proofs.SimpleStatements.{stands_here, stands-small}
use Rattle.check_simple.proofs.Statements.{begins-in, begins-of, begins-read, stated-in, stated-write, stated-read}
use Rattle.check_simple.proofs.ReturnRaiseExit.{exited, retried, tried-next}
use native.Mathlib.Omega.{arith}
use Rattle.check_simple.proofs.statement.Goals as goal

pub sort-s-requires : goal.sort-s-requires
sort-s-requires c = search (rules, stands_here)

pub started_by_name-requires : goal.started_by_name-requires
started_by_name-requires c = search (rules, begins-in)

pub returns-requires : goal.returns-requires
returns-requires c = search (rules, begins-in)

pub raises-requires : goal.raises-requires
raises-requires c = search (rules, begins-in)

pub word-requires : goal.word-requires
word-requires c = (omega (arith, stands_here), omega arith, omega (arith, stands-small))

pub word-requires-in-73 : goal.word-requires-in-73
word-requires-in-73 c = (omega (arith, stands_here), omega arith, omega (arith, stands-small))

pub word-requires-in-82 : goal.word-requires-in-82
word-requires-in-82 c = (omega (arith, stands_here), omega arith, omega (arith, stands-small))

pub writes-requires : goal.writes-requires
writes-requires c = search (rules, begins-of)

pub reads-requires : goal.reads-requires
reads-requires c = search (rules, begins-read)

pub returns-in-1 : goal.returns-in-1
returns-in-1 c = search (rules, stated-in)

pub returns-in-74 : goal.returns-in-74
returns-in-74 c = search (rules, stated-in)

pub returns-in-70 : goal.returns-in-70
returns-in-70 c = search (rules, stated-in)

pub returns-in-53 : goal.returns-in-53
returns-in-53 c = search (rules, exited)

pub returns-in-73 : goal.returns-in-73
returns-in-73 c = search (rules, retried)

pub returns-in-82 : goal.returns-in-82
returns-in-82 c = search (rules, tried-next)

pub returns-in-91 : goal.returns-in-91
returns-in-91 c = search (rules, stated-write)

pub returns-in_default : goal.returns-in_default
returns-in_default c = search (rules, stated-read)
