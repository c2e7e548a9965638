use borrow.Author.Rules.{rules}
use Rattle.run_calls.proofs.ArgumentsPassed.{let-stored, let-same}
use Rattle.run_calls.proofs.pass.Goals as goal

pub put-requires : goal.put-requires
put-requires c = search (rules, c.requires.0)

pub returns-then-room : goal.returns-then-room
returns-then-room c = search (rules, let-stored)

pub returns-else-room : goal.returns-else-room
returns-else-room c = search (rules, let-same)
