use borrow.Author.Rules.{rules}
use Rattle.run_output.proofs.Lines.{line-string, line-room, line-fits, line-done}
use Rattle.run_output.proofs.add.Goals as goal

pub string-e-requires : goal.string-e-requires
string-e-requires c = search (rules, line-string)

pub bounds-out-e : goal.bounds-out-e
bounds-out-e c = search (rules, line-room)

pub overflow_add-e : goal.overflow_add-e
overflow_add-e c = search (rules, line-fits)

pub returns : goal.returns
returns c = search (rules, line-done)
