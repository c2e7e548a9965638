use Rattle.run_output.proofs.Lines.{number-room, number-takes, number_put}
use borrow.Author.Rules.{rules}
use Rattle.run_output.proofs.number.Goals as goal

pub write_number-requires : goal.write_number-requires
write_number-requires c = search (rules, number-room, number-takes)

pub returns : goal.returns
returns c = search (rules, number_put)
