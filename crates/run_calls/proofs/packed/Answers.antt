use borrow.Author.Rules.{rules}
use Rattle.run_calls.proofs.ArgumentsPassed.{packed-is}
use Rattle.run_calls.proofs.packed.Goals as goal

pub returns : goal.returns
returns c = search (rules, packed-is)
