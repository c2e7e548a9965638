use Rattle.store_evaluation.proofs.Numbers.{same_bits}
use borrow.Author.Rules.{rules}
use Rattle.store_evaluation.proofs.is_same.Goals as goal

pub returns : goal.returns
returns c = search (rules, same_bits)
