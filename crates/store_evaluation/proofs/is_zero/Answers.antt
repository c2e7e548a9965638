use Rattle.store_evaluation.proofs.Numbers.{zero_bits}
use borrow.Author.Rules.{rules}
use Rattle.store_evaluation.proofs.is_zero.Goals as goal

pub returns : goal.returns
returns c = search (rules, zero_bits)
