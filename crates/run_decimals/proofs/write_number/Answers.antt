use Rattle.run_decimals.proofs.Digits.{neg-count, neg-written, pos-count, pos-written}
use borrow.Author.Rules.{rules}
use Rattle.run_decimals.proofs.write_number.Goals as goal

pub write_negative-requires : goal.write_negative-requires
write_negative-requires c = search (rules, neg-count)

pub write_digits-requires : goal.write_digits-requires
write_digits-requires c = search (rules, pos-count)

pub returns-then-z-lt0 : goal.returns-then-z-lt0
returns-then-z-lt0 c = search (rules, neg-written)

pub returns-else-z-lt0 : goal.returns-else-z-lt0
returns-else-z-lt0 c = search (rules, pos-written)
