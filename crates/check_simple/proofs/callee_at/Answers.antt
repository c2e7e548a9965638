use borrow.Author.Rules.{rules}
use Rattle.check_simple.proofs.CalleeNames.{callee-room, callee-wrong, callee-other, callee-own}
use Rattle.check_simple.proofs.callee_at.Goals as goal

pub returns-then-kind-ne-ROUTINE : goal.returns-then-kind-ne-ROUTINE
returns-then-kind-ne-ROUTINE c = search (rules, callee-wrong)

pub sort-is_function-requires : goal.sort-is_function-requires
sort-is_function-requires c = search (rules, callee-room)

pub returns-then-is_function-function : goal.returns-then-is_function-function
returns-then-is_function-function c = search (rules, callee-other)

pub returns : goal.returns
returns c = search (rules, callee-own)
