use borrow.Author.Rules.{rules}
use Rattle.check_constants.proofs.NumbersHeld.{held_fits, held-cast, held-is}
use Rattle.check_constants.proofs.held.Goals as goal

pub overflow_add-result : goal.overflow_add-result
overflow_add-result c = search (rules, held_fits)

pub overflow_cast-result : goal.overflow_cast-result
overflow_cast-result c = search (rules, held-cast)

pub returns : goal.returns
returns c = search (rules, held-is)
