use borrow.Author.Rules.{rules}
use Rattle.check_simple.proofs.KindsAndTypes.{parameter-func, parameter-proc}
use Rattle.check_simple.proofs.first_parameter.Goals as goal

pub returns-then-sort-eq-FUNC : goal.returns-then-sort-eq-FUNC
returns-then-sort-eq-FUNC c = search (rules, parameter-func)

pub returns-else-sort-eq-FUNC : goal.returns-else-sort-eq-FUNC
returns-else-sort-eq-FUNC c = search (rules, parameter-proc)
