use borrow.Author.Rules.{rules}
use Rattle.check_datum.proofs.Words.{kind-constant, kind-variable}
use Rattle.check_datum.proofs.scalar_kind.Goals as goal

pub returns-then-s-eq-CONST : goal.returns-then-s-eq-CONST
returns-then-s-eq-CONST c = search (rules, kind-constant)

pub returns : goal.returns
returns c = search (rules, kind-variable)
