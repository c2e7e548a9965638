use borrow.Author.Rules.{rules}
use mathlib.Core.Path.{refl}
use Rattle.std.proofs.lemmas.Result.{err_from_is_err_and}
use Rattle.check_names.proofs.Growing.{grown-self}
use Rattle.check_statements.proofs.Compacts.{plain-stands, plain-wrong, plain-right}
use Rattle.check_statements.proofs.simple_statement.Goals as goal

pub statement-requires : goal.statement-requires
statement-requires c = search (rules, plain-stands)

pub returns-in_err-n : goal.returns-in_err-n
returns-in_err-n c =
    let p = err_from_is_err_and c.from_residual.result c.from_residual.ensures.1 in
    rw (p.1, p.2) (plain-wrong _ _ _ _ _ _ _ _ c.statement.ensures _ c.in_err-n.was, tt)

pub returns : goal.returns
returns c = (plain-right _ _ _ _ _ _ _ _ c.statement.ensures _ c.in_ok-n.was _ refl, grown-self _)
