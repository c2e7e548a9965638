use borrow.Author.Rules.{rules}
use mathlib.Core.Path.{sym}
use Rattle.std.proofs.lemmas.Result.{err_from_is_err_and}
use Rattle.check_simple.proofs.ParameterTypes.{passed-faulty, passed-wrong, passed-right}
use Rattle.check_simple.proofs.argument.Goals as goal

pub returns-in_err-t : goal.returns-in_err-t
returns-in_err-t c =
    let w = c.in_err-t.was in
    let p = err_from_is_err_and c.from_residual.result c.from_residual.ensures.1 in
    rw (p.1, p.2, sym w) (search (rules, passed-faulty))

pub returns-then-differs : goal.returns-then-differs
returns-then-differs c = let w = c.in_ok-t.was in search (rules, passed-wrong)

pub returns : goal.returns
returns c = let w = c.in_ok-t.was in search (rules, passed-right)
