use borrow.Author.Rules.{rules}
use Rattle.std.proofs.lemmas.Result.{err_from_is_err_and}
use Rattle.check_expressions.proofs.OperatorChain.{typed-faulty, typed_wrong, typed-right}
use Rattle.check_expressions.proofs.of_type.Goals as goal

pub returns-in_err-t : goal.returns-in_err-t
returns-in_err-t c =
    let p = err_from_is_err_and c.from_residual.result c.from_residual.ensures.1 in rw (p.1, p.2) (typed-faulty _ _ _ _ _ _ _ c.expression.ensures _ c.in_err-t.was)

pub returns-then-number-wants : goal.returns-then-number-wants
returns-then-number-wants c = typed_wrong _ _ _ _ _ _ _ c.expression.ensures _ _ c.in_ok-t.was _ c.number.ensures (search rules)

pub returns : goal.returns
returns c = typed-right _ _ _ _ _ _ _ c.expression.ensures _ _ c.in_ok-t.was _ c.number.ensures (search rules)
