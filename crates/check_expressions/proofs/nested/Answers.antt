use borrow.Author.Rules.{rules}
use Rattle.std.proofs.lemmas.Result.{err_from_is_err_and}
use Rattle.check_expressions.proofs.Around.{short-link, short-next, nested-faulty, nested_typed}
use Rattle.check_expressions.proofs.nested.Goals as goal

pub returns-in_err-t : goal.returns-in_err-t
returns-in_err-t c =
    let p = err_from_is_err_and c.from_residual.result c.from_residual.ensures.1 in rw (p.1, p.2) (nested-faulty _ _ _ _ c.in_err-t.was)

pub set_word-requires : goal.set_word-requires
set_word-requires c = search (rules, short-link)

pub overflow_add-result : goal.overflow_add-result
overflow_add-result c = search (rules, short-next)

pub returns : goal.returns
returns c = search (rules, nested_typed)
