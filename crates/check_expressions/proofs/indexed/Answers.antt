use borrow.Author.Rules.{rules}
use Rattle.std.proofs.lemmas.Result.{err_from_is_err_and}
use Rattle.check_expressions.proofs.Around.{short-link, short-next, indexed-faulty, indexed-wrong, indexed-typed}
use Rattle.check_expressions.proofs.TypesCompared.{told-apart, told-same}
use Rattle.check_expressions.proofs.indexed.Goals as goal

pub returns-in_err-t : goal.returns-in_err-t
returns-in_err-t c =
    let p = err_from_is_err_and c.from_residual.result c.from_residual.ensures.1 in rw (p.1, p.2) (indexed-faulty _ _ _ _ _ c.in_err-t.was)

pub returns-then-ne : goal.returns-then-ne
returns-then-ne c = indexed-wrong _ _ _ _ _ _ c.in_ok-t.was (told-apart _ _ c.if-ne.ensures)

pub set_word-requires : goal.set_word-requires
set_word-requires c = search (rules, short-link)

pub overflow_add-result-2 : goal.overflow_add-result-2
overflow_add-result-2 c = search (rules, short-next)

pub returns : goal.returns
returns c = search (rules, indexed-typed, told-same)
