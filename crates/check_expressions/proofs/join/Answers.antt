use borrow.Author.Rules.{rules}
use Rattle.std.proofs.lemmas.Result.{err_from_is_err_and}
use Rattle.check_expressions.proofs.Around.{right-next, right-room, right_near, right-some, right-leaf, join-faulty, join-wrong, join-typed}
use Rattle.check_expressions.proofs.TypesCompared.{told-apart, told-same}
use Rattle.check_expressions.proofs.join.Goals as goal

pub returns-in_err-t : goal.returns-in_err-t
returns-in_err-t c =
    let p = err_from_is_err_and c.from_residual.result c.from_residual.ensures.1 in rw (p.1, p.2) (join-faulty _ _ _ _ _ _ c.in_err-t.was)

pub overflow_add-result : goal.overflow_add-result
overflow_add-result c = right-next _ _ _ _ _ _ _ c.requires c.in_ok-t.was

pub returns-then-ne : goal.returns-then-ne
returns-then-ne c = join-wrong _ _ _ _ _ _ _ c.in_ok-t.was (told-apart _ _ c.if-ne.ensures)

pub tie-requires : goal.tie-requires
tie-requires c =
    (right-room _ _ _ _ _ _ _ c.requires c.in_ok-t.was, right_near _ _ _ _ _ _ _ c.requires c.in_ok-t.was, right-some _ _ _ _ _ c.requires, λ h. right-leaf _ _ _ _ _ _ _ c.requires c.in_ok-t.was h)

pub returns : goal.returns
returns c = search (rules, join-typed, told-same)
