use native.Mathlib.Omega.{arith}
use Rattle.std.proofs.lemmas.Result.{err_from_is_err_and}
use Rattle.check_routines.proofs.RoutineLists.{lists-list, first-faulty, handler-asks, second-faulty, undo-asks, third-faulty, ends-ask, lists-done}
use Rattle.check_names.proofs.Growing.{grown-on, grown-upto, has_word}
use Rattle.check_routines.proofs.lists.Goals as goal

pub list-requires : goal.list-requires
list-requires c =
    (lists-list _ _ _ _ _ _ _ c.requires.0, c.requires.1)

pub returns-in_err-e : goal.returns-in_err-e
returns-in_err-e c =
    let p = err_from_is_err_and c.from_residual.result c.from_residual.ensures.1 in
    rw (p.1, p.2) (first-faulty _ _ _ _ _ _ _ _ _ _ c.list.ensures.0 _ c.in_err-e.was, tt)

pub list_behind-requires : goal.list_behind-requires
list_behind-requires c =
    (handler-asks _ _ _ _ _ _ _ _ _ _ c.list.ensures.0 _ _ c.in_ok-e.was c.requires.0, has_word c.requires.1 (grown-upto _ _ c.list.ensures.1 _ _ c.in_ok-e.was))

pub returns-in_err-z : goal.returns-in_err-z
returns-in_err-z c =
    let p = err_from_is_err_and c.from_residual-in_err-z.result c.from_residual-in_err-z.ensures.1 in
    rw (p.1, p.2) (second-faulty _ _ _ _ _ _ _ _ _ _ c.list.ensures.0 _ _ c.in_ok-e.was _ _ _ c.list_behind.ensures.0 _ c.in_err-z.was, tt)

pub list_behind-requires-2 : goal.list_behind-requires-2
list_behind-requires-2 c = (
  undo-asks _ _ _ _ _ _ _ _ _ _ c.list.ensures.0 _ _ c.in_ok-e.was _ _ _ c.list_behind.ensures.0 _ _ c.in_ok-z.was c.requires.0,
  has_word c.requires.1 (grown-on (grown-upto _ _ c.list.ensures.1 _ _ c.in_ok-e.was) (grown-upto _ _ c.list_behind.ensures.1 _ _ c.in_ok-z.was)),
)

pub shape_of-code-in_err-w : goal.shape_of-code-in_err-w
shape_of-code-in_err-w c =
    omega (arith, c.code-3-1.given, c.code-2-1.given, c.code-1.given)

pub returns-in_err-w : goal.returns-in_err-w
returns-in_err-w c =
    let p = err_from_is_err_and c.from_residual-in_err-w.result c.from_residual-in_err-w.ensures.1 in
    rw (p.1, p.2) (third-faulty _ _ _ _ _ _ _ _ _ _ c.list.ensures.0 _ _ c.in_ok-e.was _ _ _ c.list_behind.ensures.0 _ _ c.in_ok-z.was _ _ _ c.list_behind-2.ensures.0 _ c.in_err-w.was, tt)

pub close-requires : goal.close-requires
close-requires c =
    ends-ask _ _ _ _ _ _ _ _ _ _ c.list.ensures.0 _ _ c.in_ok-e.was _ _ _ c.list_behind.ensures.0 _ _ c.in_ok-z.was _ _ _ c.list_behind-2.ensures.0 _ _ c.in_ok-w.was c.requires.0

pub overflow_add-result : goal.overflow_add-result
overflow_add-result c =
    omega (arith, (ends-ask _ _ _ _ _ _ _ _ _ _ c.list.ensures.0 _ _ c.in_ok-e.was _ _ _ c.list_behind.ensures.0 _ _ c.in_ok-z.was _ _ _ c.list_behind-2.ensures.0 _ _ c.in_ok-w.was c.requires.0).3)

pub shape_of-code : goal.shape_of-code
shape_of-code c =
    omega (arith, c.code-4-1.given, c.code-3-1.given, c.code-2-1.given, c.code-1.given)

pub shape_of-values : goal.shape_of-values
shape_of-values c =
    omega (arith, c.values-3-1.given, c.values-2-1.given, c.values-1.given)

pub returns : goal.returns
returns c = (
  lists-done _ _ _ _ _ _ _ _ _ _ c.list.ensures.0 _ _ c.in_ok-e.was _ _ _ c.list_behind.ensures.0 _ _ c.in_ok-z.was _ _ _ c.list_behind-2.ensures.0 _ _ c.in_ok-w.was _ _ c.is_some.ensures c.close.ensures,
  grown-on (grown-on (grown-upto _ _ c.list.ensures.1 _ _ c.in_ok-e.was) (grown-upto _ _ c.list_behind.ensures.1 _ _ c.in_ok-z.was)) (grown-upto _ _ c.list_behind-2.ensures.1 _ _ c.in_ok-w.was),
)
