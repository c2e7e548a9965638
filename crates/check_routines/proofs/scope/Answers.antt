use native.Mathlib.Omega.{arith}
use Rattle.std.proofs.lemmas.Result.{err_from_is_err_and}
use Rattle.check_names.proofs.Growing.{grown-upto}
use Rattle.check_routines.proofs.BehindTheName.{name-small, scope-parameters, parameters-so, entered-first, entered-none, own-declared, own-scoped}
use Rattle.check_routines.proofs.BehindTheName.{own-close, own-stands, data-so, data-declared, own-passed, data_head, data-opens, data-lists, data-words, data-at, lists-so, used-few, used-most, scope-leaving, scope-done}
use Rattle.check_routines.proofs.scope.Goals as goal

pub overflow_add-name : goal.overflow_add-name
overflow_add-name c = omega (arith, name-small _ _ _ _ _ _ c.requires.0)

pub parameters-requires : goal.parameters-requires
parameters-requires c =
    let s = c.enter_routine-entered.result in
    let e = c.enter_routine-entered.ensures in
    (scope-parameters _ _ _ _ _ _ s (entered-first c.args.outer _ _ s e) c.requires.0, entered-none c.args.outer _ _ s e)

pub returns-in_err-close : goal.returns-in_err-close
returns-in_err-close c =
    let s = c.enter_routine-entered.result in
    let e = c.enter_routine-entered.ensures in
    let p = err_from_is_err_and c.from_residual.result c.from_residual.ensures.1 in
    rw (p.1, p.2) (parameters-so _ _ _ _ _ _ s (entered-first c.args.outer _ _ s e) _ _ _ c.parameters.ensures.0 _ c.in_err-close.was, tt)

pub overflow_add-name-2 : goal.overflow_add-name-2
overflow_add-name-2 c =
    omega (arith, name-small _ _ _ _ _ _ c.requires.0)

pub overflow_add-close : goal.overflow_add-close
overflow_add-close c =
    let own = own-declared _ _ _ _ c.args.outer _ _ _ c.enter_routine-entered.ensures _ _ _ c.parameters.ensures.0 c.parameters.ensures.1 _ _ c.in_ok-close.was c.parameters.auto.code c.requires.0 in
    omega (arith, own-close _ _ _ _ _ _ _ _ _ own)

pub routine_data-requires : goal.routine_data-requires
routine_data-requires c =
    let own = own-declared _ _ _ _ c.args.outer _ _ _ c.enter_routine-entered.ensures _ _ _ c.parameters.ensures.0 c.parameters.ensures.1 _ _ c.in_ok-close.was c.parameters.auto.code c.requires.0 in
    (own-stands _ _ _ _ _ _ _ _ _ own, omega (arith, name-small _ _ _ _ _ _ c.requires.0))

pub returns-in_err-at : goal.returns-in_err-at
returns-in_err-at c =
    let p = err_from_is_err_and c.from_residual-in_err-at.result c.from_residual-in_err-at.ensures.1 in
    rw (p.1, p.2) (
      own-scoped _ _ _ _ c.args.outer _ _ _ c.enter_routine-entered.ensures _ _ _ c.parameters.ensures.0 c.parameters.ensures.1 _ _ c.in_ok-close.was c.parameters.auto.code _ _ _
          (data-so _ _ _ _ _ _ _ _ _ _ _ _ c.routine_data.ensures.0 _ c.in_err-at.was),
      tt,
    )

pub lists-requires : goal.lists-requires
lists-requires c =
    let own = own-declared _ _ _ _ c.args.outer _ _ _ c.enter_routine-entered.ensures _ _ _ c.parameters.ensures.0 c.parameters.ensures.1 _ _ c.in_ok-close.was c.parameters.auto.code c.requires.0 in
    let stands =
    data-declared _ _ _ _ _ _ _ _ _ _ _ _ c.routine_data.ensures.0 _ _ c.in_ok-at.was c.routine_data.auto.code
    (grown-upto _ _ c.routine_data.ensures.1 _ _ c.in_ok-at.was) own in
    (data-lists _ _ _ _ _ _ _ _ _ stands, data-words _ _ _ _ _ _ _ _ _ c.requires.1 stands)

pub returns-in_err-next : goal.returns-in_err-next
returns-in_err-next c =
    let p = err_from_is_err_and c.from_residual-in_err-next.result c.from_residual-in_err-next.ensures.1 in
    rw (p.1, p.2) (
      own-scoped _ _ _ _ c.args.outer _ _ _ c.enter_routine-entered.ensures _ _ _ c.parameters.ensures.0 c.parameters.ensures.1 _ _ c.in_ok-close.was c.parameters.auto.code _ _ _
          (own-passed _ _ _ _ _ _ _ _ _ _ _ _ c.routine_data.ensures.0 _ _ c.in_ok-at.was c.routine_data.auto.code
          (grown-upto _ _ c.routine_data.ensures.1 _ _ c.in_ok-at.was) _ _ _
          (lists-so _ _ _ _ _ _ _ _ _ _ _ _ c.lists.ensures.0 _ c.in_err-next.was)),
      tt,
    )

pub overflow_sub-all : goal.overflow_sub-all
overflow_sub-all c =
    let own = own-declared _ _ _ _ c.args.outer _ _ _ c.enter_routine-entered.ensures _ _ _ c.parameters.ensures.0 c.parameters.ensures.1 _ _ c.in_ok-close.was c.parameters.auto.code c.requires.0 in
    let stands =
    data-declared _ _ _ _ _ _ _ _ _ _ _ _ c.routine_data.ensures.0 _ _ c.in_ok-at.was c.routine_data.auto.code
    (grown-upto _ _ c.routine_data.ensures.1 _ _ c.in_ok-at.was) own in
    used-most _ _ _ _ _ _ _ _ _ _ _ _ c.lists.ensures.0 _ _ c.in_ok-next.was stands

pub finish-requires : goal.finish-requires
finish-requires c =
    let own = own-declared _ _ _ _ c.args.outer _ _ _ c.enter_routine-entered.ensures _ _ _ c.parameters.ensures.0 c.parameters.ensures.1 _ _ c.in_ok-close.was c.parameters.auto.code c.requires.0 in
    let stands =
    data-declared _ _ _ _ _ _ _ _ _ _ _ _ c.routine_data.ensures.0 _ _ c.in_ok-at.was c.routine_data.auto.code
    (grown-upto _ _ c.routine_data.ensures.1 _ _ c.in_ok-at.was) own in (
      data_head _ _ _ _ _ _ _ _ _ stands,
      omega (arith, data-opens _ _ _ _ _ _ _ _ _ stands, c.lists.auto.code),
      data-at _ _ _ _ _ _ _ _ _ stands,
      used-few _ _ _ _ _ _ _ _ _ _ _ _ c.lists.ensures.0 _ _ c.in_ok-next.was stands,
    )

pub leave_routine-left-requires : goal.leave_routine-left-requires
leave_routine-left-requires c =
    let own = own-declared _ _ _ _ c.args.outer _ _ _ c.enter_routine-entered.ensures _ _ _ c.parameters.ensures.0 c.parameters.ensures.1 _ _ c.in_ok-close.was c.parameters.auto.code c.requires.0 in
    let stands =
    data-declared _ _ _ _ _ _ _ _ _ _ _ _ c.routine_data.ensures.0 _ _ c.in_ok-at.was c.routine_data.auto.code
    (grown-upto _ _ c.routine_data.ensures.1 _ _ c.in_ok-at.was) own in
    scope-leaving _ _ _ _ _ _ _ _ _ _ _ _ c.lists.ensures.0 _ _ c.in_ok-next.was _ c.finish.ensures (omega (arith, c.finish.auto.code, c.lists.auto.code)) (grown-upto _ _ c.lists.ensures.1 _ _ c.in_ok-next.was) stands

pub returns : goal.returns
returns c = (
  own-scoped _ _ _ _ c.args.outer _ _ _ c.enter_routine-entered.ensures _ _ _ c.parameters.ensures.0 c.parameters.ensures.1 _ _ c.in_ok-close.was c.parameters.auto.code _ _ _
      (own-passed _ _ _ _ _ _ _ _ _ _ _ _ c.routine_data.ensures.0 _ _ c.in_ok-at.was c.routine_data.auto.code
      (grown-upto _ _ c.routine_data.ensures.1 _ _ c.in_ok-at.was) _ _ _
      (scope-done _ _ _ _ _ _ _ _ _ _ _ _ c.lists.ensures.0 _ _ c.in_ok-next.was _ c.finish.ensures (omega (arith, c.finish.auto.code, c.lists.auto.code)) (grown-upto _ _ c.lists.ensures.1 _ _ c.in_ok-next.was) _ _
      c.leave_routine-left.ensures (omega (arith, c.leave_routine-left.auto.values)))),
  c.leave_routine-left.ensures.scope-is,
)
