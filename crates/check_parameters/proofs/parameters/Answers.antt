use borrow.Author.Rules.{rules}
use native.Mathlib.Omega.{arith}
use Rattle.check_parameters.proofs.ParameterWalk.{parameters-room, parameters-none, parameters-begun, parameters-next, parameters-faulty, end-room, behind-adds, parameters-fall, parameters-done, parameters-go}
use Rattle.check_parameters.proofs.ParameterWalk.{unopened-self, opened-names, opens-upto}
use Rattle.std.proofs.lemmas.Result.{err_from_is_err_and}
use Rattle.check_parameters.proofs.parameters.Goals as goal

pub sort-requires : goal.sort-requires
sort-requires c = search (rules, parameters-room)

pub returns-then-sort-eq-CLOSE_PAREN : goal.returns-then-sort-eq-CLOSE_PAREN
returns-then-sort-eq-CLOSE_PAREN c = search (rules, parameters-none, unopened-self)

pub loop-next-init : goal.loop-next-init
loop-next-init c = search (rules, parameters-begun, unopened-self)

pub parameter-requires : goal.parameter-requires
parameter-requires c = search (rules, parameters-next, opened-names)

pub returns-in_err-next : goal.returns-in_err-next
returns-in_err-next c =
    let p = err_from_is_err_and c.from_residual.result c.from_residual.ensures.1 in
    rw (p.1, p.2) (parameters-faulty _ _ _ _ _ _ _ c.loop-next.invariant.0 _ _ _ c.parameter.ensures.0 _ c.in_err-next.was, tt)

pub sort-requires-in-loop-next : goal.sort-requires-in-loop-next
sort-requires-in-loop-next c =
    let h = end-room _ _ _ _ _ _ _ c.loop-next.invariant.0 _ _ _ c.parameter.ensures.0 _ _ c.in_ok-next.was c.requires.0 in
    omega (arith, h)

pub returns-then-sort-ne-COMMA : goal.returns-then-sort-ne-COMMA
returns-then-sort-ne-COMMA c = (
  parameters-done _ _ _ _ _ _ _ c.loop-next.invariant.0 _ _ _ c.parameter.ensures.0 _ _ c.in_ok-next.was _ c.sort-in-loop-next.ensures (search rules) c.if-sort-ne-COMMA.true,
  opens-upto _ _ _ c.loop-next.invariant.1 c.parameter.ensures.1 _ _ c.in_ok-next.was,
)

pub overflow_add-i : goal.overflow_add-i
overflow_add-i c = behind-adds _ _ _ _ _ _ _ c.loop-next.invariant.0 _ _ _ c.parameter.ensures.0 _ _ c.in_ok-next.was c.requires.0

pub loop-next-smaller : goal.loop-next-smaller
loop-next-smaller c = parameters-fall _ _ _ _ _ _ _ c.loop-next.invariant.0 _ _ _ c.parameter.ensures.0 _ _ c.in_ok-next.was c.requires.0

pub loop-next-preserved : goal.loop-next-preserved
loop-next-preserved c = (
  parameters-go _ _ _ _ _ _ _ c.loop-next.invariant.0 _ _ _ c.parameter.ensures.0 _ _ c.in_ok-next.was _ c.sort-in-loop-next.ensures (search rules) c.if-sort-ne-COMMA.false c.requires.0 (search rules),
  opens-upto _ _ _ c.loop-next.invariant.1 c.parameter.ensures.1 _ _ c.in_ok-next.was,
)
