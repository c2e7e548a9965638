use borrow.Author.Rules.{rules}
use mathlib.Core.Path.{refl}
use native.Mathlib.Omega.{arith}
use Rattle.check_names.proofs.Growing.{grown-self, grown-on, grown-upto}
use Rattle.check_declarations.proofs.RoutineWalk.{routine-begun, routine-room, last-room, routine-small, routine-datum, routine-near, routine-faulty, routine-falls, routine-on, routine-done}
use Rattle.std.proofs.lemmas.Result.{err_from_is_err_and}
use Rattle.check_declarations.proofs.routine_data.Goals as goal

pub loop-code-init : goal.loop-code-init
loop-code-init c = search (rules, routine-begun, grown-self)

pub sort-requires : goal.sort-requires
sort-requires c = search (rules, routine-room)

pub datum-requires : goal.datum-requires
datum-requires c = (search (rules, routine-datum), search (rules, routine-near))

pub returns-in_err-next : goal.returns-in_err-next
returns-in_err-next c =
    let p = err_from_is_err_and c.from_residual.result c.from_residual.ensures.1 in
    rw (p.1, p.2) (routine-faulty _ _ _ _ _ _ _ _ _ _ c.loop-code.invariant.0 _ c.sort.ensures _ c.starts_data.ensures c.loop-code-test.true _ _ _ c.datum.ensures.0 _ _ c.in_err-next.was, tt)

pub set_link-requires : goal.set_link-requires
set_link-requires c =
    let h = last-room _ _ _ _ _ _ _ _ _ _ c.loop-code.invariant.0 c.requires.0 in
    let g = routine-small _ _ _ _ _ _ _ _ _ _ c.loop-code.invariant.0 c.requires.0 in
    (omega (arith, h), omega (arith, g))

pub loop-code-smaller : goal.loop-code-smaller
loop-code-smaller c =
    routine-falls _ _ _ _ _ _ _ _ _ _ c.loop-code.invariant.0 _ c.sort.ensures _ c.starts_data.ensures c.loop-code-test.true _ _ _ c.datum.ensures.0 _ _ c.in_ok-next.was c.requires.0

pub loop-code-preserved : goal.loop-code-preserved
loop-code-preserved c = (
  routine-on _ _ _ _ _ _ _ _ _ _ c.loop-code.invariant.0 _ c.sort.ensures _ c.starts_data.ensures c.loop-code-test.true _ _ _ c.datum.ensures.0 _ _ c.in_ok-next.was
      c.requires.0 _ c.set_link.ensures (search rules) (search rules),
  grown-on c.loop-code.invariant.1 (grown-upto _ _ c.datum.ensures.1 _ _ c.in_ok-next.was),
)

pub set_link-requires-2 : goal.set_link-requires-2
set_link-requires-2 c = (search (rules, last-room), search rules)

pub returns : goal.returns
returns c =
    (routine-done _ _ _ _ _ _ _ _ _ _ c.loop-code.invariant.0 _ c.sort.ensures _ c.starts_data.ensures c.loop-code-test.false _ _ c.set_link-2.ensures _ refl, c.loop-code.invariant.1)
