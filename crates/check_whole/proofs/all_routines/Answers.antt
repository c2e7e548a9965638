use Rattle.check_whole.proofs.RoutineWalk.{going-begins, count_fits, routine-begins, routine-found, routine-done, routine-less, routines-done, no_loop, handed-back}
use Rattle.std.proofs.lemmas.Result.{err_from_is_err_and}
use borrow.Author.Rules.{rules}
use Rattle.check_whole.proofs.all_routines.Goals as goal

pub loop-h-init : goal.loop-h-init
loop-h-init c = search (rules, going-begins)

pub routine-requires : goal.routine-requires
routine-requires c = search (rules, routine-begins, no_loop)

pub returns-in_err-next : goal.returns-in_err-next
returns-in_err-next c =
    let p = err_from_is_err_and c.from_residual.result c.from_residual.ensures.1 in
    rw (p.1, p.2) (routine-found _ _ _ _ _ _ _ _ _ c.loop-h.invariant.0 c.loop-h-test.true _ _ _ c.routine.ensures.0 _ c.in_err-next.was, tt)

pub overflow_add-k : goal.overflow_add-k
overflow_add-k c = search (rules, count_fits)

pub loop-h-smaller : goal.loop-h-smaller
loop-h-smaller c =
    routine-less _ _ _ _ _ _ _ _ _ c.loop-h.invariant.0 c.loop-h-test.true _ _ _ c.routine.ensures.0 _ _ c.in_ok-next.was

pub loop-h-preserved : goal.loop-h-preserved
loop-h-preserved c = (
  routine-done _ _ _ _ _ _ _ _ _ c.loop-h.invariant.0 c.loop-h-test.true _ _ _ c.routine.ensures.0 _ _ c.in_ok-next.was
      c.routine.auto.code c.routine.auto.values,
  handed-back _ _ c.loop-h.invariant.1 _ c.routine.ensures.1 _ _ c.in_ok-next.was,
)

pub returns : goal.returns
returns c = search (rules, routines-done)
