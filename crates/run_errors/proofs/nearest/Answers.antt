use borrow.Author.Rules.{rules}
use Rattle.run_errors.proofs.CallsDropped.{seek-start, seek-routine, seek-get, seek-add, seek-sub, seek-less, seek-on, nearest-found, nearest-main}
use Rattle.run_errors.proofs.nearest.Goals as goal

pub loop-base-init : goal.loop-base-init
loop-base-init c = search (rules, seek-start)

pub handler-requires : goal.handler-requires
handler-requires c = search (rules, seek-routine)

pub returns-then-b-eq-FIRST_WINDOW : goal.returns-then-b-eq-FIRST_WINDOW
returns-then-b-eq-FIRST_WINDOW c = search (rules, nearest-main)

pub overflow_sub-b : goal.overflow_sub-b
overflow_sub-b c = search (rules, seek-sub)

pub overflow_add-b : goal.overflow_add-b
overflow_add-b c = search (rules, seek-add)

pub get-s-requires : goal.get-s-requires
get-s-requires c = search (rules, seek-get)

pub loop-base-smaller : goal.loop-base-smaller
loop-base-smaller c = search (rules, seek-less)

pub loop-base-preserved : goal.loop-base-preserved
loop-base-preserved c =
    seek-on _ _ _ _ _ _ c.loop-base.invariant _ c.handler.ensures c.loop-base-test.ensures c.if-b-eq-FIRST_WINDOW.false _ c.get-s.ensures

pub returns : goal.returns
returns c = nearest-found _ _ _ _ _ _ c.loop-base.invariant _ c.handler.ensures c.loop-base-test.ensures
