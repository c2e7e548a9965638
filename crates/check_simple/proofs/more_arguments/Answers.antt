use borrow.Author.Rules.{rules}
use Rattle.std.proofs.lemmas.Result.{err_from_is_err_and}
use native.Mathlib.Omega.{arith}
use Rattle.check_simple.proofs.Arguments.{runs-first, run_room, run_long, run-done, run-asks, run-long-then, run-faulty, run_end, run_on}
use Rattle.check_simple.proofs.more_arguments.Goals as goal

pub loop-parameter-init : goal.loop-parameter-init
loop-parameter-init c = search (rules, runs-first)

pub sort-requires : goal.sort-requires
sort-requires c = (run_room _ _ _ _ _ _ _ c.loop-parameter.invariant c.requires).0

pub overflow_add-parameter : goal.overflow_add-parameter
overflow_add-parameter c =
    omega (arith, (run_room _ _ _ _ _ _ _ c.loop-parameter.invariant c.requires).2)

pub overflow_add-end : goal.overflow_add-end
overflow_add-end c =
    omega (arith, (run_room _ _ _ _ _ _ _ c.loop-parameter.invariant c.requires).1)

pub argument-requires : goal.argument-requires
argument-requires c =
    run-asks _ _ _ _ _ _ _ c.loop-parameter.invariant _ c.sort.ensures c.loop-parameter-test.true c.requires

pub shape_of-code-in_err-n : goal.shape_of-code-in_err-n
shape_of-code-in_err-n c = search (rules, run-long-then)

pub returns-in_err-n : goal.returns-in_err-n
returns-in_err-n c =
    let w = c.in_err-n.was in
    let p = err_from_is_err_and c.from_residual.result c.from_residual.ensures.1 in
    rw (p.1, p.2) (search (rules, run-faulty))

pub set_word-requires : goal.set_word-requires
set_word-requires c =
    let x = run_end _ _ _ _ _ _ _ c.loop-parameter.invariant _ c.sort.ensures c.loop-parameter-test.true _ _ c.argument.ensures _ _
    c.in_ok-n.was c.requires in (x.2, omega arith, omega arith, omega (arith, x.0))

pub loop-parameter-smaller : goal.loop-parameter-smaller
loop-parameter-smaller c =
    let x = run_end _ _ _ _ _ _ _ c.loop-parameter.invariant _ c.sort.ensures c.loop-parameter-test.true _ _ c.argument.ensures _ _
    c.in_ok-n.was c.requires in omega (arith, x.0, x.1)

pub loop-parameter-preserved : goal.loop-parameter-preserved
loop-parameter-preserved c = let w = c.in_ok-n.was in search (rules, run_on)

pub shape_of-code : goal.shape_of-code
shape_of-code c = search (rules, run_long)

pub returns : goal.returns
returns c = search (rules, run-done)
