use native.Mathlib.Omega.{arith}
use Rattle.check_heads.proofs.AllRoutines.{routines-start, routines-done, head-asks, name-asks, next-asks, name-further, routines-again}
use borrow.Author.Rules.{rules}
use Rattle.check_heads.proofs.routines.Goals as goal

pub loop-code-init : goal.loop-code-init
loop-code-init c = search (rules, routines-start)

pub returns : goal.returns
returns c =
    let start = c.requires in
    let sort = c.sort.ensures in
    let starts = c.starts_routine.ensures in
    routines-done _ _ _ _ start _ _ _ _ _ c.loop-code.invariant _ sort _ starts c.loop-code-test.false _ c.clear.ensures _ c.main_of.ensures

pub head-name-requires : goal.head-name-requires
head-name-requires c =
    let start = c.requires in
    let sort = c.sort.ensures in
    let starts = c.starts_routine.ensures in
    head-asks _ _ _ _ start _ _ _ _ _ c.loop-code.invariant _ sort _ starts c.loop-code-test.true

pub take_name-main-requires : goal.take_name-main-requires
take_name-main-requires c =
    let start = c.requires in
    let sort = c.sort.ensures in
    let starts = c.starts_routine.ensures in
    name-asks _ _ _ _ start _ _ _ _ _ c.loop-code.invariant _ sort _ starts c.loop-code-test.true _ _ _ c.head-name.ensures

pub next-i-requires : goal.next-i-requires
next-i-requires c =
    let start = c.requires in
    let sort = c.sort.ensures in
    let starts = c.starts_routine.ensures in
    next-asks _ _ _ _ start _ _ _ _ _ c.loop-code.invariant _ sort _ starts c.loop-code-test.true _ _ _ c.head-name.ensures

pub loop-code-smaller : goal.loop-code-smaller
loop-code-smaller c =
    let start = c.requires in
    let sort = c.sort.ensures in
    let starts = c.starts_routine.ensures in
    omega (arith, name-further _ _ _ _ start _ _ _ _ _ c.loop-code.invariant _ sort _ starts c.loop-code-test.true _ _ _ c.head-name.ensures)

pub loop-code-preserved : goal.loop-code-preserved
loop-code-preserved c =
    let start = c.requires in
    let sort = c.sort.ensures in
    let starts = c.starts_routine.ensures in
    routines-again _ _ _ _ start _ _ _ _ _ c.loop-code.invariant _ sort _ starts c.loop-code-test.true _ _ _ c.head-name.ensures _ _ c.take_name-main.ensures _ c.next-i.ensures
