use borrow.Author.Rules.{rules}
use Rattle.std.proofs.lemmas.Result.{err_from_is_err_and}
use native.Mathlib.Omega.{arith}
use Rattle.check_simple.proofs.Calls.{head-here, head_small, callee-here, first_small, call_asks, first-end, call-more, called-wrong, called-barred, called-none, called-faulty, called_on}
use Rattle.check_simple.proofs.call.Goals as goal

pub head-requires : goal.head-requires
head-requires c = search (rules, head-here)

pub returns-then-count-head : goal.returns-then-count-head
returns-then-count-head c = search (rules, called-wrong)

pub returns-then-undo : goal.returns-then-undo
returns-then-undo c = search (rules, called-barred)

pub overflow_cast-h : goal.overflow_cast-h
overflow_cast-h c = omega (arith, head_small)

pub set_word-requires : goal.set_word-requires
set_word-requires c = (omega (arith, callee-here), omega arith, omega (arith, head_small), omega (arith, first_small))

pub returns-then-count-eq0 : goal.returns-then-count-eq0
returns-then-count-eq0 c = search (rules, called-none)

pub first_parameter-p-requires : goal.first_parameter-p-requires
first_parameter-p-requires c = (omega (arith, head-here), omega (arith, head_small))

pub argument-requires : goal.argument-requires
argument-requires c =
    let x = call_asks _ _ _ _ _ _ _ c.requires.0 _ c.count_arguments-count.ensures _ c.head.ensures c.if-count-head.false c.if-undo.false
    c.if-count-eq0.false _ c.first_parameter-p.ensures in (x.0, x.2)

pub returns-in_err-end : goal.returns-in_err-end
returns-in_err-end c =
    let w = c.in_err-end.was in
    let p = err_from_is_err_and c.from_residual.result c.from_residual.ensures.1 in
    rw (p.1, p.2) (search (rules, called-faulty))

pub overflow_cast-h-2 : goal.overflow_cast-h-2
overflow_cast-h-2 c = omega (arith, head_small)

pub set_word-requires-2 : goal.set_word-requires-2
set_word-requires-2 c =
    let x = first-end _ _ _ _ _ _ _ c.requires.0 _ c.count_arguments-count.ensures _ c.head.ensures c.if-count-head.false c.if-undo.false
    c.if-count-eq0.false _ c.first_parameter-p.ensures _ _ c.argument.ensures _ _ c.in_ok-end.was in
    (x.1, c.requires.1, omega (arith, head_small), omega (arith, x.0))

pub more_arguments-requires : goal.more_arguments-requires
more_arguments-requires c =
    call-more _ _ _ _ _ _ _ c.requires.0 _ c.count_arguments-count.ensures _ c.head.ensures c.if-count-head.false c.if-undo.false c.if-count-eq0.false _
    c.first_parameter-p.ensures _ _ c.argument.ensures _ _ c.in_ok-end.was _ _
    c.set_word-2.ensures

pub returns : goal.returns
returns c = let w = c.in_ok-end.was in search (rules, called_on)
