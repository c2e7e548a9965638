use Rattle.text_scanner.proofs.Gaps.{left-start, gap-out, separated, ends, comment-less, comment-passed, comment-bad}
use Rattle.std.proofs.lemmas.Result.{err_from_is_err_and}
use borrow.Author.Rules.{rules}
use Rattle.text_scanner.proofs.skip_gap.Goals as goal

pub loop-place-init : goal.loop-place-init
loop-place-init c = search (rules, left-start)

pub loop-place-preserved-then-is_separator : goal.loop-place-preserved-then-is_separator
loop-place-preserved-then-is_separator c = search (rules, separated)

pub returns-then-b-ne33 : goal.returns-then-b-ne33
returns-then-b-ne33 c = search (rules, ends)

pub returns-in_err-place : goal.returns-in_err-place
returns-in_err-place c =
    let p = err_from_is_err_and c.from_residual.result c.from_residual.ensures.1 in
    rw (p.1, p.2) (comment-bad _ _ _ c.loop-place.invariant c.loop-place-test.true _ c.is_separator.ensures c.if-is_separator.false c.if-b-ne33.false _ c.comment_end.ensures 0 _ c.in_err-place.was)

pub loop-place-smaller : goal.loop-place-smaller
loop-place-smaller c = search (rules, comment-less)

pub loop-place-preserved : goal.loop-place-preserved
loop-place-preserved c = comment-passed _ _ _ c.loop-place.invariant c.loop-place-test.true _ c.is_separator.ensures c.if-is_separator.false c.if-b-ne33.false _ c.comment_end.ensures _ c.in_ok-place.was

pub returns : goal.returns
returns c = search (rules, gap-out)
