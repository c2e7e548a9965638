use Rattle.text_scanner.proofs.Gaps.{left-start, comment-out, line-end, commented, bad}
use borrow.Author.Rules.{rules}
use Rattle.text_scanner.proofs.comment_end.Goals as goal

pub loop-place-init : goal.loop-place-init
loop-place-init c = search (rules, left-start)

pub returns-then-b-eq10 : goal.returns-then-b-eq10
returns-then-b-eq10 c = search (rules, line-end)

pub loop-place-preserved : goal.loop-place-preserved
loop-place-preserved c = search (rules, commented)

pub returns-else-is_permitted_inside : goal.returns-else-is_permitted_inside
returns-else-is_permitted_inside c = search (rules, bad)

pub returns : goal.returns
returns c = search (rules, comment-out)
