use borrow.Author.Rules.{rules}
use mathlib.Core.Bool.{false}
use Rattle.run_advancing.proofs.Advanced.{step-cast, step-up, step-goes, step-sub-1, step-enters, step-sub-2, step_down, step_back, step-unmade, step-quits, step-takes}
use Rattle.run_advancing.proofs.advance.Goals as goal

pub overflow_cast-result : goal.overflow_cast-result
overflow_cast-result c =
    step-cast _ _ _ _ _ _ _ false c.requires _ _ _ record { sfits = c.step-r.type_inv } c.step-r.ensures

pub returns-then-r-lt-ENTERED : goal.returns-then-r-lt-ENTERED
returns-then-r-lt-ENTERED c = search (rules, step-goes)

pub overflow_cast-result-then-r-lt-LEFT : goal.overflow_cast-result-then-r-lt-LEFT
overflow_cast-result-then-r-lt-LEFT c =
    step-cast _ _ _ _ _ _ _ false c.requires _ _ _ record { sfits = c.step-r.type_inv } c.step-r.ensures

pub overflow_sub-result : goal.overflow_sub-result
overflow_sub-result c = search (rules, step-sub-1)

pub overflow_add-result : goal.overflow_add-result
overflow_add-result c = search (rules, step-up)

pub returns-then-r-lt-LEFT : goal.returns-then-r-lt-LEFT
returns-then-r-lt-LEFT c = search (rules, step-enters)

pub overflow_cast-result-then-r-lt-ENDED : goal.overflow_cast-result-then-r-lt-ENDED
overflow_cast-result-then-r-lt-ENDED c =
    step-cast _ _ _ _ _ _ _ false c.requires _ _ _ record { sfits = c.step-r.type_inv } c.step-r.ensures

pub overflow_sub-result-then-r-lt-ENDED : goal.overflow_sub-result-then-r-lt-ENDED
overflow_sub-result-then-r-lt-ENDED c = search (rules, step-sub-2)

pub overflow_sub-result-then-r-lt-ENDED-2 : goal.overflow_sub-result-then-r-lt-ENDED-2
overflow_sub-result-then-r-lt-ENDED-2 c = search (rules, step_down)

pub returns-then-r-lt-ENDED : goal.returns-then-r-lt-ENDED
returns-then-r-lt-ENDED c = search (rules, step_back)

pub quit-requires : goal.quit-requires
quit-requires c =
    step-unmade _ _ _ _ _ _ _ false c.requires _ _ _ record { sfits = c.step-r.type_inv } c.step-r.ensures c.if-r-lt-ENTERED.false c.if-r-lt-LEFT.false c.if-r-lt-ENDED.false

pub returns-then-aborted : goal.returns-then-aborted
returns-then-aborted c = search (rules, step-quits)

pub take-requires : goal.take-requires
take-requires c =
    step-unmade _ _ _ _ _ _ _ false c.requires _ _ _ record { sfits = c.step-r.type_inv } c.step-r.ensures c.if-r-lt-ENTERED.false c.if-r-lt-LEFT.false c.if-r-lt-ENDED.false

pub returns : goal.returns
returns c = search (rules, step-takes)
