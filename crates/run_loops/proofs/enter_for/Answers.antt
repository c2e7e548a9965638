use borrow.Author.Rules.{rules}
use native.Mathlib.Omega.{arith}
use Rattle.run_machine.proofs.Current.{stores-here}
use Rattle.run_machine.proofs.Deciding.{word_in}
use Rattle.run_loops.proofs.ForHeads.{from_in, from-stands, to_in, from-fails, to-stands, for-steps, to-fails, step-fails, head-begins}
use Rattle.run_loops.proofs.enter_for.Goals as goal

pub overflow_add-i : goal.overflow_add-i
overflow_add-i c = omega (arith, word_in _ _ _ _ c.requires.0)

pub link-to-requires : goal.link-to-requires
link-to-requires c = search (rules, from_in)

pub overflow_add-i-2 : goal.overflow_add-i-2
overflow_add-i-2 c = omega (arith, word_in _ _ _ _ c.requires.0)

pub worth-a-requires : goal.worth-a-requires
worth-a-requires c = search (rules, stores-here, from-stands)

pub returns-then-a-ge-FIRST_ERROR : goal.returns-then-a-ge-FIRST_ERROR
returns-then-a-ge-FIRST_ERROR c = search (rules, from-fails)

pub link-s-requires : goal.link-s-requires
link-s-requires c = search (rules, to_in)

pub worth-b-requires : goal.worth-b-requires
worth-b-requires c = search (rules, stores-here, to-stands)

pub returns-then-b-ge-FIRST_ERROR : goal.returns-then-b-ge-FIRST_ERROR
returns-then-b-ge-FIRST_ERROR c = search (rules, to-fails)

pub step_of-c-requires : goal.step_of-c-requires
step_of-c-requires c =
    let start = c.requires in
    let to = c.link-to in
    let step = c.link-s in
    (stores-here _ _ _ _ start.0, for-steps _ _ _ _ _ start.1 _ to.ensures _ step.ensures start.0)

pub returns-then-c-ge-FIRST_ERROR : goal.returns-then-c-ge-FIRST_ERROR
returns-then-c-ge-FIRST_ERROR c = search (rules, step-fails)

pub begin-requires : goal.begin-requires
begin-requires c =
    let start = c.requires in
    let to = c.link-to in
    let from-value = c.worth-a in
    let from_told = c.if-a-ge-FIRST_ERROR.false in
    let step = c.link-s in
    let to-value = c.worth-b in
    let to-told = c.if-b-ge-FIRST_ERROR.false in
    let step_value = c.step_of-c in
    head-begins _ _ _ _ _ start.1 _ to.ensures from-value.result (search rules) from-value.ensures from_told _ step.ensures
    to-value.result (search rules) to-value.ensures to-told step_value.result (search rules) step_value.ensures c.if-c-ge-FIRST_ERROR.false start.0
