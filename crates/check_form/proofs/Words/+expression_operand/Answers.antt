use borrow.Author.Rules.{rules}
use native.Mathlib.Omega.{arith}
use Rattle.std.proofs.lemmas.Grind.{common_steps}
use Rattle.std.proofs.lemmas.Result.{err_from_is_err_and}
use Rattle.check_form.specs.Places.{operand}
use Rattle.check_form.proofs.Reading.{steps}
use Rattle.check_form.proofs.Flat.{begun, refused, past_all, past-relation, on-tight, on-relation, on-loose, operator-fits, fewer, fewer-signed, none-deeper, start-on, turn_on, turn_signed}
use Rattle.check_form.proofs.Words.+expression_operand.Goals as goal

pub expression-loop-m-init : goal.expression-loop-m-init
expression-loop-m-init t c = (search (rules, begun), search (rules, start-on))

pub expression-returns-in_err-m : goal.expression-returns-in_err-m
expression-returns-in_err-m t c =
    let p = err_from_is_err_and c.from_residual.result c.from_residual.ensures.1 in
    rw (p.1, p.2) (search (rules, refused, c.in_err-m.was))

pub expression-returns-then-k-eq-NONE : goal.expression-returns-then-k-eq-NONE
expression-returns-then-k-eq-NONE t c = search (rules, past_all, c.in_ok-m.was)

pub expression-overflow_add-n : goal.expression-overflow_add-n
expression-overflow_add-n t c = search (rules, operator-fits)

pub expression-loop-m-smaller-then-k-lt-RELATIONS : goal.expression-loop-m-smaller-then-k-lt-RELATIONS
expression-loop-m-smaller-then-k-lt-RELATIONS t c = search (rules, fewer, c.in_ok-m.was)

pub expression-loop-m-preserved-then-k-lt-RELATIONS : goal.expression-loop-m-preserved-then-k-lt-RELATIONS
expression-loop-m-preserved-then-k-lt-RELATIONS t c = (search (rules, on-tight, c.in_ok-m.was), search (rules, turn_on, c.in_ok-m.was))

pub expression-returns-then-related : goal.expression-returns-then-related
expression-returns-then-related t c = search (rules, past-relation, c.in_ok-m.was)

pub expression-overflow_add-m : goal.expression-overflow_add-m
expression-overflow_add-m t c = search (rules, operator-fits)

pub expression-loop-m-smaller-then-k-eq-RELATIONS : goal.expression-loop-m-smaller-then-k-eq-RELATIONS
expression-loop-m-smaller-then-k-eq-RELATIONS t c = search (rules, fewer-signed, c.in_ok-m.was)

pub expression-loop-m-preserved-then-k-eq-RELATIONS : goal.expression-loop-m-preserved-then-k-eq-RELATIONS
expression-loop-m-preserved-then-k-eq-RELATIONS t c = (search (rules, on-relation, c.in_ok-m.was), search (rules, turn_signed, c.in_ok-m.was))

pub expression-overflow_add-m-in-loop-m : goal.expression-overflow_add-m-in-loop-m
expression-overflow_add-m-in-loop-m t c = search (rules, operator-fits)

pub expression-loop-m-smaller : goal.expression-loop-m-smaller
expression-loop-m-smaller t c = search (rules, fewer-signed, c.in_ok-m.was)

pub expression-loop-m-preserved : goal.expression-loop-m-preserved
expression-loop-m-preserved t c = (search (rules, on-loose, c.in_ok-m.was), search (rules, turn_signed, c.in_ok-m.was))

pub operand-returns-then-nesting-eq0 : goal.operand-returns-then-nesting-eq0
unfolding operand
operand-returns-then-nesting-eq0 t c = grind (arith, common_steps, steps, none-deeper)

pub operand-returns-then-nesting-eq0-2 : goal.operand-returns-then-nesting-eq0-2
unfolding operand
operand-returns-then-nesting-eq0-2 t c = grind (arith, common_steps, steps, none-deeper)
