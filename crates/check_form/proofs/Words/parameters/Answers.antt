use borrow.Author.Rules.{rules}
use native.Mathlib.Omega.{arith}
use Rattle.std.proofs.lemmas.Grind.{common_steps}
use Rattle.std.proofs.lemmas.Result.{err_from_is_err_and}
use Rattle.check_form.specs.Places.{parameters}
use Rattle.check_form.proofs.Loops.{commas-refused, commas-less, commas-on, commas-end}
use Rattle.check_form.proofs.Moves.{parameter-on}
use Rattle.check_form.proofs.Words.parameters.Goals as goal

pub returns-then-sort-eq-CLOSE_PAREN : goal.returns-then-sort-eq-CLOSE_PAREN
unfolding parameters
returns-then-sort-eq-CLOSE_PAREN c = grind (arith, common_steps)

pub loop-m-init : goal.loop-m-init
unfolding parameters
loop-m-init c = grind (arith, common_steps)

pub returns-in_err-m : goal.returns-in_err-m
returns-in_err-m c = let p = err_from_is_err_and c.from_residual.result c.from_residual.ensures.1 in rw (p.1, p.2) (search (rules, commas-refused, parameter-on, c.in_err-m.was))

pub returns-then-sort-ne-COMMA : goal.returns-then-sort-ne-COMMA
returns-then-sort-ne-COMMA c = search (rules, commas-end, parameter-on, c.in_ok-m.was)

pub loop-m-smaller : goal.loop-m-smaller
loop-m-smaller c = search (rules, commas-less, parameter-on, c.in_ok-m.was)

pub loop-m-preserved : goal.loop-m-preserved
loop-m-preserved c = search (rules, commas-on, parameter-on, c.in_ok-m.was)
