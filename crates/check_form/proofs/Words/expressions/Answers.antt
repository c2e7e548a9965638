use borrow.Author.Rules.{rules}
use Rattle.std.proofs.lemmas.Result.{err_from_is_err_and}
use Rattle.check_form.specs.Places.{expressions}
use Rattle.check_form.proofs.Beyond.{nested-on}
use Rattle.check_form.proofs.Loops.{commas-refused, commas-end, commas-on, commas-less}
use Rattle.check_form.proofs.Words.expressions.Goals as goal

pub loop-m-init : goal.loop-m-init
unfolding expressions
loop-m-init c = search rules

pub returns-in_err-m : goal.returns-in_err-m
returns-in_err-m c = let p = err_from_is_err_and c.from_residual.result c.from_residual.ensures.1 in rw (p.1, p.2) (search (rules, commas-refused, nested-on, c.in_err-m.was))

pub returns-then-sort-ne-COMMA : goal.returns-then-sort-ne-COMMA
returns-then-sort-ne-COMMA c = search (rules, commas-end, nested-on, c.in_ok-m.was)

pub loop-m-smaller : goal.loop-m-smaller
loop-m-smaller c = search (rules, commas-less, nested-on, c.in_ok-m.was)

pub loop-m-preserved : goal.loop-m-preserved
loop-m-preserved c = search (rules, commas-on, nested-on, c.in_ok-m.was)
