use borrow.Author.Rules.{rules}
use Rattle.std.proofs.lemmas.Result.{err_from_is_err_and}
use Rattle.paper.specs.Expressions.{starts_data}
use Rattle.check_form.proofs.Loops.{behind-fits, repeats-refused, repeats-less, repeats-on, repeats-end}
use Rattle.check_form.proofs.Moves.{no-data, data-kind}
use Rattle.check_form.proofs.Words.declarations.Goals as goal

pub returns-then-not-starts_data : goal.returns-then-not-starts_data
returns-then-not-starts_data c = search (rules, repeats-end, data-kind)

pub overflow_add-n : goal.overflow_add-n
overflow_add-n c = search (rules, behind-fits starts_data no-data)

pub returns-in_err-n : goal.returns-in_err-n
returns-in_err-n c =
    let p = err_from_is_err_and c.from_residual.result c.from_residual.ensures.1 in
    rw (p.1, p.2) (search (rules, repeats-refused, data-kind, c.in_err-n.was))

pub loop-at-smaller : goal.loop-at-smaller
loop-at-smaller c = search (rules, repeats-less, data-kind, c.in_ok-n.was)

pub loop-at-preserved : goal.loop-at-preserved
loop-at-preserved c = search (rules, repeats-on, data-kind, c.in_ok-n.was)
