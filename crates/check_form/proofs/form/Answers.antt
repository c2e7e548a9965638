use borrow.Author.Rules.{rules}
use Rattle.std.proofs.lemmas.Result.{err_from_is_err_and}
use Rattle.check_form.proofs.Whole.{form-refused, form-formed, form-more}
use Rattle.check_form.proofs.form.Goals as goal

pub returns-in_err-n : goal.returns-in_err-n
returns-in_err-n c =
    let p = err_from_is_err_and c.from_residual.result c.from_residual.ensures.1 in
    rw (p.1, p.2) (search (rules, form-refused, c.in_err-n.was))

pub returns-then-sort-eq-NOTHING : goal.returns-then-sort-eq-NOTHING
returns-then-sort-eq-NOTHING c = search (rules, form-formed, c.in_ok-n.was)

pub returns : goal.returns
returns c = search (rules, form-more, c.in_ok-n.was)
