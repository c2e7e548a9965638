use borrow.Author.Rules.{rules}
use Prim.Native.Nat.{◌<◌}
use native.Mathlib.Omega.{arith}
use Rattle.std.proofs.lemmas.Result.{err_from_is_err_and}
use Rattle.check_form.proofs.Compounds.{begins, begins-refused, whole-left, deep, closes, list-refused, end-refused, list_left, list-less}
use Rattle.check_form.proofs.Compounds.{compound-in, compound-refused, compound-left, compound-less, list-ends, simple-refused, simple-left, simple-less}
use Rattle.check_form.proofs.Words.+compound_list.Goals as goal

pub compound-returns-in_err-part : goal.compound-returns-in_err-part
compound-returns-in_err-part t c =
    let p = err_from_is_err_and c.from_residual.result c.from_residual.ensures.1 in
    rw (p.1, p.2) (search (rules, begins-refused, c.in_err-part.was))

pub compound-loop-part-init : goal.compound-loop-part-init
compound-loop-part-init t c = search (rules, begins, c.in_ok-part.was)

pub compound-returns-in-Whole : goal.compound-returns-in-Whole
compound-returns-in-Whole t c = search (rules, whole-left)

pub compound-overflow_sub-deeper : goal.compound-overflow_sub-deeper
compound-overflow_sub-deeper t c = search (rules, deep)

pub compound-list-requires : goal.compound-list-requires
compound-list-requires t c =
    let h : 0 < c.args.deeper = search (rules, deep) in
    (omega arith, search rules)

pub compound-returns-in_err-m-in-Inside : goal.compound-returns-in_err-m-in-Inside
compound-returns-in_err-m-in-Inside t c =
    let p = err_from_is_err_and c.from_residual-in_err-m-in-Inside.result c.from_residual-in_err-m-in-Inside.ensures.1 in
    rw (p.1, p.2) (search (rules, list-refused, c.in_err-m-in-Inside.was))

pub compound-list_end-requires : goal.compound-list_end-requires
compound-list_end-requires t c = search (rules, closes)

pub compound-returns-in_err-part-in-Inside : goal.compound-returns-in_err-part-in-Inside
compound-returns-in_err-part-in-Inside t c =
    let p = err_from_is_err_and c.from_residual-in_err-part-in-Inside.result c.from_residual-in_err-part-in-Inside.ensures.1 in
    rw (p.1, p.2) (search (rules, end-refused, c.in_ok-m-in-Inside.was, c.in_err-part-in-Inside.was))

pub compound-loop-part-smaller : goal.compound-loop-part-smaller
compound-loop-part-smaller t c = search (rules, list-less, c.in_ok-m-in-Inside.was, c.in_ok-part-in-Inside.was)

pub compound-loop-part-preserved : goal.compound-loop-part-preserved
compound-loop-part-preserved t c = search (rules, list_left, c.in_ok-m-in-Inside.was, c.in_ok-part-in-Inside.was)

pub list-compound-requires : goal.list-compound-requires
list-compound-requires t c = (omega arith, search (rules, compound-in))

pub list-returns-in_err-n : goal.list-returns-in_err-n
list-returns-in_err-n t c =
    let p = err_from_is_err_and c.from_residual.result c.from_residual.ensures.1 in
    rw (p.1, p.2) (search (rules, compound-refused, c.in_err-n.was))

pub list-loop-n-smaller-then-starts_compound : goal.list-loop-n-smaller-then-starts_compound
list-loop-n-smaller-then-starts_compound t c = search (rules, compound-less, c.in_ok-n.was)

pub list-loop-n-preserved-then-starts_compound : goal.list-loop-n-preserved-then-starts_compound
list-loop-n-preserved-then-starts_compound t c = search (rules, compound-left, c.in_ok-n.was)

pub list-returns-in_err-n-2 : goal.list-returns-in_err-n-2
list-returns-in_err-n-2 t c =
    let p = err_from_is_err_and c.from_residual-in_err-n-2.result c.from_residual-in_err-n-2.ensures.1 in
    rw (p.1, p.2) (search (rules, simple-refused, c.in_err-n-2.was))

pub list-loop-n-smaller : goal.list-loop-n-smaller
list-loop-n-smaller t c = search (rules, simple-less, c.in_ok-n-2.was)

pub list-loop-n-preserved : goal.list-loop-n-preserved
list-loop-n-preserved t c = search (rules, simple-left, c.in_ok-n-2.was)

pub list-returns-in-loop-n : goal.list-returns-in-loop-n
list-returns-in-loop-n t c = search (rules, list-ends)
