use borrow.Author.Rules.{rules}
use Rattle.std.proofs.lemmas.Result.{err_from_is_err_and}
use Rattle.check_datum.proofs.Contents.{array-asks, count-adds, count-value, count-scope, next-adds, array-faulty, array-crosses, array-goes}
use Rattle.check_datum.proofs.Scalars.{made-used, made-grown}
use Rattle.check_datum.proofs.array.Goals as goal

pub size-requires : goal.size-requires
size-requires c = search (rules, array-asks)

pub returns-in_err-count : goal.returns-in_err-count
returns-in_err-count c =
    let p = err_from_is_err_and c.from_residual.result c.from_residual.ensures.1 in
    rw (p.1, p.2) (array-faulty c.requires.2 _ _ c.size.ensures _ c.in_err-count.was, tt)

pub overflow_add-used : goal.overflow_add-used
overflow_add-used c =
    count-adds _ _ _ _ _ (array-asks c.requires.2 c.requires.0) c.size.ensures _ _ c.in_ok-count.was _ _ c.requires.1.4 c.requires.1.5

pub returns-then-site-used : goal.returns-then-site-used
returns-then-site-used c = (array-crosses c.requires.2 _ _ c.size.ensures _ _ c.in_ok-count.was (search rules), tt)

pub known-filled-requires : goal.known-filled-requires
known-filled-requires c =
    let asks = array-asks c.requires.2 c.requires.0 in (
      search rules,
      search rules,
      search rules,
      search rules,
      search rules,
      count-value _ _ _ _ _ asks c.size.ensures _ _ c.in_ok-count.was _ _ c.requires.1.4 c.requires.1.5,
      count-scope _ _ _ _ _ asks c.size.ensures _ _ c.in_ok-count.was _ _ c.requires.1.4 c.requires.1.5,
    )

pub overflow_add-result-2 : goal.overflow_add-result-2
overflow_add-result-2 c =
    next-adds _ _ _ _ _ (array-asks c.requires.2 c.requires.0) c.size.ensures _ _ c.in_ok-count.was

pub returns : goal.returns
returns c =
    let made = c.known-filled.ensures in
    (array-goes c.requires.2 _ _ c.size.ensures _ _ c.in_ok-count.was c.if-site-used.false _ _ _ _ made.makes c.start.ensures _ (made-used made), made-grown made)
