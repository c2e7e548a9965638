use lib.IntN.{◌*ℤ◌}
use Rattle.paper.specs.Numbers.{multiply}
use Rattle.std.proofs.lemmas.Result.{err_from_is_err_and}
use Rattle.store_numbers.proofs.Outcomes.{tells, exact-held, exact-over}
use borrow.Author.Rules.{rules}
use Rattle.store_numbers.proofs.multiply.Goals as goal

pub returns-in_err-exact : goal.returns-in_err-exact
unfolding multiply
returns-in_err-exact c =
    let p = err_from_is_err_and c.from_residual.result c.from_residual.ensures.1 in
    let t = tells ◌*ℤ◌ _ _ c.ranges.a c.ranges.b _ c.checked_mul.ensures in
    rw (p.1, p.2) (exact-over _ _ _ _ _ (search rules) t c.ok_or.ensures.value c.in_err-exact.was)

pub returns : goal.returns
unfolding multiply
returns c = search (rules, exact-held)
