use borrow.Author.Rules.{rules}
use Rattle.std.proofs.lemmas.Result.{err_from_is_err_and}
use Rattle.check_constants.proofs.ConstantsWorth.{size-faulty, size_low, size-high, size-fine}
use Rattle.check_constants.proofs.size.Goals as goal

pub returns-in_err-v : goal.returns-in_err-v
returns-in_err-v c = let p = err_from_is_err_and c.from_residual.result c.from_residual.ensures.1 in rw (p.1, p.2) (size-faulty _ _ _ _ _ c.constant.ensures _ c.in_err-v.was)

pub returns-then-v-lt1 : goal.returns-then-v-lt1
returns-then-v-lt1 c =
    elim c.then-v-lt1.branch [
      | goal.then-v-lt1-via-then-v-lt1 w ↦ size_low _ _ _ _ _ c.constant.ensures _ _ c.in_ok-v.was w.if-v-lt1.true
      | goal.then-v-lt1-via-else-v-lt1+then-v-gt-ELEMENT_COUNT w ↦ size-high _ _ _ _ _ c.constant.ensures _ _ c.in_ok-v.was w.if-v-lt1.false w.if-v-gt-ELEMENT_COUNT.true
    ]

pub returns : goal.returns
returns c = size-fine _ _ _ _ _ c.constant.ensures _ _ c.in_ok-v.was (search rules) (search rules)
