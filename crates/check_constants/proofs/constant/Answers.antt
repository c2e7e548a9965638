use borrow.Author.Rules.{rules}
use Rattle.std.proofs.lemmas.Result.{err_from_is_err_and}
use Rattle.check_constants.proofs.ConstantsWorth.{stores, answers-faulty, evaluable, answers-value, answers-error}
use Rattle.check_constants.proofs.constant.Goals as goal

pub returns-in_err-next : goal.returns-in_err-next
returns-in_err-next c =
    let p = err_from_is_err_and c.from_residual.result c.from_residual.ensures.1 in rw (p.1, p.2) (answers-faulty _ _ _ _ _ _ c.typed.ensures _ c.in_err-next.was)

pub worth-v-requires : goal.worth-v-requires
worth-v-requires c = (search (rules, stores), evaluable _ _ _ _ _ _ c.typed.ensures _ _ c.in_ok-next.was c.requires)

pub returns-then-v-lt-FIRST_ERROR : goal.returns-then-v-lt-FIRST_ERROR
returns-then-v-lt-FIRST_ERROR c = answers-value _ _ _ _ _ _ c.typed.ensures _ _ c.in_ok-next.was _ c.worth-v.ensures (search rules) c.if-v-lt-FIRST_ERROR.true

pub returns-else-v-lt-FIRST_ERROR : goal.returns-else-v-lt-FIRST_ERROR
returns-else-v-lt-FIRST_ERROR c = answers-error _ _ _ _ _ _ c.typed.ensures _ _ c.in_ok-next.was _ c.worth-v.ensures (search rules) c.if-v-lt-FIRST_ERROR.false
