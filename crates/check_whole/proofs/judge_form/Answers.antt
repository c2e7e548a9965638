use Rattle.check_whole.proofs.Passes.{words-lent, form-right, form-refused}
use Rattle.check_whole.proofs.judge_form.Goals as goal

pub form-requires : goal.form-requires
form-requires c = words-lent _ _ _ _ c.requires

pub judge_names-requires : goal.judge_names-requires
judge_names-requires c = form-right _ _ _ _ c.requires _ c.form.ensures _ c.in-Ok.is

pub returns-in-Err : goal.returns-in-Err
returns-in-Err c = form-refused _ _ _ _ c.requires _ c.form.ensures _ _ c.in-Err.is c.refusal_of.ensures
