use mathlib.Core.Path.{ap, ◌∙◌}
use Rattle.std.specs.Prelude.{Ok}
use Rattle.std.proofs.lemmas.Result.{err_from_is_err_and}
use Rattle.text_words.proofs.Readings.{step_less}
use Rattle.check_load.proofs.Progress.{progress_start, word-comes, progress-on, filled-end, filled-refused}
use borrow.Author.Rules.{rules}
use Rattle.check_load.proofs.load_words.Goals as goal

pub loop-word-init : goal.loop-word-init
loop-word-init c = search (rules, progress_start)

pub load_word-requires : goal.load_word-requires
load_word-requires c = (c.loop-word.invariant.loading, word-comes _ _ _ _ _ _ c.loop-word.invariant _ c.step.ensures _ _ (c.in_ok-word.was ∙ ap Ok c.in-Some.is))

pub loop-word-smaller : goal.loop-word-smaller
loop-word-smaller c = step_less _ _ _ c.step.ensures _ _ (c.in_ok-word.was ∙ ap Ok c.in-Some.is)

pub loop-word-preserved : goal.loop-word-preserved
loop-word-preserved c = progress-on _ _ _ _ _ _ c.loop-word.invariant _ c.step.ensures _ _ (c.in_ok-word.was ∙ ap Ok c.in-Some.is) _ _ c.load_word.ensures

pub returns-in_default : goal.returns-in_default
returns-in_default c = filled-end _ _ _ _ _ _ c.loop-word.invariant _ c.step.ensures (c.in_ok-word.was ∙ ap Ok c.in_default.is)

pub returns-in_err-word : goal.returns-in_err-word
returns-in_err-word c =
    let p = err_from_is_err_and c.from_residual.result c.from_residual.ensures.1 in
    rw (p.1, p.2) (filled-refused _ _ _ _ _ _ c.loop-word.invariant _ c.step.ensures _ c.in_err-word.was)
