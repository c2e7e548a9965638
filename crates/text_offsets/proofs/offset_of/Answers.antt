use Rattle.text_words.proofs.Readings.{step_less}
use Rattle.text_offsets.proofs.WordCount.{counts_start, counts-end, counts-refused, counts-here, counts-on}
use mathlib.Core.Path.{ap, ◌∙◌}
use Rattle.std.specs.Prelude.{Ok}
use borrow.Author.Rules.{rules}
use Rattle.text_offsets.proofs.offset_of.Goals as goal

pub loop-word-init : goal.loop-word-init
loop-word-init c = search (rules, counts_start)

pub returns-in_default : goal.returns-in_default
returns-in_default c = search (rules, counts-end)

pub returns-in_default-2 : goal.returns-in_default-2
returns-in_default-2 c = search (rules, counts-refused)

pub returns-then-before-eq0 : goal.returns-then-before-eq0
returns-then-before-eq0 c = search (rules, counts-here)

pub loop-word-smaller : goal.loop-word-smaller
loop-word-smaller c = step_less _ _ _ c.step.ensures _ _ (c.in-Ok-Some.is ∙ ap Ok c.in-Ok-Some.field-0-is)

pub loop-word-preserved : goal.loop-word-preserved
loop-word-preserved c = search (rules, counts-on)
