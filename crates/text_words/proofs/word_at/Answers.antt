use Rattle.text_words.proofs.Asks.{search-start, search-ends, search-refused, search-found, search-past, search-on}
use Rattle.text_words.proofs.Readings.{step_less}
use mathlib.Core.Path.{ap, ◌∙◌}
use Rattle.std.specs.Prelude.{Ok}
use borrow.Author.Rules.{rules}
use Rattle.text_words.proofs.word_at.Goals as goal

pub loop-word-init : goal.loop-word-init
loop-word-init c = search (rules, search-start)

pub returns-in_default : goal.returns-in_default
returns-in_default c = search (rules, search-ends)

pub returns-in_default-2 : goal.returns-in_default-2
returns-in_default-2 c = search (rules, search-refused)

pub returns-then-word-place : goal.returns-then-word-place
returns-then-word-place c = search (rules, search-found)

pub returns-then-place-word : goal.returns-then-place-word
returns-then-place-word c = search (rules, search-past)

pub loop-word-smaller : goal.loop-word-smaller
loop-word-smaller c = step_less _ _ _ c.step.ensures _ _ (c.in-Ok-Some.is ∙ ap Ok c.in-Ok-Some.field-0-is)

pub loop-word-preserved : goal.loop-word-preserved
loop-word-preserved c = search (rules, search-on)
