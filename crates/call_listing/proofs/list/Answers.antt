use Rattle.text_words.proofs.Readings.{step_less}
use Rattle.call_listing.proofs.Lists.{lists-start, lists-word, lists-end, lists-refused}
use mathlib.Core.Path.{ap, ◌∙◌}
use Rattle.std.specs.Prelude.{Ok}
use borrow.Author.Rules.{rules}
use Rattle.call_listing.proofs.list.Goals as goal

pub loop-word-init : goal.loop-word-init
loop-word-init c = search (rules, lists-start)

pub loop-word-smaller : goal.loop-word-smaller
loop-word-smaller c = step_less _ _ _ c.read.ensures _ _ (c.in-Ok-Some.is ∙ ap Ok c.in-Ok-Some.field-0-is)

pub loop-word-preserved : goal.loop-word-preserved
loop-word-preserved c = search (rules, lists-word)

pub returns-in-Ok-None : goal.returns-in-Ok-None
returns-in-Ok-None c = search (rules, lists-end)

pub returns-in-Err : goal.returns-in-Err
returns-in-Err c = search (rules, lists-refused)
