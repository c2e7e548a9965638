use Rattle.text_words.proofs.Cases.{no-refusal, refused-first, refused-later, refused-after, refused-reach}
use borrow.Author.Rules.{rules}
use Rattle.text_words.proofs.refused_at.Goals as goal

pub returns-in_default : goal.returns-in_default
returns-in_default c = search (rules, no-refusal)

pub returns-then-flaw-eq0 : goal.returns-then-flaw-eq0
returns-then-flaw-eq0 c = search (rules, refused-first)

pub returns-then-full : goal.returns-then-full
returns-then-full c = search (rules, refused-later)

pub overflow_add-result : goal.overflow_add-result
overflow_add-result c = record { fits = search (rules, refused-reach) }

pub returns : goal.returns
returns c = search (rules, refused-after)
