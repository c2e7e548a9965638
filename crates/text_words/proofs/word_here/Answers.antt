use Rattle.text_words.proofs.Cases.{end-here, refuses, word-refused, word_fits, word-full, word_good}
use borrow.Author.Rules.{rules}
use Rattle.text_words.proofs.word_here.Goals as goal

pub returns-then-text-place : goal.returns-then-text-place
returns-then-text-place c = search (rules, end-here)

pub refused_at-requires : goal.refused_at-requires
refused_at-requires c = search (rules, refuses)

pub returns-in_default : goal.returns-in_default
returns-in_default c = search (rules, word-refused)

pub returns-then-full : goal.returns-then-full
returns-then-full c = search (rules, word-full)

pub overflow_add-result : goal.overflow_add-result
overflow_add-result c = record { fits = search (rules, word_fits) }

pub returns : goal.returns
returns c = search (rules, word_good)
