use Rattle.text_words.proofs.Asks.{part_none, part-fits, part-inside, part-start, part_bytes, part-flag}
use borrow.Author.Rules.{rules}
use Rattle.text_words.proofs.part_at.Goals as goal

pub returns-in_default : goal.returns-in_default
returns-in_default c = search (rules, part_none)

pub overflow_add-result : goal.overflow_add-result
overflow_add-result c = record { fits = search (rules, part-fits) }

pub slice_bounds-result-end-2 : goal.slice_bounds-result-end-2
slice_bounds-result-end-2 c = search (rules, part-inside)

pub returns : goal.returns
returns c = record { start = search (rules, part-start); bytes = search (rules, part_bytes); flag = search (rules, part-flag) }
