use borrow.Author.Rules.{rules}
use Rattle.run_calls.proofs.CallEntered.{step_fits, after-fits, result_fits, word-inside, enter-starts, enter-done}
use Rattle.run_calls.proofs.enter.Goals as goal

pub overflow_cast-i : goal.overflow_cast-i
overflow_cast-i c = search (rules, step_fits)

pub overflow_cast-after : goal.overflow_cast-after
overflow_cast-after c = search (rules, after-fits)

pub link-requires : goal.link-requires
link-requires c = search (rules, word-inside)

pub start_words-requires : goal.start_words-requires
start_words-requires c =
    enter-starts _ _ _ _ _ _ _ _ c.requires _ _ c.put.ensures c.put-2.ensures _ c.value-h.ensures _
    c.link.ensures

pub overflow_cast-res : goal.overflow_cast-res
overflow_cast-res c = search (rules, result_fits)

pub place-requires : goal.place-requires
place-requires c = search (rules, word-inside)

pub returns : goal.returns
returns c =
    enter-done _ _ _ _ _ _ _ _ c.requires _ _ c.put.ensures c.put-2.ensures _ c.value-h.ensures _
    c.link.ensures _ _ _ _ c.start_words.ensures c.put-3.ensures c.put-4.ensures
    c.put-5.ensures _ c.place.ensures
