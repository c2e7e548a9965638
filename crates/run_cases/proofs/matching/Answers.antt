use borrow.Author.Rules.{rules}
use Rattle.run_cases.proofs.TestValues.{key_fits, search-begins, search-in, search-ends, search-finds, search-on, search-less}
use Rattle.run_cases.proofs.matching.Goals as goal

pub overflow_add-key : goal.overflow_add-key
overflow_add-key c = search (rules, key_fits)

pub loop-first-init : goal.loop-first-init
loop-first-init c = search (rules, search-begins)

pub head-w-requires : goal.head-w-requires
head-w-requires c = search (rules, search-in)

pub place-requires : goal.place-requires
place-requires c = search (rules, search-in)

pub returns-then-w-eq-OTHERWISE : goal.returns-then-w-eq-OTHERWISE
returns-then-w-eq-OTHERWISE c = search (rules, search-ends)

pub place-requires-then-w-key : goal.place-requires-then-w-key
place-requires-then-w-key c = search (rules, search-in)

pub returns-then-w-key : goal.returns-then-w-key
returns-then-w-key c = search (rules, search-finds)

pub link-j-requires : goal.link-j-requires
link-j-requires c = search (rules, search-in)

pub loop-first-smaller : goal.loop-first-smaller
loop-first-smaller c = search (rules, search-less)

pub loop-first-preserved : goal.loop-first-preserved
loop-first-preserved c = search (rules, search-on)
