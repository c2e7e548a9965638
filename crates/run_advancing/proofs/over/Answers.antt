use Rattle.run_advancing.proofs.RunStops.{stops-whole, stopped-main, stopped-step, stopped-lack}
use borrow.Author.Rules.{rules}
use Rattle.run_advancing.proofs.over.Goals as goal

pub place_of-requires : goal.place_of-requires
place_of-requires c = search (rules, stops-whole)

pub returns-then-answer-ge-LACKS : goal.returns-then-answer-ge-LACKS
returns-then-answer-ge-LACKS c = search (rules, stopped-lack)

pub returns-then-answer : goal.returns-then-answer
returns-then-answer c = search (rules, stopped-main)

pub place_of-requires-2 : goal.place_of-requires-2
place_of-requires-2 c = search (rules, stops-whole)

pub returns : goal.returns
returns c = search (rules, stopped-step)
