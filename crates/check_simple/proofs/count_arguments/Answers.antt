use borrow.Author.Rules.{rules}
use Rattle.check_simple.proofs.ArgumentCounts.{count_room, count_none, count-starts, goes-here, goes-fits, goes-less, count_fits, comma-counts, goes-done, goes-on}
use Rattle.check_simple.proofs.count_arguments.Goals as goal

pub sort-requires : goal.sort-requires
sort-requires c = search (rules, count_room)

pub returns-then-sort-closing : goal.returns-then-sort-closing
returns-then-sort-closing c = search (rules, count_none)

pub loop-first-init : goal.loop-first-init
loop-first-init c = search (rules, count-starts)

pub sort-s-requires : goal.sort-s-requires
sort-s-requires c = search (rules, goes-here)

pub returns-then-s-eq-SEMICOLON : goal.returns-then-s-eq-SEMICOLON
returns-then-s-eq-SEMICOLON c = search (rules, goes-done)

pub overflow_add-count : goal.overflow_add-count
overflow_add-count c = search (rules, count_fits, comma-counts)

pub overflow_add-i : goal.overflow_add-i
overflow_add-i c = search (rules, goes-fits)

pub loop-first-smaller : goal.loop-first-smaller
loop-first-smaller c = search (rules, goes-less)

pub loop-first-preserved : goal.loop-first-preserved
loop-first-preserved c = search (rules, goes-on, comma-counts)
