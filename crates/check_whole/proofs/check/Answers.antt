use Rattle.check_whole.proofs.LentStores.{stores_small, counted, parts_whole, checked-parts}
use borrow.Author.Rules.{rules}
use Rattle.check_whole.proofs.check.Goals as goal

pub returns-then-code-lt-STORE_BYTES : goal.returns-then-code-lt-STORE_BYTES
returns-then-code-lt-STORE_BYTES c = stores_small _ _ _ c.then-code-lt-STORE_BYTES.either

pub slice_bounds-check_cells-end-2 : goal.slice_bounds-check_cells-end-2
slice_bounds-check_cells-end-2 c = search (rules, counted)

pub slice_bounds-check_cells-end-4 : goal.slice_bounds-check_cells-end-4
slice_bounds-check_cells-end-4 c = search (rules, counted)

pub check_cells-requires : goal.check_cells-requires
check_cells-requires c = search (rules, parts_whole)

pub returns : goal.returns
returns c = search (rules, checked-parts)
