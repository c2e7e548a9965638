use Rattle.run_output.proofs.Lines.{string-none, string-there, string-in, string-spelled, string-done}
use borrow.Author.Rules.{rules}
use Rattle.run_output.proofs.string.Goals as goal

pub returns-then-n-eq0 : goal.returns-then-n-eq0
returns-then-n-eq0 c = search (rules, string-none)

pub place-p-requires : goal.place-p-requires
place-p-requires c = search (rules, string-there)

pub value-bytes-requires : goal.value-bytes-requires
value-bytes-requires c = search (rules, string-there)

pub slice_bounds-copy-start : goal.slice_bounds-copy-start
slice_bounds-copy-start c = search (rules, string-in)

pub slice_bounds-copy-count : goal.slice_bounds-copy-count
slice_bounds-copy-count c = search (rules, string-in)

pub copy-requires : goal.copy-requires
copy-requires c = search (rules, string-spelled)

pub returns : goal.returns
returns c = search (rules, string-done)
