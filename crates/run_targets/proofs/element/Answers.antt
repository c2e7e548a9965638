use borrow.Author.Rules.{rules}
use Rattle.run_targets.proofs.Elements.{index_at, size_fits, index-low, index-high, index-signed, index-fits, index-some, cell-fits, cell-signed, index-done, index-error}
use Rattle.run_targets.proofs.element.Goals as goal

pub overflow_add-i : goal.overflow_add-i
overflow_add-i c = search (rules, index_at)

pub returns-then-x-lt1 : goal.returns-then-x-lt1
returns-then-x-lt1 c = search (rules, index-low)

pub overflow_cast-size : goal.overflow_cast-size
overflow_cast-size c = search (rules, size_fits)

pub returns-then-size-x : goal.returns-then-size-x
returns-then-size-x c = search (rules, index-high)

pub overflow_cast-result : goal.overflow_cast-result
overflow_cast-result c = search (rules, index-signed, index-fits)

pub overflow_sub-result : goal.overflow_sub-result
overflow_sub-result c = search (rules, index-some)

pub overflow_add-result : goal.overflow_add-result
overflow_add-result c = search (rules, cell-fits)

pub overflow_cast-result-then-x-lt-FIRST_ERROR : goal.overflow_cast-result-then-x-lt-FIRST_ERROR
overflow_cast-result-then-x-lt-FIRST_ERROR c = search (rules, cell-signed)

pub returns-then-x-lt-FIRST_ERROR : goal.returns-then-x-lt-FIRST_ERROR
returns-then-x-lt-FIRST_ERROR c = search (rules, index-done)

pub returns : goal.returns
returns c = search (rules, index-error)
