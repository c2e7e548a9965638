use borrow.Author.Rules.{rules}
use Rattle.call_class.proofs.Refusing.{small-code, small-values, wrong-depth, not-adding, too-many, short-records, short-data, not-refused}
use Rattle.call_class.proofs.admit.Goals as goal
use Rattle.call_class.proofs.admit.Goals.{then-code-lt-STORE_BYTES-via-then-code-lt-STORE_BYTES, then-code-lt-STORE_BYTES-via-else-code-lt-STORE_BYTES+then-values-lt-STORE_BYTES}
use Rattle.call_class.proofs.admit.Goals.{then-records-n-via-then-records-n, then-records-n-via-else-records-n+then-kept-n}

pub returns-then-code-lt-STORE_BYTES : goal.returns-then-code-lt-STORE_BYTES
returns-then-code-lt-STORE_BYTES c =
    elim c.then-code-lt-STORE_BYTES.branch [
      | then-code-lt-STORE_BYTES-via-then-code-lt-STORE_BYTES w ↦ search (rules, small-code)
      | then-code-lt-STORE_BYTES-via-else-code-lt-STORE_BYTES+then-values-lt-STORE_BYTES w ↦ search (rules, small-values)
    ]

pub returns-then-bad_depth : goal.returns-then-bad_depth
returns-then-bad_depth c = search (rules, wrong-depth)

pub returns-then-not-adds_up : goal.returns-then-not-adds_up
returns-then-not-adds_up c = search (rules, not-adding)

pub returns-then-n-gt-MODULES : goal.returns-then-n-gt-MODULES
returns-then-n-gt-MODULES c = search (rules, too-many)

pub returns-then-records-n : goal.returns-then-records-n
returns-then-records-n c =
    elim c.then-records-n.branch [
      | then-records-n-via-then-records-n w ↦ search (rules, short-records)
      | then-records-n-via-else-records-n+then-kept-n w ↦ search (rules, short-data)
    ]

pub returns : goal.returns
returns c = search (rules, not-refused)
