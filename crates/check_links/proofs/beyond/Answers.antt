use borrow.Author.Rules.{rules}
use Rattle.check_links.proofs.Ops.{goes_step, goes_case, goes_close}
use Rattle.check_links.proofs.beyond.Goals as goal

pub returns-then-here-lt-ELSE_IF : goal.returns-then-here-lt-ELSE_IF
returns-then-here-lt-ELSE_IF c = search (rules, goes_step)

pub returns-then-here-eq-CASE : goal.returns-then-here-eq-CASE
returns-then-here-eq-CASE c = search (rules, goes_case)

pub returns : goal.returns
returns c = search (rules, goes_close)
