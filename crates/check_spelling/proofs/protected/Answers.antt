use Rattle.check_spelling.proofs.ProtectedNames.{errno-cell, overflow-cell, divide-cell, bound-cell, raise-cell, other-cell, not-e}
use borrow.Author.Rules.{rules}
use Rattle.check_spelling.proofs.protected.Goals as goal

pub returns-then-to_ascii_uppercase-ne69 : goal.returns-then-to_ascii_uppercase-ne69
returns-then-to_ascii_uppercase-ne69 c = search (rules, not-e)

pub returns-then-same : goal.returns-then-same
returns-then-same c = search (rules, errno-cell)

pub returns-then-same-2 : goal.returns-then-same-2
returns-then-same-2 c = search (rules, overflow-cell)

pub returns-then-same-3 : goal.returns-then-same-3
returns-then-same-3 c = search (rules, divide-cell)

pub returns-then-same-4 : goal.returns-then-same-4
returns-then-same-4 c = search (rules, bound-cell)

pub returns-then-same-5 : goal.returns-then-same-5
returns-then-same-5 c = search (rules, raise-cell)

pub returns : goal.returns
returns c = search (rules, other-cell)
