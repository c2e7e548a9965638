use Rattle.call_asking.proofs.Tells.{tells_none, tells-some}
use borrow.Author.Rules.{rules}
use Rattle.call_asking.proofs.rapid_ask.Goals as goal

pub returns-then-found : goal.returns-then-found
returns-then-found c = search (rules, tells-some)

pub returns-else-found : goal.returns-else-found
returns-else-found c = search (rules, tells_none)
