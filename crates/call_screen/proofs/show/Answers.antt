use Rattle.call_screen.proofs.Showing.{show-law}
use borrow.Author.Rules.{rules}
use Rattle.call_screen.proofs.show.Goals as goal

pub returns : goal.returns
returns c = search (rules, show-law)
