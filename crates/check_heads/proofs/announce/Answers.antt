use Rattle.check_heads.proofs.Leaves.{announce-taken, announce-free}
use borrow.Author.Rules.{rules}
use Rattle.check_heads.proofs.announce.Goals as goal

pub returns-then-meaning-ne-UNKNOWN : goal.returns-then-meaning-ne-UNKNOWN
returns-then-meaning-ne-UNKNOWN c = search (rules, announce-taken)

pub returns : goal.returns
returns c = search (rules, announce-free)
