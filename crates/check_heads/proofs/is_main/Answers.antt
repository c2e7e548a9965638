use borrow.Author.Rules.{rules}
use Rattle.check_heads.proofs.Leaves.{is-main-law}
use Rattle.check_heads.proofs.is_main.Goals as goal

pub returns : goal.returns
returns c = search (rules, is-main-law)
