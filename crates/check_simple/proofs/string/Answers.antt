use borrow.Author.Rules.{rules}
use Rattle.check_simple.proofs.Strings.{string-spelled}
use Rattle.check_simple.proofs.string.Goals as goal

pub returns : goal.returns
returns c = search (rules, string-spelled)
