use Rattle.paper.specs.Words.{in_name}
use Rattle.text_reserved.proofs.Ranges.{chain}
use Rattle.text_reserved.proofs.Runs.{goes_by}
use borrow.Author.Rules.{rules}
use Rattle.text_reserved.proofs.classes.is_in_name.Goals as goal

pub returns-then-is_letter : goal.returns-then-is_letter
unfolding in_name
returns-then-is_letter c = search (rules, chain)

pub returns : goal.returns
returns c = search (rules, goes_by)
