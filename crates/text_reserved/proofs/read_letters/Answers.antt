use Rattle.text_reserved.proofs.Packs.{none-there, begins-by, other-there}
use borrow.Author.Rules.{rules}
use Rattle.text_reserved.proofs.read_letters.Goals as goal

pub returns-then-text-eq0 : goal.returns-then-text-eq0
returns-then-text-eq0 c = search (rules, none-there)

pub letters_from-requires : goal.letters_from-requires
letters_from-requires c = search (rules, begins-by)

pub returns : goal.returns
returns c = search (rules, other-there)
