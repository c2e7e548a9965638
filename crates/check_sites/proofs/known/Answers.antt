use borrow.Author.Rules.{rules}
use Rattle.check_sites.proofs.Words.{bit-small, makes}
use Rattle.check_sites.proofs.known.Goals as goal

pub cell_with-m-requires : goal.cell_with-m-requires
cell_with-m-requires c = (search rules, search (rules, bit-small), search rules, search rules)

pub returns : goal.returns
returns c = search (rules, makes)
