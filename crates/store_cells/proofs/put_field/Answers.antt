use borrow.Author.Rules.{rules}
use Rattle.store_cells.proofs.Paper.{field-law}
use Rattle.store_cells.proofs.put_field.Goals as goal

pub returns : goal.returns
returns c = search (rules, field-law)
