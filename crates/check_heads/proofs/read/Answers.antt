use Rattle.check_heads.proofs.WholePass.{read-data, routines-asked, read_done}
use borrow.Author.Rules.{rules}
use Rattle.check_heads.proofs.read.Goals as goal

pub data_names-at-requires : goal.data_names-at-requires
data_names-at-requires c = search (rules, read-data)

pub routines-requires : goal.routines-requires
routines-requires c =
    routines-asked _ _ _ c.requires _ _ c.data_names-at.ensures

pub returns : goal.returns
returns c =
    read_done _ _ _ c.requires _ _ c.data_names-at.ensures _ _ _ c.routines.ensures
