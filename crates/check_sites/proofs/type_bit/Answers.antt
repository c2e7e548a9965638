use Rattle.check_sites.proofs.Words.{type-num, type-bool}
use Rattle.check_sites.proofs.type_bit.Goals as goal

pub returns-in-Num : goal.returns-in-Num
returns-in-Num c = type-num _ c.in-Num.ensures

pub returns-in-Bool : goal.returns-in-Bool
returns-in-Bool c = type-bool _ c.in-Bool.ensures
