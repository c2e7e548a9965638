use Rattle.check_heads.proofs.Leaves.{marks}
use Rattle.check_heads.proofs.parameter.Goals as goal

pub returns : goal.returns
returns c =
    marks _ _ _ _ _ _ _ _ _ _ _ _ c.number-n.ensures c.get-m.ensures c.get-seen.ensures c.is_refused.ensures c.from.ensures c.set_value.ensures c.put.ensures
