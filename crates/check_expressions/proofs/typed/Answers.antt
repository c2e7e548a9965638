use Rattle.check_expressions.proofs.OperatorChain.{typed-by-number}
use Rattle.check_expressions.proofs.typed.Goals as goal

pub returns : goal.returns
returns c = typed-by-number _ _ _ _ _ _ _ _ c.number.ensures c.of_type.ensures
