use native.Mathlib.Omega.{arith}
use Rattle.check_expressions.proofs.Leaves.{told-is, literal-number, literal-true, literal-false}
use Rattle.check_expressions.proofs.literal.Goals as goal

pub returns : goal.returns
returns c =
    elim c.match-w-rem256.branch [
      | goal.in-2 w ↦ told-is _ _ _ _ _ w.t-is c.set_head.ensures (literal-number _ _ _ _ c.head-w.ensures w.in-2.is)
      | goal.in-81 w ↦ told-is _ _ _ _ _ w.t-is c.set_head.ensures (literal-true _ _ _ _ c.head-w.ensures w.in-81.is)
      | goal.in_default w ↦ told-is _ _ _ _ _ w.t-is c.set_head.ensures (literal-false _ _ _ _ c.head-w.ensures (λ z. grind arith) (λ z. grind arith))
    ]
