use native.Mathlib.Omega.{arith}
use Rattle.text_reserved.proofs.Ranges.{range}
use Rattle.text_reserved.proofs.with_letter.Goals as goal

pub overflow_sub-result : goal.overflow_sub-result
overflow_sub-result c = omega (arith, range 65 90 _ c.requires)

pub overflow_add-result : goal.overflow_add-result
overflow_add-result c = omega (arith, range 65 90 _ c.requires)
