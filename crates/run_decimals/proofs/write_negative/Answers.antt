use mathlib.Core.Path.{◌∙◌}
use Rattle.paper.specs.Numbers.{digits}
use native.Mathlib.Omega.{arith}
use lib.ListN.{length-set, length-take, length-drop}
use Rattle.run_decimals.proofs.Parts.{signed}
use Rattle.run_decimals.proofs.write_negative.Goals as goal

pub slice_bounds-write_digits-count : goal.slice_bounds-write_digits-count
slice_bounds-write_digits-count c = simp length-set (omega arith)

pub write_digits-requires : goal.write_digits-requires
write_digits-requires c = (omega arith, simp (length-take, length-drop, length-set) (omega arith))

pub shape_of-out : goal.shape_of-out
shape_of-out c = c.out-1.given.1 ∙ simp length-set

pub returns : goal.returns
returns c = signed c.args.out.now (digits 20 c.args.n) _ _ (omega arith) c.requires.1 c.write_digits.ensures
