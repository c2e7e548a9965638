use native.Mathlib.Omega.{arith}
use Rattle.check_spelling.specs.Hash.{four_of}
use Rattle.check_spelling.proofs.four.Goals as goal

pub returns : goal.returns
unfolding four_of
returns c = (omega arith, omega arith)
