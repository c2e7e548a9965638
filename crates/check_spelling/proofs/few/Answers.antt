use native.Mathlib.Omega.{arith}
use Rattle.check_spelling.specs.Hash.{few_of}
use Rattle.check_spelling.proofs.few.Goals as goal

pub returns : goal.returns
unfolding few_of
returns c = (omega arith, omega arith)
