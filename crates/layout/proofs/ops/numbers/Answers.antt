use mathlib.Core.Path.{refl}
use Rattle.code.specs.Spans.{operator_of, operators}
use Rattle.layout.proofs.ops.numbers.Goals as goal

pub returns : goal.returns
unfolding operator_of operators
returns c = refl
