use mathlib.Core.Path.{refl}
use Rattle.paper.specs.Numbers.{num}
use Rattle.store_numbers.proofs.num_range.Goals as goal

pub returns : goal.returns
unfolding num
returns c = refl
