use Rattle.run_advancing.proofs.RunStops.{no_place}
use Rattle.run_advancing.proofs.place_of.Goals as goal

pub returns-then-code-i : goal.returns-then-code-i
returns-then-code-i c = no_place _ _ c.requires c.if-code-i.true
