use Rattle.run_output.proofs.Lines.{no-characters}
use Rattle.run_output.proofs.characters.Goals as goal

pub returns-then-code-i : goal.returns-then-code-i
returns-then-code-i c = no-characters _ _ c.requires c.if-code-i.true
