use Rattle.std.proofs.Common.{rules}
use Rattle.call_screen.proofs.Reading.{read-more}
use Rattle.call_screen.proofs.streams.read_full.Goals as goal

pub loop-done-preserved : goal.loop-done-preserved
loop-done-preserved g c = (search rules, search rules, search (rules, read-more))
