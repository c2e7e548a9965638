use Rattle.call_screen.proofs.Lines.{Lined}
use Rattle.call_screen.proofs.put_record.Given as goal

abbrev pub invariant-loop-k : goal.invariant-loop-k
invariant-loop-k l = Lined l.initial.line l.line l.fields l.k l.at
