use Prim.Native.Nat.{◌-◌}
use lib.ListN.{length}
use Rattle.check_load.proofs.Progress.{Progress}
use Rattle.check_load.proofs.load_words.Given as goal

abbrev pub invariant-loop-word : goal.invariant-loop-word
invariant-loop-word l = Progress l.text l.initial.code l.initial.values l.code l.values l.c

abbrev pub decreases-loop-word : goal.decreases-loop-word
decreases-loop-word l = length l.text - l.c.place
