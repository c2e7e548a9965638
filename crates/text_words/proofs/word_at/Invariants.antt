use Prim.Native.Nat.{◌-◌}
use lib.ListN.{length}
use Rattle.text_words.proofs.Asks.{Search}
use Rattle.text_words.proofs.word_at.Given as goal

abbrev pub invariant-loop-word : goal.invariant-loop-word
invariant-loop-word l = Search l.text l.place l.c

abbrev pub decreases-loop-word : goal.decreases-loop-word
decreases-loop-word l = length l.text - l.c.place
