use Rattle.call_lesson.proofs.Benching.{bench-law}
use native.Mathlib.Omega.{arith}
use lib.ListN.{length-replicate}
use borrow.Author.Rules.{rules}
use Rattle.call_lesson.proofs.bench.Goals as goal

pub returns : goal.returns
returns c = bench-law _ _ _ _ _ _ _ _ _ _ (search rules) (search rules) (simp length-replicate (omega arith)) c.show.ensures
