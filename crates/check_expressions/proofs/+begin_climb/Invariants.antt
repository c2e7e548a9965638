use Prim.Native.Nat.{ℕ, ◌+◌, ◌-◌, ◌*◌}
use Rattle.std.specs.Prelude.{Ok}
use Rattle.paper.specs.Words.{word_limit}
use Rattle.check_expressions.proofs.OperatorChain.{Runs}
use Rattle.check_expressions.proofs.+begin_climb.Given as goal

-- the words left and the remaining nesting; within one word an expression goes before its first part
abbrev left : (at nesting : ℕ) → ℕ
left at nesting = (word_limit - at) * 2 + nesting

abbrev pub decreases-begin : goal.decreases-begin
decreases-begin l = left l.at l.nesting

abbrev pub decreases-climb : goal.decreases-climb
decreases-climb l = left l.at l.nesting + 1

abbrev pub invariant-climb-loop-t : goal.invariant-climb-loop-t
invariant-climb-loop-t l = Runs l.nesting l.values l.initial.code l.code l.only l.level l.at (Ok (l.initial.t, l.initial.i)) (Ok (l.t, l.i))

abbrev pub decreases-climb-loop-t : goal.decreases-climb-loop-t
decreases-climb-loop-t l = word_limit - l.i
