-- The evaluation calls itself on the inner expression: the words left fall at each call, and so does the remaining nesting at a call on what stands in
-- parentheses or braces.
use Prim.Native.Nat.{ℕ, ◌+◌, ◌-◌, ◌*◌}
use Rattle.store_evaluation.proofs.Steps.{Going}
use Rattle.store_evaluation.proofs.+enclosed_part_rest_whole.Given as goal

-- the words left and the remaining nesting; within one word a part goes before its whole, and that before what it consists of
abbrev left : (from to nesting : ℕ) → ℕ
left from to nesting = (to - from) * 3 + nesting

abbrev pub decreases-enclosed : goal.decreases-enclosed
decreases-enclosed l = left l.at l.l l.nesting

abbrev pub decreases-part : goal.decreases-part
decreases-part l = left l.from l.to l.nesting + 2

abbrev pub decreases-rest : goal.decreases-rest
decreases-rest l = left l.start l.to l.nesting

abbrev pub decreases-whole : goal.decreases-whole
decreases-whole l = left l.from l.to l.nesting + 1

abbrev pub invariant-rest-loop-i : goal.invariant-rest-loop-i
invariant-rest-loop-i l = Going l.nesting l.code.now l.values.now l.base l.first l.start l.to l.acc l.i

abbrev pub decreases-rest-loop-i : goal.decreases-rest-loop-i
decreases-rest-loop-i l = l.to - l.i
