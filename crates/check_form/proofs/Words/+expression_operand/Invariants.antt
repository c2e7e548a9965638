use Prim.Native.Nat.{ℕ, ◌+◌, ◌*◌, ◌-◌, ◌≤◌}
use Rattle.check_form.proofs.Flat.{Left}
use Rattle.check_form.proofs.Words.+expression_operand.Given as goal

-- The reading calls itself on the inner expression: the words left and the remaining nesting fall at each call.
abbrev left : (words at nesting : ℕ) → ℕ
left words at nesting = words - at + nesting * 2

abbrev pub decreases-expression : goal.decreases-expression
decreases-expression l = left l.self.now.count l.at l.nesting + 1

abbrev pub decreases-operand : goal.decreases-operand
decreases-operand l = left l.self.now.count l.at l.nesting

abbrev pub invariant-expression-loop-m : goal.invariant-expression-loop-m
invariant-expression-loop-m l = Left l.self.code.now l.self.count l.nesting l.at l.self.lent l.n l.related × (l.self.count - l.n ≤ l.self.count - l.at)

abbrev pub decreases-expression-loop-m : goal.decreases-expression-loop-m
decreases-expression-loop-m l = l.self.count - l.n
