-- A number of num, as an i64 has it and as a head holds it.
use mathlib.Core.Path.{sym, subst}
use Prim.Native.Nat.{ℕ}
use native.Mathlib.Omega.{arith}
use lib.IntN.{ℤ, pos, negsuc}
use borrow.Author.Tests.{ltb-false}
use mir.Syntax.{w64}
use mir.Val.{to_z, of_z, SFits}
use mir.Facts.{to_z-of_z}
use Rattle.paper.specs.Numbers.{num}
use Rattle.check_constants.specs.Answers.{InNum, HeldAs}

in-num-fits : (z : ℤ) → InNum z → SFits w64 z
unfolding num
in-num-fits (pos n) h = record { sfits = omega (arith, ltb-false 8388608 n h.high) }
in-num-fits (negsuc n) h = record { sfits = omega (arith, ltb-false 8388606 n h.low) }

pub read-in-num : (v : ℤ) → InNum v → InNum (to_z w64 (of_z w64 v))
read-in-num v h = subst InNum (sym (to_z-of_z (in-num-fits v h))) h

pub held-as : (v : ℤ) (r : ℕ) → InNum v → HeldAs (to_z w64 (of_z w64 v)) r → HeldAs v r
held-as v r h x = subst (λ (z : ℤ). HeldAs z r) (to_z-of_z (in-num-fits v h)) x
