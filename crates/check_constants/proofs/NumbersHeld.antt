-- A number of num, in a word, in an i64 and as a head has it.
use mathlib.Core.Path.{◌≡◌, refl, sym, ap, subst, ◌∙◌}
use Prim.Native.Nat.{ℕ, suc, ◌+◌, ◌-◌, ◌<◌}
use native.Mathlib.Omega.{arith}
use lib.Dec.{T}
use lib.IntN.{ℤ, pos, negsuc, nat_abs, ◌+ℤ◌, ◌-ℤ◌, pos-+ℤ-pos, +ℤ-neg_ℤ_cancel}
use lib.Signed.{non_neg}
use mir.Syntax.{w32, w64}
use mir.Val.{Fits, SFits}
use mir.Facts.{to_z-of_z}
use borrow.Author.Tests.{ltb-false}
use Rattle.paper.specs.Numbers.{num}
use Rattle.code.specs.Spans.{bias}
use Rattle.store_numbers.proofs.Whole.{read, sub_cases}
use Rattle.store_numbers.proofs.Complement.{widened}
use Rattle.check_constants.specs.Answers.{InNum, HeldAs}

pub in-num-32 : (z : ℤ) → InNum z → SFits w32 z
unfolding num
in-num-32 (pos n) h = record { sfits = omega (arith, ltb-false 8388608 n h.high) }
in-num-32 (negsuc n) h = record { sfits = omega (arith, ltb-false 8388606 n h.low) }

pub in-num-64 : (z : ℤ) → InNum z → SFits w64 z
in-num-64 z h = widened z (in-num-32 z h)

record Sum (z : ℤ) : Type 0 where
  k : ℕ
  is : z +ℤ pos bias ≡ pos k
  small : k < 16777216

sum_of : (z : ℤ) → InNum z → Sum z
unfolding num
sum_of (pos n) h = record { k = n + 8388607; is = pos-+ℤ-pos n 8388607; small = omega (arith, ltb-false 8388608 n h.high) }
sum_of (negsuc n) h =
    let g = ltb-false 8388606 n h.low in
    record { k = 8388607 - suc n; is = sub_cases (λ z. z ≡ pos (8388607 - suc n)) 8388607 (suc n) (λ l. absurd (omega arith)) (λ l. refl); small = omega arith }

module _ (z : ℤ) (h : InNum z) where
  sum-read : read z +ℤ pos 8388607 ≡ pos (sum_of z h).k
  sum-read = ap (λ (y : ℤ). y +ℤ pos 8388607) (to_z-of_z (in-num-64 z h)) ∙ (sum_of z h).is

  pos-fits : (k : ℕ) → k < 16777216 → SFits w64 (pos k)
  pos-fits k l = record { sfits = omega arith }

  pub held_fits : SFits w64 (read z +ℤ pos 8388607)
  held_fits = subst (SFits w64) (sym sum-read) (pos-fits (sum_of z h).k (sum_of z h).small)

  twice-read : read (read z +ℤ pos 8388607) ≡ pos (sum_of z h).k
  twice-read = to_z-of_z held_fits ∙ sum-read

  pub held-cast : T (non_neg (read (read z +ℤ pos 8388607))) × Fits w32 (nat_abs (read (read z +ℤ pos 8388607)))
  held-cast = subst (λ (y : ℤ). T (non_neg y) × Fits w32 (nat_abs y)) (sym twice-read) (tt, record { fits = omega (arith, (sum_of z h).small) })

  pub held-is : HeldAs z (nat_abs (read (read z +ℤ pos 8388607)))
  held-is = subst (λ (y : ℤ). HeldAs z (nat_abs y)) (sym twice-read)
      (record { small = (sum_of z h).small; is = ap (λ (y : ℤ). y -ℤ pos bias) (sym (sum_of z h).is) ∙ +ℤ-neg_ℤ_cancel z (pos bias) })
