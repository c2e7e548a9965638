-- What a caller knows of a number that an operation gave: it is the exact result, it is in the range, and a num fits a word.
use mathlib.Core.Path.{◌≡◌, ◌∙◌}
use mathlib.Core.Bool.{false}
use Prim.Native.Nat.{◌≤◌}
use native.Mathlib.Omega.{arith}
use lib.IntN.{ℤ, pos, negsuc, nat_abs}
use lib.Signed.{lt_z}
use mir.Syntax.{w32}
use mir.Val.{SFits}
use borrow.Author.Tests.{ltb-false}
use Rattle.std.specs.Prelude.{Ok}
use Rattle.laws.proofs.Tests.{test, apart}
use Rattle.paper.specs.Numbers as paper
use Rattle.paper.specs.Numbers.{overflow, ranged, num}
use Rattle.store_numbers.specs.Answers.{value_of}

pub record Within (R : paper.Range) (exact z : ℤ) : Type 0 where
  pub same : z ≡ exact
  pub low : lt_z z R.low ≡ false
  pub high : lt_z R.high z ≡ false

pub within : (R : paper.Range) (exact z : ℤ) → value_of (Ok z) ≡ ranged R exact → Within R exact z
unfolding value_of ranged
within R exact z e =
    test (lt_z exact R.low) (λ l. no (e ∙ rw (l, ranged)))
    (λ l. test (lt_z R.high exact) (λ h. no (e ∙ rw (l, ranged) (rw h)))
    (λ h. let q : paper.value z ≡ paper.value exact = e ∙ rw (l, ranged) (rw h) in
    let s : z ≡ exact = cc in
    record { same = s; low = rw s l; high = rw s h }))
  where
    no : paper.value z ≡ paper.error overflow → Within R exact z
    no d = apart (cc)

pub num-size : (exact z : ℤ) → Within num exact z → nat_abs z ≤ 8388608
unfolding num
num-size exact z w = go z w.low w.high
  where
    go : (z : ℤ) → lt_z z (negsuc 8388606) ≡ false → lt_z (pos 8388608) z ≡ false → nat_abs z ≤ 8388608
    go (pos n) l h = ltb-false 8388608 n h
    go (negsuc n) l h = omega (arith, ltb-false 8388606 n l)

pub num-fits : (exact z : ℤ) → Within num exact z → SFits w32 z
num-fits exact z w = go z (num-size exact z w)
  where
    go : (z : ℤ) → nat_abs z ≤ 8388608 → SFits w32 z
    go (pos n) h = record { sfits = omega arith }
    go (negsuc n) h = record { sfits = omega arith }
