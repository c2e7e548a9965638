-- Whole numbers and their sizes, and what of them 64 bits hold.
use mathlib.Core.Path.{◌≡◌, refl, sym, ap, ◌∙◌}
use Prim.Native.Nat.{ℕ, zero, suc, ◌-◌, ◌*◌, ◌/◌, ◌%◌, ◌<◌, ◌≤◌}
use native.Mathlib.Nat.{le_refl, div-le_self, mul-div-le, mod_def, mul-zero, div-lt_iff_lt-mul}
use native.Mathlib.Omega.{arith}
use lib.Dec.{ltb}
use lib.IntN.{ℤ, pos, negsuc, neg_ℤ, nat_abs, sub_ℕ, ◌+ℤ◌, ◌-ℤ◌, ◌*ℤ◌, neg_ℤ-+ℤ, neg_ℤ-neg_ℤ}
use lib.Signed.{mag, quot_z, rem_z, mag_rem}
use mir.Syntax.{w64}
use mir.Val.{SFits, to_z, of_z}
use mir.Facts.{to_z-of_z}
use borrow.Author.Tests.{ltb-true, ltb-false}
use Rattle.laws.proofs.Tests.{test}

-- the size of the lowest i64
abbrev pub half : ℕ
half = 9223372036854775808

-- ---- what the machine reads back of a local that holds z

abbrev pub read : ℤ → ℤ
read z = to_z w64 (of_z w64 z)

pub bits-same : (a b : ℤ) → SFits w64 a → SFits w64 b → of_z w64 a ≡ of_z w64 b → a ≡ b
bits-same a b ha hb e = sym (to_z-of_z ha) ∙ ap (to_z w64) e ∙ to_z-of_z hb

-- ---- sizes

-- a − b of two naturals, by cases
pub sub_cases : (P : ℤ → Type 0) (a b : ℕ) → (a < b → P (negsuc (b - suc a))) → (b ≤ a → P (pos (a - b))) → P (sub_ℕ a b)
sub_cases P a b f g = test (ltb a b) (λ t. rw t (f (ltb-true a b t))) (λ t. rw t (g (ltb-false a b t)))

pub pos-minus : (a n : ℕ) → n ≤ a → pos a -ℤ pos n ≡ pos (a - n)
pos-minus a zero h = ap pos (omega arith)
pos-minus a (suc n) h = sub_cases (λ z. z ≡ pos (a - suc n)) a (suc n) (λ g. absurd (omega arith)) (λ g. refl)

pub minus-cases : (P : ℤ → Type 0) (a n : ℕ) → (a < n → P (negsuc (n - suc a))) → (n ≤ a → P (pos (a - n))) → P (pos a -ℤ pos n)
minus-cases P a zero f g = rw (pos-minus a 0 (omega arith)) (g (omega arith))
minus-cases P a (suc n) f g = sub_cases P a (suc n) f g

pub mag-abs : (z : ℤ) → mag z ≤ nat_abs z
mag-abs (pos n) = le_refl n
mag-abs (negsuc n) = omega arith

pub abs_neg : (z : ℤ) → nat_abs (neg_ℤ z) ≡ nat_abs z
abs_neg (pos zero) = refl
abs_neg (pos (suc n)) = refl
abs_neg (negsuc n) = refl

pub abs-mul : (a b : ℤ) → nat_abs (a *ℤ b) ≡ nat_abs a * nat_abs b
abs-mul (pos a) (pos b) = refl
abs-mul (pos a) (negsuc b) = abs_neg (pos (a * suc b))
abs-mul (negsuc a) (pos b) = abs_neg (pos (suc a * b))
abs-mul (negsuc a) (negsuc b) = refl

-- -n is an i64 where n is at most 2^63
pub mag-neg : (n k : ℕ) → n ≤ suc k → mag (neg_ℤ (pos n)) ≤ k
mag-neg zero k h = omega arith
mag-neg (suc n) k h = omega arith

-- ---- quotient and remainder

pub quot_fits : (a b : ℤ) → SFits w64 a → (b ≡ negsuc 0 → ⊥) → SFits w64 (quot_z a b)
quot_fits (pos a) (pos b) s h = record { sfits = omega (arith, div-le_self a b, s.sfits) }
quot_fits (pos a) (negsuc b) s h = record { sfits = omega (arith, mag-neg (a / suc b) a (omega (arith, div-le_self a (suc b))), s.sfits) }
quot_fits (negsuc a) (pos b) s h = record { sfits = omega (arith, mag-neg (suc a / b) a (div-le_self (suc a) b), s.sfits) }
quot_fits (negsuc a) (negsuc zero) s h = absurd (h refl)
quot_fits (negsuc a) (negsuc (suc b)) s h = record { sfits = (div-lt_iff_lt-mul {k = suc (suc b)} (omega arith)).1 (omega (arith, s.sfits)) }

pub rem-fits : (a b : ℤ) → SFits w64 a → SFits w64 (rem_z a b)
rem-fits a b s = record { sfits = omega (arith, mag_rem a b, s.sfits) }

neg-plus : (a n : ℕ) → n ≤ a → neg_ℤ (pos a) +ℤ pos n ≡ neg_ℤ (pos (a - n))
neg-plus a n h =
    sym (ap (λ (z : ℤ). neg_ℤ (pos a) +ℤ z) (neg_ℤ-neg_ℤ (pos n)))
    ∙ sym (neg_ℤ-+ℤ (pos a) (neg_ℤ (pos n)))
    ∙ ap neg_ℤ (pos-minus a n h)

negsuc-neg : (b n : ℕ) → negsuc b *ℤ neg_ℤ (pos n) ≡ pos (suc b * n)
negsuc-neg b zero = rw (mul-zero (suc b))
negsuc-neg b (suc n) = refl

pos-neg : (b n : ℕ) → pos b *ℤ neg_ℤ (pos n) ≡ neg_ℤ (pos (b * n))
pos-neg b zero = rw (mul-zero b)
pos-neg b (suc n) = refl

minus-neg : (a n : ℕ) → n ≤ suc a → negsuc a -ℤ neg_ℤ (pos n) ≡ neg_ℤ (pos (suc a - n))
minus-neg a n h = ap (λ (z : ℤ). negsuc a +ℤ z) (neg_ℤ-neg_ℤ (pos n)) ∙ neg-plus (suc a) n h

-- a MOD b = a − b * (a DIV b)
pub rem_is : (a b : ℤ) → a -ℤ (b *ℤ quot_z a b) ≡ rem_z a b
rem_is (pos a) (pos b) = pos-minus a (b * (a / b)) (mul-div-le a b) ∙ ap pos (sym (mod_def a b))
rem_is (pos a) (negsuc b) =
    ap (λ (z : ℤ). pos a -ℤ z) (negsuc-neg b (a / suc b)) ∙ pos-minus a (suc b * (a / suc b)) (mul-div-le a (suc b)) ∙ ap pos (sym (mod_def a (suc b)))
rem_is (negsuc a) (pos b) =
    ap (λ (z : ℤ). negsuc a -ℤ z) (pos-neg b (suc a / b))
    ∙ minus-neg a (b * (suc a / b)) (mul-div-le (suc a) b)
    ∙ ap (λ (n : ℕ). neg_ℤ (pos n)) (sym (mod_def (suc a) b))
rem_is (negsuc a) (negsuc b) =
    minus-neg a (suc b * (suc a / suc b)) (mul-div-le (suc a) (suc b)) ∙ ap (λ (n : ℕ). neg_ℤ (pos n)) (sym (mod_def (suc a) (suc b)))

div-one : (n : ℕ) → n / 1 ≡ n
div-one n = omega arith

mod-one : (n : ℕ) → n % 1 ≡ 0
mod-one n = omega arith

pub quot-by-minus-one : (a : ℤ) → quot_z a (negsuc 0) ≡ neg_ℤ a
quot-by-minus-one (pos a) = ap (λ (n : ℕ). neg_ℤ (pos n)) (div-one a)
quot-by-minus-one (negsuc a) = ap pos (div-one (suc a))

pub rem-by-minus-one : (a : ℤ) → rem_z a (negsuc 0) ≡ pos 0
rem-by-minus-one (pos a) = ap pos (mod-one a)
rem-by-minus-one (negsuc a) = ap (λ (n : ℕ). neg_ℤ (pos n)) (mod-one (suc a))
