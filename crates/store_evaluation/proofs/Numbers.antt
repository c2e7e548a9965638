-- Numbers of 64 bits that hold a value of 32, and answers: from what the code tests to what the paper says.
use mathlib.Core.Path.{◌≡◌, refl, sym, ap, subst, ◌∙◌}
use mathlib.Core.Bool.{Bool, true, false, not}
use Prim.Native.Nat.{ℕ, zero, suc, ◌+◌, ◌-◌, ◌/◌, ◌<◌}
use native.Mathlib.Omega.{arith}
use native.Mathlib.Nat.{div-le_self, pos_of_ne-zero, div-lt_iff_lt-mul}
use lib.Dec.{T, eqb, ltb}
use lib.IntN.{ℤ, pos, negsuc, neg_ℤ, nat_abs, ◌-ℤ◌, +ℤ_idl}
use lib.Signed.{lt_z, le_z, quot_z, rem_z, mag_rem}
use mir.Syntax.{w32, w64}
use mir.Val.{SFits, to_z, of_z, bool_byte}
use mir.Facts.{to_z-of_z}
use borrow.Author.Tests.{eq-eqb, ne_eqb, lt-ltb, le-ltb, ltb-true, ltb-false, le-leb, lt-leb}
use Rattle.laws.proofs.Tests.{test, by-same}
use Rattle.paper.specs.Numbers as paper
use Rattle.paper.specs.Numbers.{Value, value, error, is_zero, same, num, overflow}
use Rattle.paper.specs.Terms.{truth}
use Rattle.store_numbers.proofs.Whole.{read, bits-same, mag-neg, quot-by-minus-one, rem-by-minus-one}
use Rattle.store_numbers.proofs.Complement.{widened}
use Rattle.store_evaluation.specs.Answers.{first_error, decoded, Small, Gives}
use Rattle.store_evaluation.specs.Parts.{outside, Divided}

-- ---- numbers of the code
-- num's ends, and a number past them
abbrev lowest : ℤ
lowest = negsuc 8388606

abbrev highest : ℤ
highest = pos 8388608

abbrev beyond : ℤ
beyond = pos 8388609

-- 2^64, and the bits of -1
abbrev full : ℕ
full = 18446744073709551616

abbrev ones : ℕ
ones = 18446744073709551615

-- ---- tests
pub zero_bits : (a : ℤ) → SFits w64 a → eqb (of_z w64 a) 0 ≡ is_zero a
unfolding is_zero
zero_bits (pos n) s = refl
zero_bits (negsuc n) s = ne_eqb (full - suc n) 0 (λ e. omega (arith, s.sfits))

pub same_bits : (a b : ℤ) → SFits w64 a → SFits w64 b → eqb (of_z w64 a) (of_z w64 b) ≡ same a b
unfolding same
same_bits (pos a) (pos b) s t = refl
same_bits (pos a) (negsuc b) s t = ne_eqb a (full - suc b) (λ e. omega (arith, s.sfits, t.sfits))
same_bits (negsuc a) (pos b) s t = ne_eqb (full - suc a) b (λ e. omega (arith, s.sfits, t.sfits))
same_bits (negsuc a) (negsuc b) s t =
    by-same a b
    (λ e. eq-eqb (full - suc a) (full - suc b) (ap (λ (k : ℕ). full - suc k) e) ∙ sym (eq-eqb a b e))
    (λ e. ne_eqb (full - suc a) (full - suc b) (λ q. e (omega (arith, s.sfits, t.sfits))) ∙ sym (ne_eqb a b e))

pub not-less : (a b : ℤ) → not (lt_z b a) ≡ le_z a b
not-less (pos a) (pos b) = test (ltb b a) (λ t. ap not t ∙ sym (lt-leb a b (ltb-true b a t))) (λ t. ap not t ∙ sym (le-leb a b (ltb-false b a t)))
not-less (pos a) (negsuc b) = refl
not-less (negsuc a) (pos b) = refl
not-less (negsuc a) (negsuc b) = test (ltb a b) (λ t. ap not t ∙ sym (lt-leb b a (ltb-true a b t))) (λ t. ap not t ∙ sym (le-leb b a (ltb-false a b t)))

pub truth_byte : (b : Bool) → to_z w64 (bool_byte b) ≡ truth b
unfolding truth
truth_byte true = refl
truth_byte false = refl

-- ---- num
module _ (z : ℤ) (s : SFits w64 z) where
  pub outside_low : lt_z (read z) lowest ≡ true → true ≡ outside z
  unfolding outside num
  outside_low h = let q : lt_z z lowest ≡ true = rw (to_z-of_z s) at h in rw (q, outside)

  pub outside_high : lt_z (read z) lowest ≡ false → lt_z highest (read z) ≡ outside z
  unfolding outside num
  outside_high h = let q : lt_z z lowest ≡ false = rw (to_z-of_z s) at h in rw (q, outside) (rw (to_z-of_z s))

module _ (z : ℤ) where
  pub ranged-inside : outside z ≡ false → paper.ranged num z ≡ value z
  unfolding outside paper.ranged num
  ranged-inside h =
      test (lt_z z lowest)
      (λ t. let q : true ≡ false = rw (t, outside) at h in absurd (subst T q tt))
      (λ t. let q : lt_z highest z ≡ false = rw (t, outside) at h in rw (t, paper.ranged) (rw q))

  pub ranged-outside : outside z ≡ true → paper.ranged num z ≡ error overflow
  unfolding outside paper.ranged num
  ranged-outside h =
      test (lt_z z lowest)
      (λ t. rw (t, paper.ranged))
      (λ t. let q : lt_z highest z ≡ true = rw (t, outside) at h in rw (t, paper.ranged) (rw q))

pub inside-small : (z : ℤ) → outside z ≡ false → SFits w32 z
unfolding outside num
inside-small (pos n) h = record { sfits = omega (arith, ltb-false 8388608 n h) }
inside-small (negsuc n) h =
    test (ltb 8388606 n)
    (λ t. let q : true ≡ false = rw (t, outside) at h in absurd (subst T q tt))
    (λ t. record { sfits = omega (arith, ltb-false 8388606 n t) })

pub truth-inside : (b : Bool) → outside (truth b) ≡ false
unfolding truth outside num
truth-inside true = refl
truth-inside false = refl

pub truth-small : (b : Bool) → SFits w32 (truth b)
unfolding truth
truth-small true = record { sfits = omega arith }
truth-small false = record { sfits = omega arith }

-- ---- answers
pub is-value : (z : ℤ) → lt_z z (pos first_error) ≡ true → decoded z ≡ value z
unfolding decoded
is-value z h = rw (h, decoded)

pub is-error : (z : ℤ) → lt_z z (pos first_error) ≡ false → decoded z ≡ error (nat_abs z - first_error)
unfolding decoded
is-error z h = rw (h, decoded)

pub small-value : (z : ℤ) → SFits w32 z → lt_z z (pos first_error) ≡ true
small-value (pos n) h = lt-ltb n first_error (omega (arith, h.sfits))
small-value (negsuc n) h = refl

pub gives-value : (z : ℤ) → SFits w32 z → Gives (value z) z
gives-value z h = record { is = is-value z (small-value z h); small = λ q. h }

pub gives-error : (e : ℕ) → Gives (error e) (pos (first_error + e))
gives-error e =
    let l : lt_z (pos (first_error + e)) (pos first_error) ≡ false = le-ltb (first_error + e) first_error (omega arith) in
    record { is = is-error (pos (first_error + e)) l ∙ ap error (omega arith); small = λ q. absurd (subst T (sym q ∙ l) tt) }

pub gives_as : (v u : Value) (z : ℤ) → v ≡ u → Gives v z → Gives u z
gives_as v u z e g = record { is = g.is ∙ e; small = g.small }

-- an answer is handed on as it is
pub gives_same : (a : ℤ) → Small a → Gives (decoded a) a
gives_same a s = record { is = refl; small = s }

-- a test whether an answer is a value
pub told : (a : ℤ) (t u : Bool) → SFits w64 a → t ≡ lt_z (read a) (pos first_error) → t ≡ u → lt_z a (pos first_error) ≡ u
told a t u s e h = rw (to_z-of_z s) at (sym e ∙ h)

-- ---- quotients and remainders
quot-small : (a b : ℤ) → SFits w32 a → (b ≡ negsuc 0 → ⊥) → SFits w32 (quot_z a b)
quot-small (pos a) (pos b) s h = record { sfits = omega (arith, div-le_self a b, s.sfits) }
quot-small (pos a) (negsuc b) s h = record { sfits = omega (arith, mag-neg (a / suc b) a (omega (arith, div-le_self a (suc b))), s.sfits) }
quot-small (negsuc a) (pos b) s h = record { sfits = omega (arith, mag-neg (suc a / b) a (div-le_self (suc a) b), s.sfits) }
quot-small (negsuc a) (negsuc zero) s h = absurd (h refl)
quot-small (negsuc a) (negsuc (suc b)) s h = record { sfits = (div-lt_iff_lt-mul {k = suc (suc b)} (omega arith)).1 (omega (arith, s.sfits)) }

rem-small : (a b : ℤ) → SFits w32 a → SFits w32 (rem_z a b)
rem-small a b s = record { sfits = omega (arith, mag_rem a b, s.sfits) }

bits-not : (b : ℤ) → SFits w32 b → (is_zero b ≡ true → ⊥) → 0 < of_z w32 b
unfolding is_zero
bits-not (pos n) s h = pos_of_ne-zero (λ e. h (eq-eqb n 0 e))
bits-not (negsuc n) s h = omega (arith, s.sfits)

pub narrowed : (a : ℤ) → SFits w64 a → SFits w32 a → SFits w32 (read a)
narrowed a s f = rw (to_z-of_z s) f

pub divided-none : (b exact : ℤ) (t : Bool) → SFits w64 b → t ≡ is_zero (read b) → t ≡ true → Divided b exact beyond
unfolding outside num
divided-none b exact t s e h =
    let q : is_zero b ≡ true = rw (to_z-of_z s) at (sym e ∙ h) in
    record { none = λ k. refl; is = λ k. absurd (subst T (sym q ∙ k) tt) }

module _ (a b : ℤ) (sa : SFits w64 a) (sb : SFits w64 b) (fa : SFits w32 a) (fb : SFits w32 b) (t : Bool) (e : t ≡ is_zero (read b)) (h : t ≡ false) where
  not-zero : is_zero b ≡ false
  not-zero = rw (to_z-of_z sb) at (sym e ∙ h)

  divided : (exact z : ℤ) → z ≡ exact → Divided b exact z
  divided exact z q = record { none = λ k. absurd (subst T (sym k ∙ not-zero) tt); is = λ k. q }

  minus_is : of_z w64 b ≡ ones → b ≡ negsuc 0
  minus_is k = bits-same b (negsuc 0) sb (record { sfits = omega arith }) k

  pub minus-fits : SFits w64 (pos 0 -ℤ read a)
  minus-fits = rw (to_z-of_z sa, +ℤ_idl (neg_ℤ a)) (turned a fa)
    where
      turned : (a : ℤ) → SFits w32 a → SFits w64 (neg_ℤ a)
      turned (pos zero) s = record { sfits = omega arith }
      turned (pos (suc n)) s = record { sfits = omega (arith, s.sfits) }
      turned (negsuc n) s = record { sfits = omega (arith, s.sfits) }

  pub quot-minus : of_z w64 b ≡ ones → Divided b (quot_z a b) (read (pos 0 -ℤ read a))
  quot-minus k =
      divided (quot_z a b) (read (pos 0 -ℤ read a))
      (to_z-of_z minus-fits ∙ +ℤ_idl (neg_ℤ (read a)) ∙ ap neg_ℤ (to_z-of_z sa) ∙ sym (quot-by-minus-one a) ∙ ap (quot_z a) (sym (minus_is k)))

  pub rem-minus : of_z w64 b ≡ ones → Divided b (rem_z a b) (pos 0)
  rem-minus k = divided (rem_z a b) (pos 0) (sym (rem-by-minus-one a) ∙ ap (rem_z a) (sym (minus_is k)))

  module _ (k : of_z w64 b ≡ ones → ⊥) where
    back_a : to_z w32 (of_z w32 (read a)) ≡ a
    back_a = ap (λ (z : ℤ). to_z w32 (of_z w32 z)) (to_z-of_z sa) ∙ to_z-of_z fa

    back-b : to_z w32 (of_z w32 (read b)) ≡ b
    back-b = ap (λ (z : ℤ). to_z w32 (of_z w32 z)) (to_z-of_z sb) ∙ to_z-of_z fb

    quot-ok : SFits w32 (quot_z a b)
    quot-ok = quot-small a b fa (λ q. k (ap (of_z w64) q))

    pub divisor-ok : (0 < of_z w32 (read b)) × SFits w32 (quot_z (to_z w32 (of_z w32 (read a))) (to_z w32 (of_z w32 (read b))))
    divisor-ok = (rw (to_z-of_z sb) (bits-not b fb (λ q. absurd (subst T (sym q ∙ not-zero) tt))), rw (back_a, back-b) quot-ok)

    -- either operation, worked out with 32 bits
    module _ (op : ℤ → ℤ → ℤ) (ok : SFits w32 (op a b)) where
      abbrev narrow : ℤ
      narrow = to_z w32 (of_z w32 (op (to_z w32 (of_z w32 (read a))) (to_z w32 (of_z w32 (read b)))))

      wide : SFits w64 narrow
      wide = rw (back_a, back-b, to_z-of_z ok) (widened (op a b) ok)

      done : Divided b (op a b) (read narrow)
      done = divided (op a b) (read narrow) (to_z-of_z wide ∙ rw (back_a, back-b) (to_z-of_z ok))

    pub quot-wide : SFits w64 (to_z w32 (of_z w32 (quot_z (to_z w32 (of_z w32 (read a))) (to_z w32 (of_z w32 (read b))))))
    quot-wide = wide quot_z quot-ok

    pub rem_wide : SFits w64 (to_z w32 (of_z w32 (rem_z (to_z w32 (of_z w32 (read a))) (to_z w32 (of_z w32 (read b))))))
    rem_wide = wide rem_z (rem-small a b fa)

    pub quot-done : Divided b (quot_z a b) (read (to_z w32 (of_z w32 (quot_z (to_z w32 (of_z w32 (read a))) (to_z w32 (of_z w32 (read b)))))))
    quot-done = done quot_z quot-ok

    pub rem-done : Divided b (rem_z a b) (read (to_z w32 (of_z w32 (rem_z (to_z w32 (of_z w32 (read a))) (to_z w32 (of_z w32 (read b)))))))
    rem-done = done rem_z (rem-small a b fa)

-- a test whether a number is outside
pub outside-is : (z : ℤ) (t u : Bool) → SFits w64 z → t ≡ outside (read z) → t ≡ u → outside z ≡ u
outside-is z t u s e h = rw (to_z-of_z s) at (sym e ∙ h)
