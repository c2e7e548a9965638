-- From what the code finds to what the paper says, over any range whose ends are i64.
use mathlib.Core.Path.{◌≡◌, refl, sym, ap, ◌∙◌}
use mathlib.Core.Bool.{true, false}
use Prim.Native.Nat.{ℕ, ◌≤◌}
use native.Mathlib.Omega.{arith}
use lib.Dec.{ltb}
use lib.IntN.{ℤ, pos, negsuc, neg_ℤ, ◌-ℤ◌, +ℤ_idl}
use lib.Signed.{mag, lt_z, quot_z, rem_z}
use mir.Syntax.{w64}
use mir.Val.{SFits, of_z}
use mir.Facts.{to_z-of_z}
use borrow.Author.Tests.{lt-ltb, le-ltb, ltb-true, ltb-false, eq-eqb, ne_eqb}
use Rattle.std.specs.Prelude.{Option, Some, None, Ok, Err}
use Rattle.std.specs.Option.{SomeIff, ok_or}
use Rattle.std.specs.Ordering.{int_cmp}
use Rattle.laws.proofs.Tests.{test, false-true}
use Rattle.paper.specs.Numbers as paper
use Rattle.paper.specs.Numbers.{overflow, div_zero, ranged, divide, modulo, is_zero, same}
use Rattle.store_numbers.specs.Answers.{Num, value_of, range_of, Compared}
use Rattle.store_numbers.specs.declared.Range.{Range}
use Rattle.store_numbers.specs.declared.ArithmeticError.{ArithmeticError}
use Rattle.store_numbers.specs.declared.ArithmeticError.TheVariants.{Overflow, DivZero}
use Rattle.store_numbers.proofs.Whole.{half, read, bits-same, quot_fits, rem-fits, rem_is, quot-by-minus-one, rem-by-minus-one}

-- ---- held to a range

module _ (R : paper.Range) (z : ℤ) where
  below : lt_z z R.low ≡ true → value_of (Err Overflow) ≡ ranged R z
  unfolding value_of ranged
  below e = rw (e, ranged)

  above : lt_z z R.low ≡ false → lt_z R.high z ≡ true → value_of (Err Overflow) ≡ ranged R z
  unfolding value_of ranged
  above e d = rw (e, ranged) (rw d)

  inside : lt_z z R.low ≡ false → lt_z R.high z ≡ false → value_of (Ok z) ≡ ranged R z
  unfolding value_of ranged
  inside e d = rw (e, ranged) (rw d)

-- both ends are i64
pub record Ends (r : Range) : Type 0 where
  pub low : SFits w64 r.low
  pub high : SFits w64 r.high

module _ (r : Range) (z : ℤ) (s : Ends r) (h : SFits w64 z) where
  pub held_low : lt_z (read z) (read r.low) ≡ true → value_of (Err Overflow) ≡ ranged (range_of r) z
  held_low e = below (range_of r) z (rw (to_z-of_z h, to_z-of_z s.low) at e)

  module _ (e : lt_z (read z) (read r.low) ≡ false) where
    pub held_high : lt_z (read r.high) (read z) ≡ true → value_of (Err Overflow) ≡ ranged (range_of r) z
    held_high d = above (range_of r) z (rw (to_z-of_z h, to_z-of_z s.low) at e) (rw (to_z-of_z h, to_z-of_z s.high) at d)

    pub held : lt_z (read r.high) (read z) ≡ false → value_of (Ok (read z)) ≡ ranged (range_of r) z
    held d = rw (to_z-of_z h) (inside (range_of r) z (rw (to_z-of_z h, to_z-of_z s.low) at e) (rw (to_z-of_z h, to_z-of_z s.high) at d))

-- what is no i64 is outside
outside : (r : Range) (z : ℤ) → Ends r → (SFits w64 z → ⊥) → value_of (Err Overflow) ≡ ranged (range_of r) z
outside r z s e = go z (beyond z e)
  where
    beyond : (z : ℤ) → (SFits w64 z → ⊥) → half ≤ mag z
    beyond z e = test (ltb (mag z) half) (λ t. absurd (e (record { sfits = ltb-true (mag z) half t }))) (λ t. ltb-false (mag z) half t)

    under : (l : ℤ) (n : ℕ) → SFits w64 l → half ≤ n → lt_z (negsuc n) l ≡ true
    under (pos l) n s h = refl
    under (negsuc l) n s h = lt-ltb l n (omega (arith, s.sfits))

    over : (u : ℤ) (n : ℕ) → SFits w64 u → half ≤ n → lt_z u (pos n) ≡ true
    over (pos u) n s h = lt-ltb u n (omega (arith, s.sfits))
    over (negsuc u) n s h = refl

    go : (z : ℤ) → half ≤ mag z → value_of (Err Overflow) ≡ ranged (range_of r) z
    go (negsuc n) h = below (range_of r) (negsuc n) (under r.low n s.low h)
    go (pos n) h =
        test (lt_z (pos n) r.low) (λ e. below (range_of r) (pos n) e) (λ e. above (range_of r) (pos n) e (over r.high n s.high h))

-- ---- an exact result, which is told where it is an i64

-- what a checked operation tells of the numbers that it read, it tells of the numbers
pub tells : (f : ℤ → ℤ → ℤ) (a b : ℤ) → SFits w64 a → SFits w64 b → (o : Option ℤ)
    → SomeIff o (SFits w64 (f (read a) (read b))) (f (read a) (read b)) → SomeIff o (SFits w64 (f a b)) (f a b)
tells f a b ha hb o s = rw (to_z-of_z ha, to_z-of_z hb) at s

-- there is one
pub exact-held : (o : Option ℤ) (m n : Num) (R : paper.Range) (exact z : ℤ)
    → SomeIff o (SFits w64 exact) exact → m ≡ ok_or o Overflow → m ≡ Ok z → value_of n ≡ ranged R z → value_of n ≡ ranged R exact
exact-held None m n R exact z s e d g = cc
exact-held (Some x) m n R exact z s e d g = g ∙ ap (ranged R) (let q : z ≡ x = cc in q ∙ s.1)

-- there is none
pub exact-over : (o : Option ℤ) (m : Num) (r : Range) (exact : ℤ) (e : ArithmeticError)
    → Ends r → SomeIff o (SFits w64 exact) exact → m ≡ ok_or o Overflow → m ≡ Err e → value_of (Err e) ≡ ranged (range_of r) exact
exact-over (Some x) m r exact e k s g d = cc
exact-over None m r exact e k s g d = let q : e ≡ Overflow = cc in rw q (outside r exact k s)

pub minus-done : (R : paper.Range) (a : ℤ) (n : Num) → SFits w64 a → value_of n ≡ ranged R (pos 0 -ℤ read a) → value_of n ≡ ranged R (neg_ℤ a)
minus-done R a n s g = g ∙ ap (ranged R) (+ℤ_idl (neg_ℤ (read a)) ∙ ap neg_ℤ (to_z-of_z s))

-- ---- division

zero_is : (b : ℤ) → b ≡ pos 0 → is_zero b ≡ true
unfolding is_zero
zero_is b e = rw e

zero-not : (b : ℤ) → (b ≡ pos 0 → ⊥) → is_zero b ≡ false
unfolding is_zero
zero-not (pos n) h = ne_eqb n 0 (λ e. h (ap pos e))
zero-not (negsuc n) h = refl

module _ (R : paper.Range) (a b : ℤ) where
  pub divide-zero : SFits w64 b → of_z w64 b ≡ 0 → value_of (Err DivZero) ≡ divide R a b
  unfolding value_of divide
  divide-zero s e = rw (zero_is b (bits-same b (pos 0) s (record { sfits = omega arith }) e), divide)

  pub modulo-zero : SFits w64 b → of_z w64 b ≡ 0 → value_of (Err DivZero) ≡ modulo R a b
  unfolding value_of modulo
  modulo-zero s e = rw (zero_is b (bits-same b (pos 0) s (record { sfits = omega arith }) e), modulo)

  divide_is : (b ≡ pos 0 → ⊥) → divide R a b ≡ ranged R (quot_z a b)
  unfolding divide
  divide_is h = rw (zero-not b h, divide)

  modulo-is : (b ≡ pos 0 → ⊥) → modulo R a b ≡ ranged R (rem_z a b)
  unfolding modulo
  modulo-is h = rw (zero-not b h, modulo) (ap (ranged R) (rem_is a b))

module _ (a b : ℤ) (ha : SFits w64 a) (hb : SFits w64 b) (hz : of_z w64 b ≡ 0 → ⊥) where
  not-zero : b ≡ pos 0 → ⊥
  not-zero e = hz (ap (of_z w64) e)

  module _ (R : paper.Range) (n : Num) where
    minus_one : of_z w64 b ≡ of_z w64 (negsuc 0) → b ≡ negsuc 0
    minus_one e = bits-same b (negsuc 0) hb (record { sfits = omega arith }) e

    pub divide-minus-one : of_z w64 b ≡ of_z w64 (negsuc 0) → value_of n ≡ ranged R (neg_ℤ (read a)) → value_of n ≡ divide R a b
    divide-minus-one e g =
        g ∙ ap (ranged R) (ap neg_ℤ (to_z-of_z ha) ∙ sym (quot-by-minus-one a) ∙ ap (quot_z a) (sym (minus_one e))) ∙ sym (divide_is R a b not-zero)

    pub modulo-minus-one : of_z w64 b ≡ of_z w64 (negsuc 0) → value_of n ≡ ranged R (pos 0) → value_of n ≡ modulo R a b
    modulo-minus-one e g = g ∙ ap (ranged R) (sym (rem-by-minus-one a) ∙ ap (rem_z a) (sym (minus_one e))) ∙ sym (modulo-is R a b not-zero)

  module _ (hm : of_z w64 b ≡ of_z w64 (negsuc 0) → ⊥) where
    quotient_fits : SFits w64 (quot_z a b)
    quotient_fits = quot_fits a b ha (λ e. hm (ap (of_z w64) e))

    pub divisor-fits : SFits w64 (quot_z (read a) (read b))
    divisor-fits = rw (to_z-of_z ha, to_z-of_z hb) quotient_fits

    -- either operation, with its sides as they were read
    done : (op : ℤ → ℤ → ℤ) → SFits w64 (op a b) → (R : paper.Range) (n : Num) → value_of n ≡ ranged R (read (op (read a) (read b))) → value_of n ≡ ranged R (op a b)
    done op f R n g = rw (to_z-of_z ha, to_z-of_z hb, to_z-of_z f) at g

    pub divide-done : (R : paper.Range) (n : Num) → value_of n ≡ ranged R (read (quot_z (read a) (read b))) → value_of n ≡ divide R a b
    divide-done R n g = done quot_z quotient_fits R n g ∙ sym (divide_is R a b not-zero)

    pub modulo-done : (R : paper.Range) (n : Num) → value_of n ≡ ranged R (read (rem_z (read a) (read b))) → value_of n ≡ modulo R a b
    modulo-done R n g = done rem_z (rem-fits a b ha) R n g ∙ sym (modulo-is R a b not-zero)

-- ---- order

flip-lt : (a b : ℤ) → lt_z a b ≡ true → lt_z b a ≡ false
flip-lt (pos a) (pos b) e = le-ltb b a (omega (arith, ltb-true a b e))
flip-lt (pos a) (negsuc b) e = false-true e
flip-lt (negsuc a) (pos b) e = refl
flip-lt (negsuc a) (negsuc b) e = le-ltb a b (omega (arith, ltb-true b a e))

lt-differs : (a b : ℤ) → lt_z a b ≡ true → (same a b ≡ false) × (same b a ≡ false)
unfolding same
lt-differs (pos a) (pos b) e = (ne_eqb a b (λ d. omega (arith, ltb-true a b e)), ne_eqb b a (λ d. omega (arith, ltb-true a b e)))
lt-differs (pos a) (negsuc b) e = (refl, refl)
lt-differs (negsuc a) (pos b) e = (refl, refl)
lt-differs (negsuc a) (negsuc b) e = (ne_eqb a b (λ d. omega (arith, ltb-true b a e)), ne_eqb b a (λ d. omega (arith, ltb-true b a e)))

neither : (a b : ℤ) → lt_z a b ≡ false → lt_z b a ≡ false → same a b ≡ true
unfolding same
neither (pos a) (pos b) e d = eq-eqb a b (omega (arith, ltb-false a b e, ltb-false b a d))
neither (pos a) (negsuc b) e d = false-true (sym d)
neither (negsuc a) (pos b) e d = false-true (sym e)
neither (negsuc a) (negsuc b) e d = eq-eqb a b (omega (arith, ltb-false b a e, ltb-false a b d))

pub compared : (a b : ℤ) → Compared a b (int_cmp a b)
compared a b =
    test (lt_z a b)
    (λ e. rw e (record { below = e; same = (lt-differs a b e).0; above = flip-lt a b e }))
    (λ e. test (lt_z b a)
    (λ d. rw (e, d) (record { below = e; same = (lt-differs b a d).1; above = d }))
    (λ d. rw (e, d) (record { below = e; same = neither a b e d; above = d })))
