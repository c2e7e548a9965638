-- The digits of a number, found from the last to the first: what both loops know of those that are left.
use mathlib.Core.Path.{◌≡◌, refl, sym, ap, ap₂, ◌∙◌}
use mathlib.Core.Bool.{true, false}
use mathlib.Core.List.{List, [], ◌∷◌, ◌++◌, append_assoc, append-nil}
use Prim.Native.Nat.{ℕ, zero, suc, ◌+◌, ◌-◌, ◌/◌, ◌%◌, ◌^◌, ◌<◌, ◌≤◌}
use native.Mathlib.Nat.{div-lt_iff_lt-mul, pow-suc}
use native.Mathlib.Numerals.{add-one}
use native.Mathlib.Omega.{arith}
use lib.IntN.{ℤ, pos, negsuc, nat_abs}
use lib.ListN.{length, take, drop, set, get_or, length-append, length-set, take-append-drop}
use lib.Seq.{take-suc, set_at, length-take-le}
use lib.Signed.{lt_z}
use mir.Syntax.{w64}
use mir.Val.{SFits}
use mir.Facts.{to_z-of_z}
use borrow.Author.Tests.{lt-ltb, le-ltb, ltb-true}
use Rattle.laws.proofs.Tests.{by_less, false-true}
use Rattle.store_numbers.proofs.Whole.{read}
use Rattle.paper.specs.Numbers.{digits, decimal}

one-digit : (p n : ℕ) → n < 10 → digits (suc p) n ≡ (48 + n) ∷ []
unfolding digits
one-digit p n h = rw (lt-ltb n 10 h, digits)

more-digits : (p n : ℕ) → 10 ≤ n → digits (suc p) n ≡ digits p (n / 10) ++ ((48 + n % 10) ∷ [])
unfolding digits
more-digits p n h = rw (le-ltb n 10 h, digits)

pub few : (p n : ℕ) → length (digits p n) ≤ p
unfolding digits
few zero n = omega arith
few (suc p) n = by_less n 10 (λ h. rw (one-digit p n h) (omega arith)) (λ h. rw (more-digits p n h, length-append) (omega (arith, few p (n / 10))))

some : (p n : ℕ) → 0 < length (digits (suc p) n)
some p n = by_less n 10 (λ h. rw (one-digit p n h) (omega arith)) (λ h. rw (more-digits p n h, length-append) (omega arith))

-- ---- of the list all, the last k are found, and those of m are left

pub record Left (all : List ℕ) (m k : ℕ) : Type 0 where
  pub places : ℕ
  pub found : List ℕ
  pub size : m < 10 ^ suc places
  pub whole : all ≡ digits (suc places) m ++ found
  pub count : length found ≡ k

pub left-start : (n : ℕ) → n < 18446744073709551616 → Left (digits 20 n) n 0
left-start n h = record { places = 19; found = []; size = omega arith; whole = sym (append-nil (digits 20 n)); count = refl }

-- one digit fewer, where there are two at least
module _ (m : ℕ) (h : 10 ≤ m) where
  shorter : (p : ℕ) → m < 10 ^ suc p → m / 10 < 10 ^ suc (p - 1)
  shorter zero s = absurd (omega arith)
  shorter (suc p) s =
      let e : suc p - 1 ≡ p = omega arith in
      rw e ((div-lt_iff_lt-mul {k = 10} (omega arith)).1 (rw (pow-suc 10 (suc p)) at s))

  split : (p : ℕ) → m < 10 ^ suc p → digits (suc p) m ≡ digits (suc (p - 1)) (m / 10) ++ ((48 + m % 10) ∷ [])
  split zero s = absurd (omega arith)
  split (suc p) s = let e : suc p - 1 ≡ p = omega arith in rw e (more-digits (suc p) m h)

pub left_step : {all : List ℕ} {m k : ℕ} → Left all m k → 10 ≤ m → Left all (m / 10) (k + 1)
left_step {all} {m} {k} l h = record {
  places = l.places - 1;
  found = (48 + m % 10) ∷ l.found;
  size = shorter m h l.places l.size;
  whole = l.whole
      ∙ ap (λ (x : List ℕ). x ++ l.found) (split m h l.places l.size)
      ∙ append_assoc (digits (suc (l.places - 1)) (m / 10)) ((48 + m % 10) ∷ []) l.found;
  count = omega (arith, l.count);
}

pub left_end : {all : List ℕ} {m k : ℕ} (l : Left all m k) → m < 10 → all ≡ (48 + m) ∷ l.found
left_end {all} {m} l h = l.whole ∙ ap (λ (x : List ℕ). x ++ l.found) (one-digit l.places m h)

-- there is one more to find
pub left-room : {all : List ℕ} {m k : ℕ} → Left all m k → k < length all
left-room {all} {m} l = rw (l.whole, length-append) (omega (arith, some l.places m, l.count))

pub counted : (n m k : ℕ) → Left (digits 20 n) m k → m < 10 → (k + 1 ≡ length (digits 20 n)) × (k + 1 ≤ 20)
counted n m k l h =
    let e : k + 1 ≡ length (digits 20 n) = omega (arith, ap length (left_end l h), l.count) in
    (e, omega (arith, few 20 n))

-- ---- written from the end

set_back : (l r : List ℕ) (i d : ℕ) → i < length l → set (take (i + 1) l ++ r) i d ≡ take i l ++ (d ∷ r)
set_back l r i d h =
    let e : take (i + 1) l ≡ take i l ++ (get_or l i 0 ∷ []) = rw add-one (take-suc l i 0 h) in
    ap (λ (x : List ℕ). set (x ++ r) i d) e
    ∙ ap (λ (x : List ℕ). set x i d) (append_assoc (take i l) (get_or l i 0 ∷ []) r)
    ∙ set_at (take i l) (get_or l i 0) r d i (length-take-le i l (omega arith))

-- k digits are found and stand in out, from behind place i on
pub record Writing (all before out : List ℕ) (m i : ℕ) : Type 0 where
  pub k : ℕ
  pub left : Left all m k
  pub place : k + (i + 1) ≡ length all
  pub bytes : out ≡ take (i + 1) before ++ (left.found ++ drop (length all) before)
  pub long : length out ≡ length before

pub write-first : (n c : ℕ) → c ≡ length (digits 20 n) → 1 ≤ c
write-first n c e = omega (arith, some 19 n)

pub write-start : (n c : ℕ) (before : List ℕ) → n < 18446744073709551616 → c ≡ length (digits 20 n) → Writing (digits 20 n) before before n (c - 1)
unfolding left-start
write-start n c before h e =
    let q : c - 1 + 1 ≡ length (digits 20 n) = omega (arith, some 19 n) in
    record { k = 0; left = left-start n h; place = omega arith; bytes = rw q (sym (take-append-drop (length (digits 20 n)) before)); long = refl }

module _ (all before out : List ℕ) (m i c : ℕ) (w : Writing all before out m i) (e : c ≡ length all) (h : c ≤ length before) where
  pub write-room : i < length out
  write-room = omega (arith, w.place, w.long)

  pub write-more : 10 ≤ m → 1 ≤ i
  write-more g = omega (arith, left-room (left_step w.left g), w.place)

  stored : (d : ℕ) → set out i d ≡ take i before ++ (d ∷ (w.left.found ++ drop (length all) before))
  stored d = ap (λ (x : List ℕ). set x i d) w.bytes ∙ set_back before (w.left.found ++ drop (length all) before) i d (omega (arith, w.place))

  pub write_step : 10 ≤ m → Writing all before (set out i (48 + m % 10)) (m / 10) (i - 1)
  unfolding left_step
  write_step g =
      let q : i - 1 + 1 ≡ i = omega (arith, write-more g) in
      record {
        k = w.k + 1;
        left = left_step w.left g;
        place = omega (arith, write-more g, w.place);
        bytes = rw q (stored (48 + m % 10));
        long = length-set out i (48 + m % 10) ∙ w.long;
      }

  pub write-end : m < 10 → set out i (48 + m) ≡ all ++ drop c before
  write-end g =
      let q : i ≡ 0 = omega (arith, ap length (left_end w.left g), w.left.count, w.place) in
      stored (48 + m) ∙ ap (λ (j : ℕ). take j before ++ ((48 + m) ∷ (w.left.found ++ drop (length all) before))) q
      ∙ ap₂ (λ (x : List ℕ) (j : ℕ). x ++ drop j before) (sym (left_end w.left g)) (sym e)

-- ---- with a sign

module _ (z : ℤ) (n : ℕ) (s : SFits w64 z) (e : n ≡ nat_abs (read z)) where
  module _ (t : lt_z (read z) (pos 0) ≡ true) where
    neg_is : decimal z ≡ 45 ∷ digits 20 n
    unfolding decimal
    neg_is = rw (e, to_z-of_z s) (go z (rw (to_z-of_z s) at t))
      where
        go : (z : ℤ) → lt_z z (pos 0) ≡ true → decimal z ≡ 45 ∷ digits 20 (nat_abs z)
        go (pos n) t = absurd (omega (arith, ltb-true n 0 t))
        go (negsuc n) t = refl

    pub neg-length : (k : ℕ) → k ≡ length (digits 20 n) → k + 1 ≡ length (decimal z)
    neg-length k h = omega (arith, ap length neg_is)

    pub neg-count : (c : ℕ) → c ≡ length (decimal z) → c ≡ length (digits 20 n) + 1
    neg-count c h = omega (arith, ap length neg_is)

    pub neg-written : (ys r : List ℕ) → ys ≡ 45 ∷ (digits 20 n ++ r) → ys ≡ decimal z ++ r
    neg-written ys r h = h ∙ ap (λ (x : List ℕ). x ++ r) (sym neg_is)

  module _ (t : lt_z (read z) (pos 0) ≡ false) where
    pos-is : decimal z ≡ digits 20 n
    unfolding decimal
    pos-is = rw (e, to_z-of_z s) (go z (rw (to_z-of_z s) at t))
      where
        go : (z : ℤ) → lt_z z (pos 0) ≡ false → decimal z ≡ digits 20 (nat_abs z)
        go (pos n) t = refl
        go (negsuc n) t = false-true (sym t)

    pub pos-count : (c : ℕ) → c ≡ length (decimal z) → c ≡ length (digits 20 n)
    pos-count c h = h ∙ ap length pos-is

    pub pos-length : (k : ℕ) → k ≡ length (digits 20 n) → k ≡ length (decimal z)
    pos-length k h = h ∙ ap length (sym pos-is)

    pub pos-written : (ys r : List ℕ) → ys ≡ digits 20 n ++ r → ys ≡ decimal z ++ r
    pos-written ys r h = h ∙ ap (λ (x : List ℕ). x ++ r) (sym pos-is)
