-- The hash of a name is the same in both letter cases.
use mathlib.Core.Path.{◌≡◌, refl, ap, ◌∙◌}
use mathlib.Core.List.{List, [], ◌∷◌, map}
use Prim.Native.Nat.{ℕ, zero, suc, ◌+◌, ◌-◌, ◌*◌, ◌/◌, ◌%◌, ◌<◌, ◌≤◌}
use native.Mathlib.Omega.{arith}
use native.Mathlib.Numerals.{add-one}
use lib.Dec.{ltb, leb}
use lib.ListN.{length, length-map}
use borrow.Author.Tests.{lt-ltb, le-ltb, ltb-false}
use Rattle.laws.proofs.Tests.{test}
use Rattle.paper.specs.Sorts.{folded}
use Rattle.check_spelling.specs.Hash.{low_at, four_of, few_of, mixed, many_of, hash_of}

-- ---- four at a time
pub record Mixes (l : List ℕ) (h k : ℕ) : Type 0 where
  pub is : h ≡ mixed l k
  pub small : h < 1048576
  pub most : k * 4 < length l

pub mixes-start : (l : List ℕ) (h : ℕ) → 4 ≤ length l → h ≡ four_of l (length l - 4) → h < 1048576 → Mixes l h 0
unfolding mixed
mixes-start l h g e s = record { is = e; small = s; most = omega arith }

pub mixes-on : (l : List ℕ) (h k f : ℕ) → Mixes l h k → k * 4 + 4 < length l → f ≡ four_of l (k * 4) → Mixes l ((h * 73 + f) % 1048576) (k + 1)
unfolding mixed
mixes-on l h k f m g e = record { is = rw (m.is, e, add-one k); small = omega arith; most = omega arith }

pub mixes-end : (l : List ℕ) (h k : ℕ) → Mixes l h k → length l ≤ k * 4 + 4 → h ≡ many_of l
mixes-end l h k m g = m.is ∙ ap (mixed l) (whole (length l) k m.most g)
  where
    whole : (n k : ℕ) → k * 4 < n → n ≤ k * 4 + 4 → k ≡ (n - 1) / 4
    whole n k a b = omega arith

module _ (l : List ℕ) (h : ℕ) where
  pub hash-few : length l < 4 → h ≡ few_of l → h * 648055 % 1048576 / 512 ≡ hash_of l
  unfolding hash_of
  hash-few g e = rw (e, lt-ltb (length l) 4 g)

  pub hash-many : 4 ≤ length l → h ≡ many_of l → h * 648055 % 1048576 / 512 ≡ hash_of l
  unfolding hash_of
  hash-many g e = rw (e, le-ltb (length l) 4 g)

-- ---- both letter cases
low-folded : (b : ℕ) → folded b % 32 ≡ b % 32
unfolding folded
low-folded b =
    test (ltb b 97) (λ t. rw (t, folded))
    (λ t. let h = ltb-false b 97 t in test (leb b 122) (λ s. rw (t, folded) (rw s (omega arith))) (λ s. rw (t, folded) (rw s)))

lows : (l : List ℕ) (i : ℕ) → low_at (map folded l) i ≡ low_at l i
lows [] i = refl
lows (b ∷ l) zero = low-folded b
lows (b ∷ l) (suc i) = lows l i

module _ (l : List ℕ) where
  four-folded : (i : ℕ) → four_of (map folded l) i ≡ four_of l i
  unfolding four_of
  four-folded i = simp lows

  mixed-folded : (k : ℕ) → mixed (map folded l) k ≡ mixed l k
  unfolding mixed
  mixed-folded zero = rw (length-map l folded) (four-folded (length l - 4))
  mixed-folded (suc k) = rw (mixed-folded k, four-folded (k * 4))

  few-folded : few_of (map folded l) ≡ few_of l
  unfolding few_of
  few-folded = simp (lows, length-map)

  pub hash-folded : hash_of (map folded l) ≡ hash_of l
  unfolding hash_of
  hash-folded = rw (length-map l folded, few-folded, mixed-folded)
