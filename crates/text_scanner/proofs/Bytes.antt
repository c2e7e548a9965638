-- What is said of a byte: whether it is barred in a string, spoils a number or is permitted, and the signs, which antt computes at every byte.
use mathlib.Core.Path.{◌≡◌, refl, sym, ap, ◌∙◌}
use mathlib.Core.Bool.{Bool, true, false, ◌||◌}
use mathlib.Core.List.{List, [], ◌∷◌}
use Prim.Native.Nat.{ℕ, zero, suc, ◌<◌, ◌≤◌}
use native.Mathlib.Nat.{not-suc-le-zero}
use native.Mathlib.Omega.{arith}
use lib.Dec.{eqb, leb}
use borrow.Author.Tests.{eqb-true, eq-eqb, ne_eqb, lt-leb, leb-true}
use Rattle.paper.specs.Sorts.{bytes, folded, signs, equal_texts, number_in, sign_sort, first_sign, NOTHING, becomes, less_equal, greater_equal, unequal}
use Rattle.paper.specs.Words.{between, letter, digit, spoils_number, barred_in_string, permitted}
use Rattle.laws.proofs.Tests.{test, false-true, by_last}
use Rattle.text_reserved.proofs.Texts.{every, unlike}
use Rattle.text_reserved.proofs.Ranges.{failed, passed, left-to, below-range, in-range, range, ranges}

-- ---- a test at every number below a bound
unfoldable pub all : (ℕ → Bool) → ℕ → Bool
all f zero = true
all f (suc n) = elim (f n) [ true ↦ all f n | false ↦ false ]

all-below : (f : ℕ → Bool) (n : ℕ) → all f n ≡ true → (b : ℕ) → b < n → f b ≡ true
unfolding all
all-below f zero t b h = absurd (not-suc-le-zero h)
all-below f (suc n) t b h =
    test (f n) (λ e. by_last b n h (λ g. ap f g ∙ e) (all-below f n (rw (e, all) at t) b))
    (λ e. false-true (rw (e, all) at t))

alike-numbers : (f g : ℕ → ℕ) → all (λ b. eqb (f b) (g b)) 256 ≡ true → (b : ℕ) → b < 256 → f b ≡ g b
alike-numbers f g t b h = eqb-true (f b) (g b) (all-below (λ b. eqb (f b) (g b)) 256 t b h)

-- ---- in strings and after numbers
-- a byte that stands in print is barred if it is a backslash, and any other if it is CR or LF
module _ (b : ℕ) (t : Bool) (is : t ≡ between 0x20 0x7e b) where
  pub barred-in-print : t ≡ true → eqb b 92 ≡ barred_in_string b
  unfolding barred_in_string
  barred-in-print h =
      let r = range 0x20 0x7e b (sym is ∙ h) in
      left-to _ _ _ (failed _ _ (ne_eqb b 13 (λ e. omega arith)) (ne_eqb b 10 (λ e. omega arith))) refl

  pub barred-cr : b ≡ 13 → true ≡ barred_in_string b
  unfolding barred_in_string
  barred-cr e = rw (eq-eqb b 13 e)

  pub barred-lf : t ≡ false → (b ≡ 13 → ⊥) → eqb b 10 ≡ barred_in_string b
  unfolding barred_in_string
  barred-lf h n = left-to _ _ _ (ne_eqb b 13 n) refl ∙ sym (or-false (eqb b 13 || eqb b 10) (eqb b 92) (ne_eqb b 92 other))
    where
      or-false : (x y : Bool) → y ≡ false → x || y ≡ x
      or-false true y e = refl
      or-false false y e = e

      other : b ≡ 92 → ⊥
      other e = let z : false ≡ true = sym (sym is ∙ h) ∙ ranges 0x20 0x7e b (omega arith) (omega arith) in false-true z

pub spoils-not : (b : ℕ) → b < 46 → false ≡ spoils_number b
unfolding spoils_number letter
spoils-not b h =
    let no-letter = failed _ _ (sym (below-range 65 90 b (omega arith))) (sym (below-range 97 122 b (omega arith))) in
    left-to _ _ _ (failed _ _ no-letter (ne_eqb b 95 (λ e. omega arith))) (sym (ne_eqb b 46 (λ e. omega arith)))

-- ---- what begins a word is permitted
permitted-range : (b : ℕ) → 32 ≤ b → b ≤ 126 → permitted b ≡ true
unfolding permitted
permitted-range b h g = passed _ _ (passed _ _ (passed _ _ (ranges 0x20 0x7e b h g)))

pub letter-permitted : (b : ℕ) → letter b ≡ true → permitted b ≡ true
unfolding letter
letter-permitted b t =
    test (between 65 90 b) (λ e. let r = range 65 90 b e in permitted-range b (omega arith) (omega arith))
    (λ e. let r = range 97 122 b (rw e at t) in permitted-range b (omega arith) (omega arith))

pub digit-permitted : (b : ℕ) → digit b ≡ true → permitted b ≡ true
unfolding digit
digit-permitted b t = let r = range 48 57 b t in permitted-range b (omega arith) (omega arith)

pub quote-permitted : (b : ℕ) → b ≡ 34 → permitted b ≡ true
quote-permitted b e = permitted-range b (omega arith) (omega arith)

-- the first byte of every sign is permitted
unfoldable begins : List ℕ → Bool
begins [] = true
begins (b ∷ r) = permitted b

all-begin : every begins signs ≡ true
unfolding every begins signs bytes folded permitted between
all-begin = refl

pub sign-permitted : (b : ℕ) (r : List ℕ) → permitted b ≡ false → sign_sort (b ∷ r) ≡ 0
unfolding sign_sort begins
sign-permitted b r n = unlike begins signs first_sign (b ∷ r) all-begin n

-- ---- signs of one byte
unfoldable has : ℕ → List ℕ → Bool
has b [] = false
has b (x ∷ r) = elim (eqb b x) [ true ↦ true | false ↦ has b r ]

-- what a match knows in its last arm: the byte is none of these, of which the last arm's stands first
abbrev pub Apart : ℕ → List ℕ → Type 0
Apart b [] = Unit {0}
Apart b (x ∷ r) = Apart b r × (b ≡ x → ⊥)

has-not : (b : ℕ) (l : List ℕ) → Apart b l → has b l ≡ false
unfolding has
has-not b [] h = refl
has-not b (x ∷ r) h = rw (ne_eqb b x h.1, has) (has-not b r h.0)

abbrev one_byte : List ℕ
one_byte = 125 ∷ 123 ∷ 92 ∷ 62 ∷ 61 ∷ 60 ∷ 59 ∷ 58 ∷ 45 ∷ 44 ∷ 43 ∷ 42 ∷ 41 ∷ 40 ∷ []

unfoldable sign_or_zero : ℕ → Bool
sign_or_zero b = elim (has b one_byte) [ true ↦ true | false ↦ eqb (sign_sort (b ∷ [])) 0 ]

no_sign : (b : ℕ) → b < 256 → Apart b one_byte → 0 ≡ sign_sort (b ∷ [])
unfolding all has sign_or_zero sign_sort number_in signs equal_texts bytes folded
no_sign b h a = sym (eqb-true (sign_sort (b ∷ [])) 0 (rw (has-not b one_byte a, sign_or_zero) at (all-below sign_or_zero 256 refl b h)))

-- a byte outside a range is apart from every byte in it
unfoldable beyond : ℕ → List ℕ → Bool
beyond top [] = true
beyond top (x ∷ r) = elim (leb x top) [ true ↦ beyond top r | false ↦ false ]

apart-beyond : (top b : ℕ) (l : List ℕ) → top < b → beyond top l ≡ true → Apart b l
unfolding beyond
apart-beyond top b [] h t = tt
apart-beyond top b (x ∷ r) h t =
    test (leb x top) (λ e. (apart-beyond top b r h (rw (e, beyond) at t), λ g. let y = leb-true x top e in omega arith)) (λ e. false-true (rw (e, beyond) at t))

module _ (b : ℕ) (f : b < 256) where
  pub no-early : b < 58 → Apart b (45 ∷ 44 ∷ 43 ∷ 42 ∷ 41 ∷ 40 ∷ []) → 0 ≡ sign_sort (b ∷ [])
  no-early h a =
      no_sign b f ((((((((a, λ e. omega arith), λ e. omega arith), λ e. omega arith), λ e. omega arith), λ e. omega arith), λ e. omega arith), λ e. omega arith), λ e. omega arith)

  pub no-late : 62 < b → Apart b (125 ∷ 123 ∷ 92 ∷ []) → 0 ≡ sign_sort (b ∷ [])
  unfolding beyond
  no-late h a = no_sign b f (((apart-beyond 62 b (62 ∷ 61 ∷ 60 ∷ 59 ∷ 58 ∷ 45 ∷ 44 ∷ 43 ∷ 42 ∷ 41 ∷ 40 ∷ []) h refl, a.0.0.1), a.0.1), a.1)

pub last-middle : (b : ℕ) → 58 ≤ b → b ≤ 62 → Apart b (61 ∷ 60 ∷ 59 ∷ 58 ∷ []) → b ≡ 62
last-middle b h g a = omega (arith, a.1, a.0.1, a.0.0.1, a.0.0.0.1)

pub a-sign : (b x : ℕ) → b ≡ x → sign_sort (x ∷ []) ≡ sign_sort (b ∷ [])
a-sign b x e = rw e

-- ---- signs of two bytes
-- the second byte of every sign that has one is `=` or `>`
unfoldable paired : List ℕ → Bool
paired [] = true
paired (b ∷ []) = true
paired (b ∷ c ∷ r) = elim (eqb c 61) [ true ↦ true | false ↦ eqb c 62 ]

all-paired : every paired signs ≡ true
unfolding every paired signs bytes folded
all-paired = refl

pub unpaired : (b c : ℕ) → (c ≡ 61 → ⊥) → (c ≡ 62 → ⊥) → 0 ≡ sign_sort (b ∷ c ∷ [])
unfolding sign_sort paired
unpaired b c n m = sym (unlike paired signs first_sign (b ∷ c ∷ []) all-paired (rw (ne_eqb c 61 n, paired) (ne_eqb c 62 m)))

-- the first byte of every sign of two bytes is one from `:` to `>`
unfoldable pairs : List ℕ → Bool
pairs [] = true
pairs (b ∷ []) = true
pairs (b ∷ c ∷ r) = between 58 62 b

all-pairs : every pairs signs ≡ true
unfolding every pairs signs bytes folded between
all-pairs = refl

module _ (b c : ℕ) where
  outside : between 58 62 b ≡ false → 0 ≡ sign_sort (b ∷ c ∷ [])
  unfolding sign_sort pairs
  outside n = sym (unlike pairs signs first_sign (b ∷ c ∷ []) all-pairs n)

  pub unpaired-below : b < 58 → 0 ≡ sign_sort (b ∷ c ∷ [])
  unpaired-below h = outside (sym (below-range 58 62 b h))

  pub unpaired-above : 62 < b → 0 ≡ sign_sort (b ∷ c ∷ [])
  unpaired-above h = outside (sym (in-range 58 62 b (omega arith)) ∙ lt-leb b 62 h)

unfoldable before_equal : ℕ → ℕ
before_equal b =
    elim (eqb b 58) [
      | true ↦ becomes
      | false ↦ elim (eqb b 60) [ true ↦ less_equal | false ↦ elim (eqb b 62) [ true ↦ greater_equal | false ↦ NOTHING ] ]
    ]

unfoldable before_more : ℕ → ℕ
before_more b = elim (eqb b 60) [ true ↦ unequal | false ↦ NOTHING ]

before-equal : (b : ℕ) → b < 256 → before_equal b ≡ sign_sort (b ∷ 61 ∷ [])
unfolding all before_equal sign_sort number_in signs equal_texts bytes folded
before-equal b h = alike-numbers before_equal (λ b. sign_sort (b ∷ 61 ∷ [])) refl b h

before-more : (b : ℕ) → b < 256 → before_more b ≡ sign_sort (b ∷ 62 ∷ [])
unfolding all before_more sign_sort number_in signs equal_texts bytes folded
before-more b h = alike-numbers before_more (λ b. sign_sort (b ∷ 62 ∷ [])) refl b h

module _ (b c : ℕ) (f : b < 256) where
  pair-equal : (s : ℕ) → c ≡ 61 → before_equal b ≡ s → s ≡ sign_sort (b ∷ c ∷ [])
  pair-equal s e g = sym g ∙ before-equal b f ∙ ap (λ (x : ℕ). sign_sort (b ∷ x ∷ [])) (sym e)

  pair-more : (s : ℕ) → c ≡ 62 → before_more b ≡ s → s ≡ sign_sort (b ∷ c ∷ [])
  pair-more s e g = sym g ∙ before-more b f ∙ ap (λ (x : ℕ). sign_sort (b ∷ x ∷ [])) (sym e)

  pub no-pair-equal : c ≡ 61 → (b ≡ 58 → ⊥) → (b ≡ 60 → ⊥) → (b ≡ 62 → ⊥) → 0 ≡ sign_sort (b ∷ c ∷ [])
  unfolding before_equal
  no-pair-equal e h g k = pair-equal 0 e (rw (ne_eqb b 58 h, before_equal) (rw (ne_eqb b 60 g) (rw (ne_eqb b 62 k))))

  pub no-pair-more : c ≡ 62 → (b ≡ 60 → ⊥) → 0 ≡ sign_sort (b ∷ c ∷ [])
  unfolding before_more
  no-pair-more e h = pair-more 0 e (rw (ne_eqb b 60 h, before_more))

-- the four signs of two bytes
pub a_pair : (b c x y : ℕ) → b ≡ x → c ≡ y → sign_sort (x ∷ y ∷ []) ≡ sign_sort (b ∷ c ∷ [])
a_pair b c x y e g = rw (e, g)
