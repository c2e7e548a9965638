-- Words over bytes: what a change of whole words' bytes is in the list of words, once for any stretch.
use mathlib.Core.Path.{◌≡◌, refl, sym, ap, ap₂, ◌∙◌}
use mathlib.Core.List.{List, [], ◌∷◌, ◌++◌, append_assoc}
use Prim.Native.Nat.{ℕ, zero, suc, ◌+◌, ◌-◌, ◌*◌, ◌≤◌, ◌<◌, ◌/◌, ◌%◌}
use native.Mathlib.Omega.{arith}
use native.Mathlib.Numerals.{add-one}
use lib.ListN.{length, set, get_or, take, drop, replicate, length-append, length-replicate, length-set, get_or-replicate}
use lib.Seq.{sets-eq, set_split, paste, paste-suc, paste-zero, take_all, length-take-le}
use Rattle.store_cells.specs.Cells.{cell, cells_of, bytes_of, replaced, Put, Cleared}

four : (i k : ℕ) → suc i * 4 + k ≡ suc (suc (suc (suc (i * 4 + k))))
four i k = omega arith

four0 : (i : ℕ) → suc i * 4 ≡ suc (suc (suc (suc (i * 4))))
four0 i = omega arith

-- every element is a byte, or a word
abbrev pub Bytes : List ℕ → Type 0
Bytes l = (i : ℕ) → get_or l i 0 < 256

abbrev pub Words : List ℕ → Type 0
Words l = (i : ℕ) → get_or l i 0 < 4294967296

-- ---- words and bytes, there and back

pub length-words : (l : List ℕ) → length (cells_of l) ≡ length l / 4
unfolding cells_of
length-words [] = refl
length-words (a ∷ []) = refl
length-words (a ∷ b ∷ []) = refl
length-words (a ∷ b ∷ c ∷ []) = refl
length-words (a ∷ b ∷ c ∷ d ∷ r) = omega (arith, length-words r)

pub length-bytes : (w : List ℕ) → length (bytes_of w) ≡ length w * 4
unfolding bytes_of
length-bytes [] = refl
length-bytes (v ∷ w) = omega (arith, length-bytes w)

pub words-bytes : (w : List ℕ) → cells_of (bytes_of w) ≡ w
unfolding cells_of bytes_of
words-bytes [] = refl
words-bytes (v ∷ w) = ap₂ (λ (x : ℕ) (y : List ℕ). x ∷ y) (omega arith) (words-bytes w)

-- a part word is left out
pub bytes-words : (l : List ℕ) → Bytes l → bytes_of (cells_of l) ≡ take (length (cells_of l) * 4) l
unfolding cells_of bytes_of
bytes-words [] h = refl
bytes-words (a ∷ []) h = refl
bytes-words (a ∷ b ∷ []) h = refl
bytes-words (a ∷ b ∷ c ∷ []) h = refl
bytes-words (a ∷ b ∷ c ∷ d ∷ r) h =
    let ha : a < 256 = h 0 in
    let hb : b < 256 = h 1 in
    let hc : c < 256 = h 2 in
    let hd : d < 256 = h 3 in
    let ea : cell a b c d % 256 ≡ a = omega arith in
    let qb : cell a b c d / 256 ≡ b + 256 * (c + 256 * d) = omega arith in
    let eb : cell a b c d / 256 % 256 ≡ b = rw qb (omega arith) in
    let qc : cell a b c d / 65536 ≡ c + 256 * d = omega arith in
    let ec : cell a b c d / 65536 % 256 ≡ c = rw qc (omega arith) in
    let ed : cell a b c d / 16777216 ≡ d = omega arith in
    let er = bytes-words r (λ i. h (suc (suc (suc (suc i))))) in
    rw (four0 (length (cells_of r)), ea, eb, ec, ed, er)

-- a word of bytes is below 2^32
pub words_small : (l : List ℕ) → Bytes l → Words (cells_of l)
unfolding cells_of
words_small [] h i = omega arith
words_small (a ∷ []) h i = omega arith
words_small (a ∷ b ∷ []) h i = omega arith
words_small (a ∷ b ∷ c ∷ []) h i = omega arith
words_small (a ∷ b ∷ c ∷ d ∷ r) h zero =
    let ha : a < 256 = h 0 in
    let hb : b < 256 = h 1 in
    let hc : c < 256 = h 2 in
    let hd : d < 256 = h 3 in
    omega arith
words_small (a ∷ b ∷ c ∷ d ∷ r) h (suc i) = words_small r (λ j. h (suc (suc (suc (suc j))))) i

-- ---- parts

pub words_take : (k : ℕ) (l : List ℕ) → cells_of (take (k * 4) l) ≡ take k (cells_of l)
unfolding cells_of
words_take zero l = refl
words_take (suc k) [] = rw (four0 k)
words_take (suc k) (a ∷ []) = rw (four0 k)
words_take (suc k) (a ∷ b ∷ []) = rw (four0 k)
words_take (suc k) (a ∷ b ∷ c ∷ []) = rw (four0 k)
words_take (suc k) (a ∷ b ∷ c ∷ d ∷ r) = rw (four0 k) (ap (λ (x : List ℕ). cell a b c d ∷ x) (words_take k r))

pub words-drop : (k : ℕ) (l : List ℕ) → cells_of (drop (k * 4) l) ≡ drop k (cells_of l)
unfolding cells_of
words-drop zero l = refl
words-drop (suc k) [] = rw (four0 k)
words-drop (suc k) (a ∷ []) = rw (four0 k)
words-drop (suc k) (a ∷ b ∷ []) = rw (four0 k)
words-drop (suc k) (a ∷ b ∷ c ∷ []) = rw (four0 k)
words-drop (suc k) (a ∷ b ∷ c ∷ d ∷ r) = rw (four0 k) (words-drop k r)

pub words_append : (n : ℕ) (x y : List ℕ) → length x ≡ n * 4 → cells_of (x ++ y) ≡ cells_of x ++ cells_of y
unfolding cells_of
words_append n [] y e = refl
words_append n (a ∷ []) y e = absurd (omega arith)
words_append n (a ∷ b ∷ []) y e = absurd (omega arith)
words_append n (a ∷ b ∷ c ∷ []) y e = absurd (omega arith)
words_append n (a ∷ b ∷ c ∷ d ∷ r) y e = ap (λ (x : List ℕ). cell a b c d ∷ x) (words_append (n - 1) r y (omega arith))

pub words-zeros : (n : ℕ) → cells_of (replicate (n * 4) 0) ≡ replicate n 0
unfolding cells_of
words-zeros zero = refl
words-zeros (suc n) = rw (four0 n) (ap (λ (x : List ℕ). 0 ∷ x) (words-zeros n))

-- the bytes of n whole words replaced, in the list of words
pub words-replaced : (l m : List ℕ) (a n : ℕ) → (a + n) * 4 ≤ length l → length m ≡ n * 4
    → cells_of (replaced l (a * 4) m (n * 4)) ≡ replaced (cells_of l) a (cells_of m) n
words-replaced l m a n h e =
    let t : length (take (a * 4) l) ≡ a * 4 = length-take-le (a * 4) l (omega arith) in
    let d : a * 4 + n * 4 ≡ (a + n) * 4 = omega arith in
    words_append (a + n) (take (a * 4) l ++ m) (drop (a * 4 + n * 4) l) (length-append (take (a * 4) l) m ∙ omega arith)
    ∙ ap₂ ◌++◌ (words_append a (take (a * 4) l) m t ∙ ap (λ (x : List ℕ). x ++ cells_of m) (words_take a l))
    (ap (λ (k : ℕ). cells_of (drop k l)) d ∙ words-drop (a + n) l)

-- ---- get

pub get-word : (l : List ℕ) (i : ℕ) → i * 4 + 4 ≤ length l → cell (get_or l (i * 4) 0) (get_or l (i * 4 + 1) 0) (get_or l (i * 4 + 2) 0) (get_or l (i * 4 + 3) 0) ≡ get_or (cells_of l) i 0
unfolding cells_of
get-word [] i h = absurd (omega arith)
get-word (a ∷ []) i h = absurd (omega arith)
get-word (a ∷ b ∷ []) i h = absurd (omega arith)
get-word (a ∷ b ∷ c ∷ []) i h = absurd (omega arith)
get-word (a ∷ b ∷ c ∷ d ∷ r) zero h = refl
get-word (a ∷ b ∷ c ∷ d ∷ r) (suc i) h = rw (four i 1, four i 2, four i 3, four0 i) (get-word r i (omega arith))

-- ---- put

-- four stores, in the order of the code
pub put-law : (l : List ℕ) (i v a b c d : ℕ) → i * 4 + 4 ≤ length l
    → a ≡ v % 256 → b ≡ v / 256 % 256 → c ≡ v / 65536 % 256 → d ≡ v / 16777216
    → Put l (set (set (set (set l (i * 4) a) (i * 4 + 1) b) (i * 4 + 2) c) (i * 4 + 3) d) i v
unfolding cells_of bytes_of
put-law l i v a b c d h ea eb ec ed =
    let o : i * 4 + 1 ≡ suc (i * 4) = omega arith in
    let p : i * 4 + 2 ≡ suc (suc (i * 4)) = omega arith in
    let q : i * 4 + 3 ≡ suc (suc (suc (i * 4))) = omega arith in
    let e : set (set (set (set l (i * 4) a) (i * 4 + 1) b) (i * 4 + 2) c) (i * 4 + 3) d ≡ replaced l (i * 4) (bytes_of (v ∷ [])) 4 =
    rw (q, p, o) (sets-eq (a ∷ b ∷ c ∷ d ∷ []) l (i * 4) h ∙ rw (ea, eb, ec, ed)) in
    record {
      bytes = e;
      words = ap cells_of e ∙ words-replaced l (bytes_of (v ∷ [])) i 1 (omega arith) refl
          ∙ rw (words-bytes (v ∷ []), add-one) (append_assoc (take i (cells_of l)) (v ∷ []) (drop (suc i) (cells_of l)) ∙ sym (set_split (cells_of l) i v (omega (arith, length-words l))));
    }

-- ---- clear

-- the n bytes from a on are 0, j of them so far
pub record Clearing (before bytes : List ℕ) (a n j : ℕ) : Type 0 where
  pub within : j ≤ n
  pub long : length bytes ≡ length before
  pub zeroed : bytes ≡ paste before a (replicate n 0) j

pub clear-start : (before : List ℕ) (a n : ℕ) → Clearing before before a n 0
clear-start before a n = record { within = omega arith; long = refl; zeroed = paste-zero before a (replicate n 0) }

pub clear_step : (before bytes : List ℕ) (a n j : ℕ) → Clearing before bytes a n j → a + n ≤ length before → j < n → Clearing before (set bytes (a + j) 0) a n (j + 1)
clear_step before bytes a n j s h g = record {
  within = omega arith;
  long = length-set bytes (a + j) 0 ∙ s.long;
  zeroed = ap (λ (x : List ℕ). set x (a + j) 0) s.zeroed
      ∙ sym (ap (λ (x : ℕ). set (paste before a (replicate n 0) j) (a + j) x) (get_or-replicate {A = ℕ} n j 0 0 g))
      ∙ rw add-one (paste-suc before a (replicate n 0) j 0 (omega arith) (omega (arith, length-replicate {A = ℕ} n 0)));
}

pub clear-end : (before bytes : List ℕ) (from count j : ℕ) → (from + count) * 4 ≤ length before → count * 4 ≤ j
    → Clearing before bytes (from * 4) (count * 4) j → Cleared before bytes from count
clear-end before bytes from count j h g s =
    let q : j ≡ count * 4 = omega (arith, s.within) in
    let z : List ℕ = replicate (count * 4) 0 in
    let b : bytes ≡ replaced before (from * 4) z (count * 4) = s.zeroed ∙ rw (q, take_all {A = ℕ} (count * 4) z (omega (arith, length-replicate {A = ℕ} (count * 4) 0))) in
    record {
      bytes = b;
      words = ap cells_of b ∙ words-replaced before z from count h (length-replicate (count * 4) 0) ∙ rw (words-zeros count);
    }
