-- Words and numbers as bytes, there and back.
use mathlib.Core.Path.{◌≡◌, refl, sym, ap, ◌∙◌}
use mathlib.Core.List.{List, [], ◌∷◌, ◌++◌, append-nil, append_assoc}
use Prim.Native.Nat.{ℕ, zero, suc, ◌+◌, ◌-◌, ◌*◌, ◌^◌, ◌≤◌, ◌<◌, ◌/◌, ◌%◌}
use native.Mathlib.Omega.{arith}
use lib.ListN.{length, take, drop, replicate, length-append, length-drop, take-append-drop}
use lib.Seq.{take_at, drop_at, length-take-le}
use lib.IntN.{ℤ, pos}
use mir.Syntax.{w32}
use mir.Val.{to_z, of_z}
use mir.ValLaws.{of_z-to_z}
use Rattle.paper.specs.Answer.{cells_of, low_first, bytes_of, record_size, Record, record_bytes, bytes_after}
use Rattle.demands.proofs.Alls.{first_of, rest_of}
use Rattle.demands.specs.Vocabulary.{All, IsByte, number, field_in}

-- four bytes, one by one
four : (k : ℕ) → 4 * suc k ≡ suc (suc (suc (suc (4 * k))))
four k = omega arith

-- ---- numbers
pub length-low : (k n : ℕ) → length (low_first k n) ≡ k
unfolding low_first
length-low zero n = refl
length-low (suc k) n = ap suc (length-low k (n / 256))

-- eight bytes hold every number of 64 bits
number-low : (k n : ℕ) → n < 256 ^ k → number (low_first k n) ≡ n
unfolding number low_first
number-low zero n h = omega arith
number-low (suc k) n h =
    let q : n / 256 < 256 ^ k = omega arith in
    rw (number-low k (n / 256) q) (omega arith)

-- ---- words
pub length-bytes : (w : List ℤ) → length (bytes_of w) ≡ 4 * length w
unfolding bytes_of
length-bytes [] = refl
length-bytes (z ∷ w) = length-append (low_first 4 (of_z w32 z)) (bytes_of w) ∙ omega (arith, length-low 4 (of_z w32 z), length-bytes w)

pub bytes-append : (a b : List ℤ) → bytes_of (a ++ b) ≡ bytes_of a ++ bytes_of b
unfolding bytes_of
bytes-append [] b = refl
bytes-append (z ∷ a) b = ap (low_first 4 (of_z w32 z) ++◌) (bytes-append a b) ∙ sym (append_assoc (low_first 4 (of_z w32 z)) (bytes_of a) (bytes_of b))

pub bytes-zeros : (k : ℕ) → bytes_of (replicate k (pos 0)) ≡ replicate (4 * k) 0
unfolding bytes_of low_first
bytes-zeros zero = refl
bytes-zeros (suc k) = rw (four k) (ap (λ (l : List ℕ). 0 ∷ 0 ∷ 0 ∷ 0 ∷ l) (bytes-zeros k))

pub whole_words : (l : List ℕ) → 4 * length (cells_of l) ≤ length l
unfolding cells_of
whole_words [] = omega arith
whole_words (a ∷ []) = omega arith
whole_words (a ∷ b ∷ []) = omega arith
whole_words (a ∷ b ∷ c ∷ []) = omega arith
whole_words (a ∷ b ∷ c ∷ d ∷ r) = omega (arith, whole_words r)

-- a word of bytes is those bytes again
low_word : (a b c d : ℕ) → IsByte a → IsByte b → IsByte c → IsByte d → low_first 4 (of_z w32 (to_z w32 (a + 256 * b + 65536 * c + 16777216 * d))) ≡ a ∷ b ∷ c ∷ d ∷ []
unfolding low_first
low_word a b c d ha hb hc hd =
    let n = a + 256 * b + 65536 * c + 16777216 * d in
    let e : of_z w32 (to_z w32 n) ≡ n = of_z-to_z w32 n (record { fits = omega arith }) in
    let q₁ : n / 256 ≡ b + 256 * c + 65536 * d = omega arith in
    let q₂ : (b + 256 * c + 65536 * d) / 256 ≡ c + 256 * d = omega arith in
    let q₃ : (c + 256 * d) / 256 ≡ d = omega arith in
    let ea : n % 256 ≡ a = omega arith in
    let eb : (b + 256 * c + 65536 * d) % 256 ≡ b = omega arith in
    let ec : (c + 256 * d) % 256 ≡ c = omega arith in
    let ed : d % 256 ≡ d = omega arith in
    rw e (rw (ea, q₁, q₂, q₃, eb, ec, ed))

-- The bytes of the words from k on, and a part word, are the bytes from 4 k on.
pub words-past : (k : ℕ) (l : List ℕ) → All IsByte l → k ≤ length (cells_of l) → bytes_of (drop k (cells_of l)) ++ drop (4 * length (cells_of l)) l ≡ drop (4 * k) l
unfolding cells_of bytes_of
words-past zero [] h g = refl
words-past zero (a ∷ []) h g = refl
words-past zero (a ∷ b ∷ []) h g = refl
words-past zero (a ∷ b ∷ c ∷ []) h g = refl
words-past zero (a ∷ b ∷ c ∷ d ∷ r) h g =
    let hb = rest_of h in
    let hc = rest_of hb in
    let hd = rest_of hc in
    rw (low_word a b c d (first_of h) (first_of hb) (first_of hc) (first_of hd), four (length (cells_of r)))
    (ap (λ (x : List ℕ). a ∷ b ∷ c ∷ d ∷ x) (words-past zero r (rest_of hd) (omega arith)))
words-past (suc k) [] h g = absurd (omega arith)
words-past (suc k) (a ∷ []) h g = absurd (omega arith)
words-past (suc k) (a ∷ b ∷ []) h g = absurd (omega arith)
words-past (suc k) (a ∷ b ∷ c ∷ []) h g = absurd (omega arith)
words-past (suc k) (a ∷ b ∷ c ∷ d ∷ r) h g = rw (four (length (cells_of r)), four k) (words-past k r (rest_of (rest_of (rest_of (rest_of h)))) (omega arith))

-- ---- parts: the bytes of the first k words, and of the rest
module _ (k : ℕ) (w : List ℤ) (x : List ℕ) (h : k ≤ length w) where
  front_bytes : length (bytes_of (take k w)) ≡ 4 * k
  front_bytes = length-bytes (take k w) ∙ ap (4 *◌) (length-take-le k w h)

  split-bytes : bytes_of w ++ x ≡ bytes_of (take k w) ++ (bytes_of (drop k w) ++ x)
  split-bytes =
      ap (λ (v : List ℤ). bytes_of v ++ x) (sym (take-append-drop k w))
      ∙ ap (◌++ x) (bytes-append (take k w) (drop k w))
      ∙ append_assoc (bytes_of (take k w)) (bytes_of (drop k w)) x

  pub take-bytes : take (4 * k) (bytes_of w ++ x) ≡ bytes_of (take k w)
  take-bytes = ap (take (4 * k)) split-bytes ∙ take_at (bytes_of (take k w)) (bytes_of (drop k w) ++ x) (4 * k) front_bytes

  pub drop-bytes : drop (4 * k) (bytes_of w ++ x) ≡ bytes_of (drop k w) ++ x
  drop-bytes = ap (drop (4 * k)) split-bytes ∙ drop_at (bytes_of (take k w)) (bytes_of (drop k w) ++ x) (4 * k) front_bytes

-- ---- a store of bytes l whose whole words are w now
module _ (w : List ℤ) (l : List ℕ) (same : length w ≡ length (cells_of l)) where
  pub after-length : length (bytes_after w l) ≡ length l
  unfolding bytes_after
  after-length =
      length-append (bytes_of w) (drop (4 * length w) l) ∙ omega (arith, length-bytes w, length-drop (4 * length w) l, whole_words l)

  pub after-past : (k : ℕ) → k ≤ length w → All IsByte l → drop k w ≡ drop k (cells_of l) → drop (4 * k) (bytes_after w l) ≡ drop (4 * k) l
  unfolding bytes_after
  after-past k h b e =
      drop-bytes k w (drop (4 * length w) l) h
      ∙ ap (λ (v : List ℤ). bytes_of v ++ drop (4 * length w) l) e
      ∙ ap (λ (n : ℕ). bytes_of (drop k (cells_of l)) ++ drop (4 * n) l) same
      ∙ words-past k l b (omega arith)

  pub after-zeros : (k n : ℕ) → k ≤ length w → n ≤ k → drop n (take k w) ≡ replicate (k - n) (pos 0) → drop (4 * n) (take (4 * k) (bytes_after w l)) ≡ replicate (4 * (k - n)) 0
  unfolding bytes_after
  after-zeros k n h g e =
      ap (drop (4 * n)) (take-bytes k w (drop (4 * length w) l) h ∙ sym (append-nil (bytes_of (take k w))))
      ∙ drop-bytes n (take k w) [] (rw (length-take-le k w h) g)
      ∙ append-nil (bytes_of (drop n (take k w)))
      ∙ ap bytes_of e
      ∙ bytes-zeros (k - n)

pub after_same : (l : List ℕ) → All IsByte l → bytes_after (cells_of l) l ≡ l
unfolding bytes_after
after_same l b = words-past 0 l b (omega arith)

-- ---- the record
pub length-record : (f : Record) → length (record_bytes f) ≡ record_size
unfolding record_bytes low_first
length-record f = refl

module _ (f : Record) (x : List ℕ) where
  pub ending-in : f.ending < 2 ^ 64 → field_in 0 (record_bytes f ++ x) ≡ f.ending
  unfolding record_bytes low_first field_in
  ending-in h = number-low 8 f.ending h

  pub steps-in : f.steps < 2 ^ 64 → field_in 3 (record_bytes f ++ x) ≡ f.steps
  unfolding record_bytes low_first field_in
  steps-in h = number-low 8 f.steps h

  pub output-in : f.output < 2 ^ 64 → field_in 5 (record_bytes f ++ x) ≡ f.output
  unfolding record_bytes low_first field_in
  output-in h = number-low 8 f.output h

  pub inputs_in : f.inputs < 2 ^ 64 → field_in 6 (record_bytes f ++ x) ≡ f.inputs
  unfolding record_bytes low_first field_in
  inputs_in h = number-low 8 f.inputs h

  pub words-in : f.words < 2 ^ 64 → field_in 7 (record_bytes f ++ x) ≡ f.words
  unfolding record_bytes low_first field_in
  words-in h = number-low 8 f.words h
