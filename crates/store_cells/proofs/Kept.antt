-- What a change of words leaves as it was, and that a promise allows one outcome alone.
use mathlib.Core.Path.{◌≡◌, refl, sym, ap, ◌∙◌}
use mathlib.Core.List.{List, [], ◌∷◌}
use Prim.Native.Nat.{ℕ, ◌+◌, ◌-◌, ◌*◌, ◌≤◌, ◌<◌}
use native.Mathlib.Omega.{arith}
use lib.ListN.{length, take, drop, replicate, get_or, length-replicate, get_or-replicate}
use lib.Seq.{get_or-set_same, get_or-set_other}
pub use Rattle.laws.proofs.Lists.{replaced-length}
use Rattle.laws.proofs.Lists.{replaced-take, replaced-drop, replaced-at, replaced-below, replaced-above}
use Rattle.store_cells.specs.Cells.{cells_of, bytes_of, Got, Put, Cleared, PutField}
use Rattle.store_cells.proofs.Laws.{length-words}

-- ---- put

module _ {before after : List ℕ} {i v : ℕ} (p : Put before after i v) (h : i * 4 + 4 ≤ length before) where
  four_bytes : length (bytes_of (v ∷ [])) ≡ 4
  unfolding bytes_of
  four_bytes = refl

  pub put-length : length after ≡ length before
  put-length = ap length p.bytes ∙ replaced-length before (bytes_of (v ∷ [])) (i * 4) 4 four_bytes h

  pub put-take : (k : ℕ) → k ≤ i * 4 → take k after ≡ take k before
  put-take k g = ap (take k) p.bytes ∙ replaced-take before (bytes_of (v ∷ [])) (i * 4) 4 four_bytes h k g

  pub put-drop : (k : ℕ) → i * 4 + 4 ≤ k → drop k after ≡ drop k before
  put-drop k g = ap (drop k) p.bytes ∙ replaced-drop before (bytes_of (v ∷ [])) (i * 4) 4 four_bytes h k g

  pub put_same : get_or (cells_of after) i 0 ≡ v
  put_same = ap (λ (w : List ℕ). get_or w i 0) p.words ∙ get_or-set_same (cells_of before) i v 0 (omega (arith, length-words before))

  pub put_other : (j : ℕ) → (j ≡ i → ⊥) → get_or (cells_of after) j 0 ≡ get_or (cells_of before) j 0
  put_other j d = ap (λ (w : List ℕ). get_or w j 0) p.words ∙ get_or-set_other (cells_of before) i j v 0 d

-- ---- clear

module _ {before after : List ℕ} {from count : ℕ} (p : Cleared before after from count) (h : (from + count) * 4 ≤ length before) where
  zeros : List ℕ
  zeros = replicate (count * 4) 0

  pub clear-length : length after ≡ length before
  unfolding zeros
  clear-length = ap length p.bytes ∙ replaced-length before zeros (from * 4) (count * 4) (length-replicate (count * 4) 0) (omega arith)

  pub clear-take : (k : ℕ) → k ≤ from * 4 → take k after ≡ take k before
  unfolding zeros
  clear-take k g = ap (take k) p.bytes ∙ replaced-take before zeros (from * 4) (count * 4) (length-replicate (count * 4) 0) (omega arith) k g

  pub clear-drop : (k : ℕ) → (from + count) * 4 ≤ k → drop k after ≡ drop k before
  unfolding zeros
  clear-drop k g = ap (drop k) p.bytes ∙ replaced-drop before zeros (from * 4) (count * 4) (length-replicate (count * 4) 0) (omega arith) k (omega arith)

  room : from + count ≤ length (cells_of before)
  room = omega (arith, length-words before)

  pub clear_in : (j : ℕ) → j < count → get_or (cells_of after) (from + j) 0 ≡ 0
  clear_in j g =
      ap (λ (w : List ℕ). get_or w (from + j) 0) p.words
      ∙ replaced-at (cells_of before) (replicate count 0) from count (length-replicate count 0) room j 0 g
      ∙ get_or-replicate {A = ℕ} count j 0 0 g

  pub clear-below : (j : ℕ) → j < from → get_or (cells_of after) j 0 ≡ get_or (cells_of before) j 0
  clear-below j g = ap (λ (w : List ℕ). get_or w j 0) p.words ∙ replaced-below (cells_of before) (replicate count 0) from count (length-replicate count 0) room j 0 g

  pub clear_above : (j : ℕ) → from + count ≤ j → get_or (cells_of after) j 0 ≡ get_or (cells_of before) j 0
  clear_above j g = ap (λ (w : List ℕ). get_or w j 0) p.words ∙ replaced-above (cells_of before) (replicate count 0) from count (length-replicate count 0) room j 0 g

-- ---- one outcome

pub get-unique : (bytes : List ℕ) (i v w : ℕ) → Got bytes i v → Got bytes i w → v ≡ w
get-unique bytes i v w p q = p ∙ sym q

pub put-unique : (before a b : List ℕ) (i v : ℕ) → Put before a i v → Put before b i v → a ≡ b
put-unique before a b i v p q = p.bytes ∙ sym q.bytes

pub clear-unique : (before a b : List ℕ) (from count : ℕ) → Cleared before a from count → Cleared before b from count → a ≡ b
clear-unique before a b from count p q = p.bytes ∙ sym q.bytes

pub put-field-unique : (before a b : List ℕ) (i v : ℕ) → PutField before a i v → PutField before b i v → a ≡ b
put-field-unique before a b i v p q = p.bytes ∙ sym q.bytes
