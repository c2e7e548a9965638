-- A word's two cells written, and the other cells.
use mathlib.Core.Path.{◌≡◌, refl, ap, ap₂, ◌∙◌}
use mathlib.Core.List.{List, [], ◌∷◌}
use Prim.Native.Nat.{ℕ, ◌+◌, ◌*◌, ◌≤◌}
use native.Mathlib.Omega.{arith}
use lib.ListN.{length, take, drop, set, get_or, length-set}
use lib.Seq.{get_or-set_same, get_or-set_other}
use Rattle.laws.specs.Lists.{replaced}
use Rattle.laws.proofs.Lists.{replaced-on, replaced-length, replaced-take, replaced-drop}
use Rattle.store_cells.specs.Cells.{cells_of, bytes_of, Put}
use Rattle.store_cells.proofs.Laws.{length-words}
use Rattle.code.specs.Cells.{head_at, tail_at}
use Rattle.store_writing.specs.Promises.{Rewritten}

-- ---- a word is its head and its tail
pub two-puts : (a b c : List ℕ) (i head tail : ℕ) → i * 8 + 8 ≤ length a → Put a b (i * 2) head → Put b c (i * 2 + 1) tail → Rewritten a c i head tail
unfolding bytes_of
two-puts a b c i head tail h p q =
    let first : i * 2 * 4 ≡ i * 8 = omega arith in
    let second : (i * 2 + 1) * 4 ≡ i * 8 + 4 = omega arith in
    record {
      bytes = q.bytes
          ∙ ap₂ (λ (o : List ℕ) (at : ℕ). replaced o at (bytes_of (tail ∷ [])) 4) (p.bytes ∙ ap (λ (at : ℕ). replaced a at (bytes_of (head ∷ [])) 4) first) second
          ∙ replaced-on a (bytes_of (head ∷ [])) (i * 8) 4 refl (omega arith) (bytes_of (tail ∷ [])) 4;
      words = q.words ∙ ap (λ (w : List ℕ). set w (i * 2 + 1) tail) p.words;
    }

module _ {before after : List ℕ} {i head tail : ℕ} (p : Rewritten before after i head tail) (h : i * 8 + 8 ≤ length before) where
  eight-bytes : length (bytes_of (head ∷ tail ∷ [])) ≡ 8
  unfolding bytes_of
  eight-bytes = refl

  pub rewritten-length : length after ≡ length before
  rewritten-length = ap length p.bytes ∙ replaced-length before (bytes_of (head ∷ tail ∷ [])) (i * 8) 8 eight-bytes h

  pub rewritten-take : (k : ℕ) → k ≤ i * 8 → take k after ≡ take k before
  rewritten-take k g = ap (take k) p.bytes ∙ replaced-take before (bytes_of (head ∷ tail ∷ [])) (i * 8) 8 eight-bytes h k g

  pub rewritten-drop : (k : ℕ) → i * 8 + 8 ≤ k → drop k after ≡ drop k before
  rewritten-drop k g = ap (drop k) p.bytes ∙ replaced-drop before (bytes_of (head ∷ tail ∷ [])) (i * 8) 8 eight-bytes h k g

  pub rewritten-head : head_at (cells_of after) i ≡ head
  rewritten-head =
      ap (λ (w : List ℕ). head_at w i) p.words
      ∙ get_or-set_other (set (cells_of before) (i * 2) head) (i * 2 + 1) (i * 2) tail 0 (λ e. omega arith)
      ∙ get_or-set_same (cells_of before) (i * 2) head 0 (omega (arith, length-words before))

  pub rewritten-tail : tail_at (cells_of after) i ≡ tail
  rewritten-tail =
      ap (λ (w : List ℕ). tail_at w i) p.words
      ∙ get_or-set_same (set (cells_of before) (i * 2) head) (i * 2 + 1) tail 0 (simp length-set (omega (arith, length-words before)))

  -- any cell but the word's own
  pub rewritten-other : (k : ℕ) → (k ≡ i * 2 → ⊥) → (k ≡ i * 2 + 1 → ⊥) → get_or (cells_of after) k 0 ≡ get_or (cells_of before) k 0
  rewritten-other k f g =
      ap (λ (w : List ℕ). get_or w k 0) p.words
      ∙ get_or-set_other (set (cells_of before) (i * 2) head) (i * 2 + 1) k tail 0 g
      ∙ get_or-set_other (cells_of before) (i * 2) k head 0 f

  module _ (j : ℕ) (d : j ≡ i → ⊥) where
    pub rewritten-heads : head_at (cells_of after) j ≡ head_at (cells_of before) j
    rewritten-heads = rewritten-other (j * 2) (λ e. d (omega arith)) (λ e. omega arith)

    pub rewritten-tails : tail_at (cells_of after) j ≡ tail_at (cells_of before) j
    rewritten-tails = rewritten-other (j * 2 + 1) (λ e. omega arith) (λ e. d (omega arith))
