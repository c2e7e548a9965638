-- The answer's two numbers as bytes; a lent listing as cells.
use mathlib.Core.Path.{◌≡◌, refl, sym, ap, ap₂, ◌∙◌}
use mathlib.Core.List.{List, [], ◌∷◌, ◌++◌}
use Prim.Native.Nat.{ℕ, zero, suc, ◌+◌, ◌*◌, ◌≤◌, ◌<◌}
use native.Mathlib.Omega.{arith}
use lib.ListN.{length, drop}
use mir.Syntax.{w32}
use mir.Facts.{of_z-to_z}
use Rattle.laws.specs.Lists.{replaced}
use Rattle.laws.proofs.Lists.{replaced-on}
use Rattle.paper.specs.Answer as paper
use Rattle.paper.specs.Answer.{low_first}
use Rattle.store_cells.specs.Cells.{cells_of, bytes_of, Put}
use Rattle.store_cells.proofs.Laws.{Words}
use Rattle.store_cells.proofs.Paper.{bytes-numbers}
use Rattle.marks.specs.Marks.{entries_of, mark_size, mark_bytes}
use Rattle.call_marking.specs.Carries.{Answers}

pub entries-cells : (b : List ℕ) → entries_of b ≡ cells_of b
unfolding entries_of cells_of
entries-cells [] = refl
entries-cells (a ∷ []) = refl
entries-cells (a ∷ b ∷ []) = refl
entries-cells (a ∷ b ∷ c ∷ []) = refl
entries-cells (a ∷ b ∷ c ∷ d ∷ r) = ap (λ (x : List ℕ). (a + 256 * b + 65536 * c + 16777216 * d) ∷ x) (entries-cells r)

-- ---- the answer
small_word : (v : ℕ) → v < 4294967296 → Words (v ∷ [])
small_word v h zero = h
small_word v h (suc i) = omega arith

four_bytes : (v : ℕ) → v < 4294967296 → bytes_of (v ∷ []) ≡ low_first 4 v
unfolding paper.bytes_of low_first
four_bytes v h = sym (bytes-numbers (v ∷ []) (small_word v h)) ∙ ap (low_first 4) (of_z-to_z {w = w32} (record { fits = h }))

pub answer-put : (a b c : List ℕ) (same index : ℕ) → same < 4294967296 → index < 4294967296 → mark_size ≤ length a → Put a b 0 same → Put b c 1 index → Answers same index a c
unfolding mark_bytes bytes_of
answer-put a b c same index s t h p q =
    let x : List ℕ = bytes_of (same ∷ []) in
    let y : List ℕ = bytes_of (index ∷ []) in
    record {
      bytes = q.bytes
          ∙ ap (λ (l : List ℕ). replaced l 4 y 4) p.bytes
          ∙ replaced-on a x 0 4 refl (omega arith) y 4
          ∙ ap₂ (λ (m n : List ℕ). m ++ n ++ drop mark_size a) (four_bytes same s) (four_bytes index t);
    }
