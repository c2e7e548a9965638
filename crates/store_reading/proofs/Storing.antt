-- Numbers loaded from cells, and stored in them.
use mathlib.Core.Path.{◌≡◌, ap, ◌∙◌}
use mathlib.Core.List.{List}
use Prim.Native.Nat.{ℕ, ◌+◌, ◌*◌, ◌<◌, ◌≤◌}
use lib.ListN.{length, set}
use lib.IntN.{ℤ}
use mir.Syntax.{w32, w64}
use mir.Val.{SFits, to_z, of_z}
use mir.Facts.{to_z-of_z, sfits_widen}
use mir.ValLaws.{to_z-Fits}
use Rattle.store_cells.specs.Cells.{cells_of, Put}
use Rattle.store_cells.proofs.Kept.{put-length}
use Rattle.store_numbers.proofs.Whole.{read}
use Rattle.store_reading.specs.Reading.{cell_values, Loaded, Stored}

pub loads : (k n : ℕ) → k < cell_values → k ≡ n → (z : ℤ) → SFits w64 z → z ≡ to_z w32 k → Loaded n (read z)
loads k n h e z s q = rw (to_z-of_z s) (record { is = q ∙ ap (to_z w32) e; small = rw q (to_z-Fits w32 k (record { fits = h })) })

pub stores : (before after : List ℕ) (i : ℕ) (v : ℤ) → i * 4 + 4 ≤ length before → SFits w32 v → (x : ℕ) → x ≡ of_z w32 (to_z w32 (of_z w32 (read v))) → Put before after i x → Stored before after i v
stores before after i v h s x e p = record {
  words = p.words ∙ ap (set (cells_of before) i) (e ∙ ap (λ (z : ℤ). of_z w32 (to_z w32 (of_z w32 z))) (to_z-of_z (sfits_widen {w = w32} {w' = w64} tt s)) ∙ ap (of_z w32) (to_z-of_z s));
  long = put-length p h;
}
