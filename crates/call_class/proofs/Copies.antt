-- A module's words copied, byte by byte.
use mathlib.Core.Path.{◌≡◌, refl, sym, ap, ◌∙◌}
use mathlib.Core.List.{List, ◌++◌, append_assoc}
use Prim.Native.Nat.{ℕ, suc, ◌+◌, ◌≤◌, ◌<◌}
use native.Mathlib.Numerals.{add-one}
use native.Mathlib.Omega.{arith}
use lib.ListN.{length, get_or, take, drop, set, length-set}
use lib.Seq.{paste, paste-zero, paste-suc, drop-drop}
use borrow.Rule.Slice.PartMut.{put_mid}
use Rattle.laws.specs.Lists.{replaced}
use Rattle.classes.specs.Classes.{data_bytes}
use Rattle.call_class.specs.Parts.{Takes}

-- a part that was lent, and is back
pub part-back : (l m : List ℕ) (a k : ℕ) → put_mid a k l m ≡ replaced l a m k
part-back l m a k = sym (append_assoc (take a l) m (drop k (drop a l))) ∙ ap (λ (x : List ℕ). take a l ++ m ++ x) (drop-drop k a l)

-- j bytes are copied.
pub record Copying (values before after : List ℕ) (at j : ℕ) : Type 0 where
  pub within : j ≤ data_bytes
  pub long : length after ≡ length before
  pub copied : after ≡ paste before at values j

pub copy_start : (values before : List ℕ) (at : ℕ) → Copying values before before at 0
copy_start values before at = record { within = omega arith; long = refl; copied = paste-zero before at values }

pub copy_step : (values before after : List ℕ) (at j : ℕ) → Takes values before at → Copying values before after at j → j < data_bytes
    → Copying values before (set after (at + j) (get_or values j 0)) at (j + 1)
copy_step values before after at j t s h =
    record {
      within = omega arith;
      long = length-set after (at + j) (get_or values j 0) ∙ s.long;
      copied = ap (λ (x : List ℕ). set x (at + j) (get_or values j 0)) s.copied
          ∙ rw add-one (paste-suc before at values j 0 (omega (arith, t.to)) (omega (arith, t.from)));
    }

pub copy-end : (values before after : List ℕ) (at j : ℕ) → Copying values before after at j → data_bytes ≤ j → after ≡ replaced before at (take data_bytes values) data_bytes
copy-end values before after at j s h =
    let q : j ≡ data_bytes = omega (arith, s.within) in
    s.copied ∙ ap (λ (k : ℕ). paste before at values k) q
