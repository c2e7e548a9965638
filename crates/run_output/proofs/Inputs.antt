-- The next input, in num or not.
use mathlib.Core.Path.{◌≡◌, sym, ap, subst, ◌∙◌}
use mathlib.Core.Bool.{true, false}
use mathlib.Core.List.{List}
use Prim.Native.Nat.{ℕ, ◌+◌, ◌<◌}
use native.Mathlib.Omega.{arith}
use lib.ListN.{length, get_or, set}
use lib.IntN.{ℤ, pos, negsuc}
use lib.Signed.{lt_z}
use mir.Syntax.{w32, w64}
use mir.Val.{SFits, of_z}
use mir.Facts.{to_z-of_z}
use Rattle.laws.proofs.Tests.{false-true}
use Rattle.paper.specs.Numbers.{num, value, error, ranged, overflow}
use Rattle.store_numbers.proofs.Whole.{read}
use Rattle.store_cells.specs.Cells.{cells_of}
use Rattle.store_evaluation.specs.Parts.{outside, addresses}
use Rattle.store_evaluation.proofs.Numbers.{outside_low, outside_high, ranged-inside, ranged-outside}
use Rattle.store_reading.specs.Reading.{Stored, Loaded}
use Rattle.code.specs.Windows.{used_cell}
use Rattle.run_output.specs.Output.{with_count, Counted, Takes, Took}

pub take-fits : (values inputs : List ℕ) (used cell : ℕ) → Takes values inputs used cell → length inputs < addresses → used + 1 < addresses
take-fits values inputs used cell t l = omega (arith, t.input)

module _ (values inputs mid : List ℕ) (used cell : ℕ) (t : Takes values inputs used cell) (p : Counted values mid used_cell (used + 1)) (z : ℤ) (s : SFits w64 z) (l : Loaded (get_or (cells_of inputs) used 0) z) where
  refused : outside z ≡ true → Took values mid inputs used cell false
  refused o = record {
    long = p.long;
    small = subst (SFits w32) l.is l.small;
    in-num = λ e. false-true e;
    stored = λ e. false-true e;
    outside = λ e. subst (λ (x : ℤ). ranged num x ≡ error overflow) l.is (ranged-outside z o);
    consumed = λ e. p.words;
  }

  pub take-low : lt_z (read z) (negsuc 8388606) ≡ true → Took values mid inputs used cell false
  take-low h = refused (sym (outside_low z s h))

  module _ (h : lt_z (read z) (negsuc 8388606) ≡ false) where
    pub take-high : lt_z (pos 8388608) (read z) ≡ true → Took values mid inputs used cell false
    take-high g = refused (sym (outside_high z s h) ∙ g)

    pub take_in : lt_z (pos 8388608) (read z) ≡ false → (after : List ℕ) → Stored mid after cell (read z) → Took values after inputs used cell true
    take_in g after q = record {
      long = q.long ∙ p.long;
      small = subst (SFits w32) l.is l.small;
      in-num = λ e. subst (λ (x : ℤ). ranged num x ≡ value x) l.is (ranged-inside z (sym (outside_high z s h) ∙ g));
      stored = λ e. q.words ∙ ap (λ (x : List ℕ). set x cell (of_z w32 (read z))) p.words ∙ ap (λ (x : ℤ). set (with_count (cells_of values) used_cell (used + 1)) cell (of_z w32 x)) (to_z-of_z s ∙ l.is);
      outside = λ e. false-true (sym e);
      consumed = λ e. false-true (sym e);
    }
