-- What a step answers, as numbers; what is left in the lent words.
use mathlib.Core.Path.{◌≡◌, refl, sym, ap, subst, ◌∙◌}
use mathlib.Core.Bool.{Bool, true, false, ◌||◌}
use mathlib.Core.List.{List}
use Prim.Native.Nat.{ℕ, suc, ◌+◌, ◌-◌, ◌*◌, ◌<◌, ◌≤◌}
use native.Mathlib.Omega.{arith}
use lib.Dec.{T, eqb, ltb}
use lib.ListN.{length, drop}
use lib.Seq.{drop-drop}
use lib.IntN.{ℤ, pos, nat_abs}
use lib.Signed.{lt_z, non_neg}
use mir.Syntax.{w64}
use mir.Val.{Fits, SFits}
use mir.Facts.{to_z-of_z}
use borrow.Author.Tests.{lt-ltb, le-ltb, ltb-true, ltb-false, ne_eqb}
use Rattle.laws.proofs.Tests.{by_less, false-true}
use Rattle.std.specs.Prelude.{if◌then◌else◌}
use Rattle.store_numbers.proofs.Whole.{read}
use Rattle.store_cells.specs.Cells.{cells_of}
use Rattle.code.specs.Windows.{written_cell, written_in}
use Rattle.layout.specs.Answers.{answers, lacked}
use Rattle.layout.specs.Rules.{beyond_depth, no_room}
use Rattle.run_machine.specs.Machine.{lacked_by, handed, Here, KeepsRun, Stepped}
use Rattle.run_machine.proofs.States.{count_same}
use Rattle.run_output.proofs.OneLine.{count-is}
use Rattle.run_advancing.specs.Turns.{told, is_lack, written, Leaves}

-- ---- as numbers
module _ (r : ℤ) (s : SFits w64 r) (k : ℕ) (e : r ≡ pos k) where
  pub answer-below : (c : ℕ) → lt_z (read r) (pos c) ≡ true → k < c
  answer-below c t = ltb-true k c (rw (to_z-of_z s, e) at t)

  pub answer-above : (c : ℕ) → lt_z (read r) (pos c) ≡ false → c ≤ k
  answer-above c t = ltb-false k c (rw (to_z-of_z s, e) at t)

  pub answer-is : nat_abs (read r) ≡ k
  answer-is = ap nat_abs (to_z-of_z s ∙ e)

  pub answer-casts : T (non_neg (read r)) × Fits w64 (nat_abs (read r))
  answer-casts =
      let z : read r ≡ pos k = to_z-of_z s ∙ e in
      let f : k < 9223372036854775808 = (rw e at s).sfits in
      rw z (tt, record { fits = omega arith })

pub lacked_by-is : (n : ℕ) → lacked_by n ≡ lacked + answers * (n - beyond_depth)
unfolding lacked_by
lacked_by-is n = refl

-- ---- the test for endings 6 to 8
module _ (r : ℤ) (f : SFits w64 r) where
  pub lack-low : lt_z (read r) (pos lacked) ≡ true → false ≡ is_lack r
  lack-low h = let g : lt_z r (pos lacked) ≡ true = rw (to_z-of_z f) at h in sym (ap (λ (b : Bool). if b then false else lt_z r (pos handed)) g)

  pub lack-high : lt_z (read r) (pos lacked) ≡ false → lt_z (read r) (pos handed) ≡ is_lack r
  lack-high h =
      let g : lt_z r (pos lacked) ≡ false = rw (to_z-of_z f) at h in
      ap (λ (x : ℤ). lt_z x (pos handed)) (to_z-of_z f) ∙ sym (ap (λ (b : Bool). if b then false else lt_z r (pos handed)) g)

-- as numbers
pub lack-range : (m : ℕ) → is_lack (pos m) ≡ true → (lacked ≤ m) × (m < handed)
lack-range m e = by_less m lacked (λ h. false-true (sym (ap (λ (b : Bool). if b then false else ltb m handed) (lt-ltb m lacked h)) ∙ e))
    (λ h. (h, ltb-true m handed (sym (ap (λ (b : Bool). if b then false else ltb m handed) (le-ltb m lacked h)) ∙ e)))

pub lack-outside : (m : ℕ) → is_lack (pos m) ≡ false → lacked ≤ m → m < handed → ⊥
lack-outside m e h g =
    false-true (sym e ∙ ap (λ (b : Bool). if b then false else ltb m handed) (le-ltb m lacked h) ∙ lt-ltb m handed g)

-- ---- the offset that is told
or-false : (b : Bool) → (b || false) ≡ b
or-false true = refl
or-false false = refl

-- endings 1 to 8 but for the first have their place
pub told-plain : (offset : ℕ → ℕ) (n place x : ℕ) → n ≤ no_room → x ≡ offset place → (if eqb n 1 then 0 else x) ≡ told offset n place
told-plain offset n place x h e =
    let o : eqb n 9 ≡ false = ne_eqb n 9 (λ z. omega arith) in
    ap (λ (y : ℕ). if eqb n 1 then 0 else y) e
    ∙ sym (ap (λ (b : Bool). if eqb n 1 || b then 0 else offset place) o ∙ ap (λ (b : Bool). if b then 0 else offset place) (or-false (eqb n 1)))

pub told-there : (offset : ℕ → ℕ) (n place x : ℕ) → n ≤ no_room → 1 < n → x ≡ offset place → x ≡ told offset n place
told-there offset n place x h g e = sym (ap (λ (b : Bool). if b then 0 else x) (ne_eqb n 1 (λ z. omega arith))) ∙ told-plain offset n place x h e

-- ---- what is left in the lent words
-- past a count that is larger still
pub past-on : (c d : ℕ) (out out₀ : List ℕ) → c ≤ d → drop c out ≡ drop c out₀ → drop d out ≡ drop d out₀
past-on c d out out₀ h e =
    let q : c + (d - c) ≡ d = omega arith in
    sym (ap (λ (k : ℕ). drop k out) q) ∙ sym (drop-drop (d - c) c out) ∙ ap (drop (d - c)) e ∙ drop-drop (d - c) c out₀ ∙ ap (λ (k : ℕ). drop k out₀) q

-- by one and then by another
pub leaves-then : (values mid after out out₁ out₂ : List ℕ) → Leaves values mid out out₁ → Leaves mid after out₁ out₂ → Leaves values after out out₂
leaves-then values mid after out out₁ out₂ x y = record {
  long = y.long ∙ x.long;
  out-long = y.out-long ∙ x.out-long;
  grows = omega (arith, x.grows, y.grows);
  fits = y.fits;
  past = y.past ∙ past-on (written mid) (written after) out₁ out y.grows x.past;
}

pub leaves_nothing : (values out : List ℕ) → written values ≤ length out → Leaves values values out out
leaves_nothing values out f = record { long = refl; out-long = refl; grows = omega arith; fits = f; past = refl }

-- by what keeps the counts
pub leaves_kept : (values after out : List ℕ) → length after ≡ length values → KeepsRun (cells_of values) (cells_of after) → written values ≤ length out → Leaves values after out out
leaves_kept values after out long k f =
    let same : written after ≡ written values = count_same (cells_of values) (cells_of after) written_cell (k written_cell (omega arith) (omega arith)) (k (suc written_cell) (omega arith) (omega arith)) in
    record { long = long; out-long = refl; grows = omega (arith, same); fits = omega (arith, same); past = refl }

-- by a step
pub leaves-step : (text code values after inputs out out' : List ℕ) (base last i : ℕ) (r : ℤ) → Here code values base i → Stepped text code values after inputs out out' base last i r → Leaves values after out out'
leaves-step text code values after inputs out out' base last i r h sd =
    let b : written_in h.P h.R (cells_of values) ≡ written values = count-is h.P h.R (cells_of values) in
    let c : written_in h.P h.R (cells_of after) ≡ written after = count-is h.P h.R (cells_of after) in
    record {
      long = sd.long;
      out-long = sd.out-long;
      grows = omega (arith, sd.grows h.P h.R, b, c);
      fits = omega (arith, sd.written h.P h.R, sd.out-long, c);
      past = subst (λ (k : ℕ). drop k out' ≡ drop k out) c (sd.past h.P h.R);
    }
