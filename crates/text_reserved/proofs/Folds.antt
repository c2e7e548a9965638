-- Letters and other bytes, with letter case folded.
use mathlib.Core.Path.{◌≡◌, refl, sym, ◌∙◌}
use mathlib.Core.Bool.{Bool, true, false, ◌||◌}
use Prim.Native.Nat.{ℕ, ◌+◌, ◌*◌, ◌-◌, ◌/◌, ◌%◌, ◌<◌, ◌≤◌}
use native.Mathlib.Omega.{arith}
use borrow.Author.Tests.{lt-ltb, le-ltb, le-leb, lt-leb}
use Rattle.laws.proofs.Tests.{test, false-true, by_less, by_most}
use Rattle.paper.specs.Sorts.{folded}
use Rattle.paper.specs.Words.{between, letter}
use Rattle.text_reserved.specs.Keys.{Folds}
use Rattle.text_reserved.proofs.Ranges.{range, ranges}

neither : (x y : Bool) → x || y ≡ false → (x ≡ false) × (y ≡ false)
neither true y e = false-true (sym e)
neither false y e = (refl, e)

module _ (b : ℕ) where
  fold-low : b < 97 → folded b ≡ b
  unfolding folded
  fold-low h = rw (lt-ltb b 97 h, folded)

  fold_small : 97 ≤ b → b ≤ 122 → folded b ≡ b - 32
  unfolding folded
  fold_small h g = rw (le-ltb b 97 h, folded) (rw (le-leb b 122 g))

  fold-high : 122 < b → folded b ≡ b
  unfolding folded
  fold-high h = rw (le-ltb b 97 (omega arith), folded) (rw (lt-leb b 122 h))

  by-case {ℓ} : {A : Type ℓ} → letter b ≡ true → (between 65 90 b ≡ true → folded b ≡ b → A) → (97 ≤ b → b ≤ 122 → folded b ≡ b - 32 → A) → A
  unfolding letter
  by-case t capital small =
      test (between 65 90 b) (λ e. let r = range 65 90 b e in capital e (fold-low (omega arith)))
      (λ e. let r = range 97 122 b (rw e at t) in small r.0 r.1 (fold_small r.0 r.1))

  pub fold-capital : letter b ≡ true → between 65 90 (folded b) ≡ true
  fold-capital t = by-case t (λ e f. rw f e) (λ h g f. rw f (ranges 65 90 (b - 32) (omega arith) (omega arith)))

  pub fold-other : letter b ≡ false → between 65 90 (folded b) ≡ false
  unfolding letter
  fold-other t =
      let n = neither _ _ t in
      by_less b 97 (λ h. rw (fold-low h) n.0)
      (λ h. by_most b 122 (λ g. false-true (sym n.1 ∙ ranges 97 122 b h g)) (λ g. rw (fold-high g) n.0))

  -- without the bit that small letters have
  module _ (h : b < 256) where
    same : letter b ≡ true → b % 32 + b / 64 * 64 ≡ folded b
    same t = by-case t (λ e f. let r = range 65 90 b e in rw f (omega arith)) (λ g l f. rw f (omega arith))

    other : letter b ≡ false → between 65 90 (b % 32 + b / 64 * 64) ≡ false
    unfolding letter
    other t =
        test (between 65 90 (b % 32 + b / 64 * 64))
        (λ e. let r = range 65 90 _ e in let n = neither _ _ t in
        by_most b 90 (λ g. false-true (sym n.0 ∙ ranges 65 90 b (omega arith) g)) (λ g. false-true (sym n.1 ∙ ranges 97 122 b (omega arith) (omega arith))))
        (λ e. e)

    pub folds : Folds b (b % 32 + b / 64 * 64)
    folds = record {
      capital = test (letter b) (λ t. rw (same t) (fold-capital t) ∙ sym t) (λ t. other t ∙ sym t);
      same = same;
      byte = omega arith;
    }
