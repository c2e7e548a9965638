-- How often a loop along links goes on from a word: its measure.
use mathlib.Core.Path.{◌≡◌, sym, ap, ◌∙◌}
use mathlib.Core.Bool.{Bool, true, false}
use Prim.Native.Nat.{ℕ, zero, suc, ◌<◌, ◌≤◌}
use native.Mathlib.Omega.{arith}
use Rattle.laws.proofs.Tests.{test}

module _ (more : ℕ → Bool) (next : ℕ → ℕ) where
  unfoldable pub hops : (fuel j : ℕ) → ℕ
  hops zero j = 0
  hops (suc f) j = elim (more j) [ true ↦ suc (hops f (next j)) | false ↦ 0 ]

  pub hops-on : (f j : ℕ) → more j ≡ true → hops (suc f) j ≡ suc (hops f (next j))
  unfolding hops
  hops-on f j t = rw (t, hops)

  pub hops-end : (f j : ℕ) → more j ≡ false → hops (suc f) j ≡ 0
  unfolding hops
  hops-end f j t = rw (t, hops)

  -- where the fuel is enough, more is no more hops
  pub hops-more : (f g j : ℕ) → hops f j < f → f ≤ g → hops g j ≡ hops f j
  unfolding hops
  hops-more zero g j h k = absurd (omega arith)
  hops-more (suc f) zero j h k = absurd (omega arith)
  hops-more (suc f) (suc g) j h k =
      test (more j)
      (λ t. hops-on g j t ∙ ap suc (hops-more f g (next j) (omega (arith, hops-on f j t)) (omega arith)) ∙ sym (hops-on f j t))
      (λ t. hops-end g j t ∙ sym (hops-end f j t))

  -- a turn takes one
  pub hops-less : (f g j : ℕ) → more j ≡ true → hops f (next j) < f → f < g → hops g (next j) < hops g j
  hops-less f zero j t h k = absurd (omega arith)
  hops-less f (suc g) j t h k = omega (arith, hops-on g j t, hops-more f g (next j) h (omega arith), hops-more f (suc g) (next j) h (omega arith))
