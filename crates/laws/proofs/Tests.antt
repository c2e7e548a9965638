-- What a test says, splits by a test, and what cannot be.
use mathlib.Core.Path.{◌≡◌, refl}
use mathlib.Core.Bool.{Bool, true, false}
use Prim.Native.Nat.{ℕ, suc, ◌<◌, ◌≤◌}
use native.Mathlib.Omega.{arith}
use lib.Dec.{eqb, ltb, leb}
use borrow.Author.Tests.{eqb-true, eqb-false, ltb-true, ltb-false, leb-true, leb-false}

-- ---- splits

-- a test, with what it says
pub test {ℓ} : {A : Type ℓ} (b : Bool) → (b ≡ true → A) → (b ≡ false → A) → A
test true f g = f refl
test false f g = g refl

-- two numbers, by the tests that compare them
module _ {ℓ} {A : Type ℓ} (a b : ℕ) where
  pub by_less : (a < b → A) → (b ≤ a → A) → A
  by_less f g = test (ltb a b) (λ t. f (ltb-true a b t)) (λ t. g (ltb-false a b t))

  pub by_most : (a ≤ b → A) → (b < a → A) → A
  by_most f g = test (leb a b) (λ t. f (leb-true a b t)) (λ t. g (leb-false a b t))

  pub by-same : (a ≡ b → A) → ((a ≡ b → ⊥) → A) → A
  by-same f g = test (eqb a b) (λ t. f (eqb-true a b t)) (λ t. g (eqb-false a b t))

-- a number below n + 1 is below n, or n
pub by_last {ℓ} : {A : Type ℓ} (i n : ℕ) → i < suc n → (i ≡ n → A) → (i < n → A) → A
by_last i n h f g = by-same i n f (λ d. g (below d))
  where
    below : (i ≡ n → ⊥) → i < n
    below d = omega (arith, d)

-- ---- what cannot be

-- two constructors are not equal: `apart (cc)`
pub apart {ℓ} : {A : Type ℓ} → ◌≡◌ {A = ℕ} 0 1 → A
apart z = absurd (omega arith)

pub false-true {ℓ} : {A : Type ℓ} → false ≡ true → A
false-true e = apart (cc)
