-- What may be missing, by cases.
use mathlib.Core.Path.{◌≡◌, refl, sym, ap}
use mathlib.Core.Option.{Option, none, some}
use Prim.Native.Nat.{ℕ, zero, suc}
use Rattle.code.specs.Holds.{optionally}
use Rattle.code.proofs.Options.{none-some, same_some}

-- a choice by what may be missing
pub none-case : {A B : Type 0} (o : Option A) (a : B) (b : A → B) → o ≡ none → (elim o as (λ _. B) [ none ↦ a | some f ↦ b f ]) ≡ a
none-case none a b e = refl
none-case (some f) a b e = none-some f (sym e)

pub some-case : {A B : Type 0} (o : Option A) (f : A) (a : B) (b : A → B) → o ≡ some f → (elim o as (λ _. B) [ none ↦ a | some f ↦ b f ]) ≡ b f
some-case none f a b e = none-some f e
some-case (some g) f a b e = ap b (same_some g f e)

-- a name of a step is no 0
pub positive : (f : ℕ) → (f ≡ 0 → ⊥) → optionally f ≡ some f
unfolding optionally
positive zero d = absurd (d refl)
positive (suc f) d = refl
