-- How a parser goes on: a bind, a test, a word that is asked for.
use mathlib.Core.Path.{◌≡◌, refl, sym, ap, ◌∙◌}
use mathlib.Core.Bool.{Bool, true, false, ◌||◌}
use Prim.Native.Nat.{ℕ, ◌+◌}
use lib.Dec.{eqb}
use borrow.Author.Tests.{eq-eqb}
use Rattle.laws.proofs.Tests.{false-true}
use Rattle.std.specs.Prelude.{if◌then◌else◌}
use Rattle.paper.specs.Expressions.{Parsed, got, no, ◌>>=◌, is_type, expect, expect_type}

-- p comes to r; or, where D lets it, p refuses a nesting; or its fuel ends at a word that T lets it end at.
pub data Comes (D : Type 0) (T : ℕ → Type 0) {A : Type 0} (p r : Parsed A) : Type 0 where
  exactly : p ≡ r → Comes D T p r
  too-deep : (j : ℕ) → D → p ≡ no 9 j → Comes D T p r
  too_long : (j : ℕ) → T j → p ≡ no 8 j → Comes D T p r

pub either_true : {A : Type 0} (a b : Bool) → (a || b) ≡ true → (a ≡ true → A) → (b ≡ true → A) → A
either_true true b e f g = f refl
either_true false b e f g = g e

module _ {D : Type 0} {T : ℕ → Type 0} where
  pub done : {A : Type 0} {r : Parsed A} → Comes D T r r
  done = exactly refl

  pub through : {A : Type 0} {p q r : Parsed A} → p ≡ q → Comes D T q r → Comes D T p r
  through e (exactly h) = exactly (e ∙ h)
  through e (too-deep j d h) = too-deep j d (e ∙ h)
  through e (too_long j d h) = too_long j d (e ∙ h)

  pub and_then : {A : Type 0} {p q r : Parsed A} → Comes D T p q → Comes D T q r → Comes D T p r
  and_then (exactly e) k = through e k
  and_then (too-deep j d h) k = too-deep j d h
  and_then (too_long j d h) k = too_long j d h

  pub bind-got : {A B : Type 0} (p : Parsed A) (f : A → Parsed B) (a : A) {r : Parsed B} → Comes D T p (got a) → Comes D T (f a) r → Comes D T (p >>= f) r
  unfolding ◌>>=◌
  bind-got p f a (exactly h) g = through (ap (λ q. q >>= f) h) g
  bind-got p f a (too-deep j d h) g = too-deep j d (ap (λ q. q >>= f) h)
  bind-got p f a (too_long j d h) g = too_long j d (ap (λ q. q >>= f) h)

  pub if-true : {A : Type 0} (b : Bool) (x y : Parsed A) {r : Parsed A} → b ≡ true → Comes D T x r → Comes D T (if b then x else y) r
  if-true true x y e h = h
  if-true false x y e h = false-true e

  pub if-false : {A : Type 0} (b : Bool) (x y : Parsed A) {r : Parsed A} → b ≡ false → Comes D T y r → Comes D T (if b then x else y) r
  if-false true x y e h = false-true (sym e)
  if-false false x y e h = h

  pub when_true : {A : Type 0} (b : Bool) (x y : Parsed A) {r : Parsed A} → b ≡ true → Comes D T x r → Comes D T (elim b [ true ↦ x | false ↦ y ]) r
  when_true true x y e h = h
  when_true false x y e h = false-true e

  pub when_false : {A : Type 0} (b : Bool) (x y : Parsed A) {r : Parsed A} → b ≡ false → Comes D T y r → Comes D T (elim b [ true ↦ x | false ↦ y ]) r
  when_false true x y e h = false-true (sym e)
  when_false false x y e h = h

  module _ (W : ℕ → ℕ) {B : Type 0} {r : Parsed B} where
    pub expect-on : (sort at j : ℕ) (f : ℕ → Parsed B) → at + 1 ≡ j → W at ≡ sort → Comes D T (f j) r → Comes D T (expect W sort at >>= f) r
    unfolding expect
    expect-on sort at j f e h g = bind-got (expect W sort at) f j (if-true (eqb (W at) sort) _ _ (eq-eqb (W at) sort h) (exactly (ap got e))) g

    pub type-on : (at j : ℕ) (f : ℕ → Parsed B) → at + 1 ≡ j → is_type (W at) ≡ true → Comes D T (f j) r → Comes D T (expect_type W at >>= f) r
    unfolding expect_type
    type-on at j f e h g = bind-got (expect_type W at) f j (if-true (is_type (W at)) _ _ h (exactly (ap got e))) g
