-- What may be missing: what follows from its being there.
use mathlib.Core.Path.{◌≡◌, refl, sym, ap, subst}
use mathlib.Core.Bool.{Bool, true, false}
use mathlib.Core.Option.{Option, none, some}
use lib.Dec.{T}
use Rattle.code.specs.Spans.{guard, ◌then◌}

is_some : {A : Type 0} → Option A → Bool
is_some none = false
is_some (some a) = true

pub none-some : {A B : Type 0} (a : A) → none ≡ some a → B
unfolding is_some
none-some a e = absurd (subst T (sym (ap is_some e)) tt)

pub same_some : {A : Type 0} (a b : A) → some a ≡ some b → a ≡ b
same_some a b e = cc

pub record Guarded {A : Type 0} (b : Bool) (a x : A) : Type 0 where
  pub holds : b ≡ true
  pub is : a ≡ x

pub guarded : {A : Type 0} (b : Bool) (a x : A) → guard b a ≡ some x → Guarded b a x
unfolding guard
guarded true a x e = record { holds = refl; is = same_some a x e }
guarded false a x e = none-some x e

pub guards : {A : Type 0} (b : Bool) (a x : A) → b ≡ true → a ≡ x → guard b a ≡ some x
unfolding guard
guards b a x h e = rw h (ap some e)

-- one step, and then another
pub record Went {A B : Type 0} (r : Option A) (f : A → Option B) (b : B) : Type 0 where
  pub a : A
  pub first : r ≡ some a
  pub next : f a ≡ some b

pub went : {A B : Type 0} (r : Option A) (f : A → Option B) (b : B) → (r then f) ≡ some b → Went r f b
unfolding ◌then◌
went (some a) f b e = record { a = a; first = refl; next = e }
went none f b e = none-some b e

pub goes : {A B : Type 0} (r : Option A) (f : A → Option B) (a : A) → r ≡ some a → (r then f) ≡ f a
unfolding ◌then◌
goes r f a e = rw e
