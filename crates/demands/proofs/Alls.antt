-- Properties that each of a list has.
use mathlib.Core.List.{List, [], ◌∷◌, ◌++◌}
use Prim.Native.Nat.{ℕ, zero, suc, ◌<◌}
use native.Mathlib.Omega.{arith}
use lib.ListN.{length, get_or}
use Rattle.demands.specs.Vocabulary.{All, nothing, ◌also◌, Among, here, there}

module _ {A : Type 0} {Q : A → Type 0} where
  infixl 4 ◌and◌
  pub ◌and◌ : {a b : List A} → All Q a → All Q b → All Q (a ++ b)
  nothing and g = g
  (h also r) and g = h also (r and g)

  pub first_of : {a : A} {r : List A} → All Q (a ∷ r) → Q a
  first_of (h also r) = h

  pub rest_of : {a : A} {r : List A} → All Q (a ∷ r) → All Q r
  rest_of (h also r) = r

-- ---- parts
pub front_of : {A : Type 0} {Q : A → Type 0} (a b : List A) → All Q (a ++ b) → All Q a
front_of [] b h = nothing
front_of (x ∷ a) b h = first_of h also front_of a b (rest_of h)

pub back-of : {A : Type 0} {Q : A → Type 0} (a b : List A) → All Q (a ++ b) → All Q b
back-of [] b h = h
back-of (x ∷ a) b h = back-of a b (rest_of h)

pub all_map : {A : Type 0} {Q S : A → Type 0} {l : List A} → ((a : A) → Q a → S a) → All Q l → All S l
all_map f nothing = nothing
all_map f (h also r) = f _ h also all_map f r

-- what holds of each holds of one among them
pub one-among : {A : Type 0} (Q : A → Type 0) {a : A} {l : List A} → All Q l → Among a l → Q a
one-among Q nothing m = elim m [ ]
one-among Q (h also r) here = h
one-among Q (h also r) (there m) = one-among Q r m

-- an element of a list
pub one_at : {A : Type 0} (Q : A → Type 0) (l : List A) (k : ℕ) (d : A) → All Q l → k < length l → Q (get_or l k d)
one_at Q [] k d h g = absurd (omega arith)
one_at Q (a ∷ l) zero d h g = first_of h
one_at Q (a ∷ l) (suc k) d h g = one_at Q l k d (rest_of h) (omega arith)
