-- The numbers of the operators are settled, as far as they are numbers that operators have. (Any higher one is read as XOR.)
use mathlib.Core.Path.{◌≡◌, refl, sym, ap, ap₂, subst, ◌∙◌}
use mathlib.Core.Bool.{Bool, true, false}
use mathlib.Core.List.{List, [], ◌∷◌, map}
use Prim.Native.Nat.{ℕ, zero, suc, ◌<◌}
use native.Mathlib.Omega.{arith}
use lib.Dec.{eqb}
use lib.ListN.{length, get_or}
use borrow.Author.Tests.{eqb-true}
use Rattle.laws.proofs.Tests.{test, by_last, false-true}
use Rattle.code.specs.Spans.{operators, operator_of}

-- the place of a sort among others
unfoldable place_in : List ℕ → ℕ → ℕ
place_in [] s = 0
place_in (t ∷ r) s = elim (eqb t s) [ true ↦ 0 | false ↦ suc (place_in r s) ]

-- Each number below n is the place of its operator.
unfoldable are_places : (n : ℕ) → Bool
are_places zero = true
are_places (suc n) = elim (eqb (place_in operators (operator_of n)) n) [ true ↦ are_places n | false ↦ false ]

is-place : (n k : ℕ) → are_places n ≡ true → k < n → place_in operators (operator_of k) ≡ k
unfolding are_places
is-place zero k e h = absurd (omega arith)
is-place (suc n) k e h =
    test (eqb (place_in operators (operator_of n)) n)
    (λ t. by_last k n h (λ q. subst (λ (i : ℕ). place_in operators (operator_of i) ≡ i) (sym q) (eqb-true (place_in operators (operator_of n)) n t)) (is-place n k (rw (t, are_places) at e)))
    (λ t. false-true (rw (t, are_places) at e))

all-places : are_places (length operators) ≡ true
unfolding are_places place_in operators operator_of
all-places = refl

-- so the operators tell their numbers
told : (l : List ℕ) → ((k : ℕ) → get_or l k 0 < length operators) → map (place_in operators) (map operator_of l) ≡ l
told [] h = refl
told (n ∷ l) h = ap₂ ◌∷◌ (is-place (length operators) n all-places (h 0)) (told l (λ k. h (suc k)))

pub numbers-unique : (r s : List ℕ) → map operator_of r ≡ operators → map operator_of s ≡ operators → ((k : ℕ) → get_or r k 0 < length operators) → ((k : ℕ) → get_or s k 0 < length operators) → r ≡ s
numbers-unique r s p q x y = sym (told r x) ∙ ap (map (place_in operators)) (p ∙ sym q) ∙ told s y
