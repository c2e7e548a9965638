-- Equal texts, and the first name of a text.
use mathlib.Core.Path.{◌≡◌, refl, sym, ap, ap₂, ◌∙◌}
use mathlib.Core.Bool.{true, false}
use mathlib.Core.List.{List, [], ◌∷◌, map}
use Prim.Native.Nat.{ℕ, zero, suc, ◌≤◌, ◌<◌}
use native.Mathlib.Omega.{arith}
use lib.Dec.{eqb}
use lib.ListN.{length}
use borrow.Author.Tests.{eqb-true, eq-eqb}
use Rattle.laws.proofs.Tests.{test, by_less, apart, false-true}
use Rattle.paper.specs.Sorts.{folded, equal_texts, NAME}
use Rattle.paper.specs.Words.{Word}
use Rattle.paper.specs.Names.{Text, no_word, nth, sort_in, spelled}
use Rattle.check_names.specs.Numbers.{first_named, number_of, IsName}

-- ---- texts
pub same-texts : (a b : Text) → equal_texts a b ≡ true → a ≡ b
unfolding equal_texts
same-texts [] [] e = refl
same-texts [] (y ∷ b) e = false-true e
same-texts (x ∷ a) [] e = false-true e
same-texts (x ∷ a) (y ∷ b) e =
    test (eqb x y) (λ t. ap₂ (λ (z : ℕ) (r : Text). z ∷ r) (eqb-true x y t) (same-texts a b (rw (t, equal_texts) at e)))
    (λ t. false-true (rw (t, equal_texts) at e))

pub text-itself : (a : Text) → equal_texts a a ≡ true
unfolding equal_texts
text-itself [] = refl
text-itself (x ∷ a) = rw (eq-eqb x x refl, equal_texts) (text-itself a)

pub texts-same : (a b : Text) → a ≡ b → equal_texts a b ≡ true
texts-same a b e = rw (sym e) (text-itself a)

pub texts-differ : (a b : Text) → (a ≡ b → ⊥) → equal_texts a b ≡ false
texts-differ a b d = test (equal_texts a b) (λ t. absurd (d (same-texts a b t))) (λ t. t)

pub differing : (a b : Text) → equal_texts a b ≡ false → a ≡ b → ⊥
differing a b t e = let x : true ≡ false = sym (texts-same a b e) ∙ t in apart (cc)

-- ---- the first name of a text
pub name-inside : (W : List Word) (i : ℕ) → IsName W i → i < length W
unfolding sort_in nth no_word
name-inside [] i h = absurd (omega arith)
name-inside (w ∷ W) zero h = omega arith
name-inside (w ∷ W) (suc i) h = omega (arith, name-inside W i h)

-- it is a name with the text
pub record Named (W : List Word) (text : Text) (i : ℕ) : Type 0 where
  pub name : IsName W i
  pub spells : spelled W i ≡ text

named-on : (w : Word) (W : List Word) (text : Text) (i : ℕ) → Named W text i → Named (w ∷ W) text (suc i)
unfolding sort_in nth spelled
named-on w W text i h = record { name = h.name; spells = h.spells }

named_back : (w : Word) (W : List Word) (text : Text) (i : ℕ) → Named (w ∷ W) text (suc i) → Named W text i
unfolding sort_in nth spelled
named_back w W text i h = record { name = h.name; spells = h.spells }

pub first_found : (W : List Word) (text : Text) → first_named W text < length W → Named W text (first_named W text)
unfolding first_named sort_in nth spelled
first_found [] text h = absurd (omega arith)
first_found (w ∷ W) text h =
    test (eqb w.sort NAME)
    (λ n. test (equal_texts (map folded w.covers) text)
    (λ t. rw (n, first_named) (rw t (record { name = eqb-true w.sort NAME n; spells = same-texts (map folded w.covers) text t })))
    (λ t. rw (n, first_named) (rw t (named-on w W text (first_named W text) (first_found W text (less (rw t at (rw (n, first_named) at h))))))))
    (λ n. rw (n, first_named) (named-on w W text (first_named W text) (first_found W text (less (rw (n, first_named) at h)))))
  where
    less : suc (first_named W text) < suc (length W) → first_named W text < length W
    less k = omega arith

pub first-least : (W : List Word) (text : Text) (i : ℕ) → Named W text i → first_named W text ≤ i
unfolding first_named sort_in nth spelled no_word
first-least [] text i h = absurd (omega (arith, h.name))
first-least (w ∷ W) text zero h = rw (eq-eqb w.sort NAME h.name, first_named) (rw (texts-same (map folded w.covers) text h.spells) (omega arith))
first-least (w ∷ W) text (suc i) h =
    let more = first-least W text i (named_back w W text i h) in
    test (eqb w.sort NAME)
    (λ n. test (equal_texts (map folded w.covers) text) (λ t. rw (n, first_named) (rw t (omega arith))) (λ t. rw (n, first_named) (rw t (omega arith))))
    (λ n. rw (n, first_named) (omega arith))

-- a name that no name with its text comes before
pub first-is : (W : List Word) (text : Text) (i : ℕ) → Named W text i → ((j : ℕ) → j < i → Named W text j → ⊥) → first_named W text ≡ i
first-is W text i h none =
    by_less (first_named W text) i
    (λ l. absurd (none (first_named W text) l (first_found W text (omega (arith, name-inside W i h.name)))))
    (λ l. omega (arith, first-least W text i h))

-- ---- numbers
module _ (W : List Word) (i : ℕ) (n : IsName W i) where
  pub own_name : Named W (spelled W i) i
  own_name = record { name = n; spells = refl }

  pub number-most : number_of W i ≤ i
  number-most = first-least W (spelled W i) i own_name

  pub number-named : Named W (spelled W i) (number_of W i)
  number-named = first_found W (spelled W i) (omega (arith, number-most, name-inside W i n))

-- two names have one number exactly where they have one spelling
pub numbers-same : (W : List Word) (i j : ℕ) → IsName W i → IsName W j → number_of W i ≡ number_of W j → spelled W i ≡ spelled W j
numbers-same W i j n m e = sym (number-named W i n).spells ∙ ap (spelled W) e ∙ (number-named W j m).spells

pub spellings-same : (W : List Word) (i j : ℕ) → spelled W i ≡ spelled W j → number_of W i ≡ number_of W j
spellings-same W i j e = ap (first_named W) e
