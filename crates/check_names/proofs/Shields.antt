-- The cells of protected names, and the table before any declaration.
use mathlib.Core.Path.{◌≡◌, refl, ap, ◌∙◌}
use mathlib.Core.Bool.{true}
use mathlib.Core.List.{List, [], ◌∷◌, map}
use Prim.Native.Nat.{ℕ, ◌+◌}
use lib.ListN.{get_or}
use Rattle.laws.proofs.Tests.{test}
use Rattle.paper.specs.Sorts.{equal_texts}
use Rattle.paper.specs.Words.{Word}
use Rattle.paper.specs.Names.{unknown, Text, text_of, Names, spelled, is_among, look_in, protected, meaning}
use Rattle.check_names.specs.Numbers.{first_named, number_of, IsName}
use Rattle.check_names.specs.Meanings.{meaning_with, meaning_in, is_protected, cell_of, protected_cell, protects_cell, first_meaning, cell_for, Means, no_scopes}
use Rattle.check_names.proofs.Spellings.{number-named}

-- each cell says its meaning, and that the name is protected
abbrev Shielded : (routine : ℕ → ℕ) → Names → Type 0
Shielded routine [] = Unit {0}
Shielded routine (n ∷ N) = (meaning_in routine (cell_of n.1) ≡ n.1) × (protects_cell (cell_of n.1) ≡ true) × Shielded routine N

module _ (routine : ℕ → ℕ) (text : Text) where
  look-means : (N : Names) → Shielded routine N → meaning_in routine (cell_of (look_in N text unknown)) ≡ look_in N text unknown
  unfolding look_in cell_of meaning_in meaning_with
  look-means [] h = refl
  look-means (n ∷ N) h = test (equal_texts n.0 text) (λ t. rw (t, look_in) h.0) (λ t. rw (t, look_in) (look-means N h.2))

  look-guards : (N : Names) → Shielded routine N → protects_cell (cell_of (look_in N text unknown)) ≡ is_among (map text_of N) text
  unfolding look_in cell_of is_among
  look-guards [] h = refl
  look-guards (n ∷ N) h = test (equal_texts n.0 text) (λ t. rw (t, look_in, is_among) h.1) (λ t. rw (t, look_in, is_among) (look-guards N h.2))

  shields : Shielded routine protected
  unfolding protected cell_of meaning_in meaning_with
  shields = (refl, refl, (refl, refl, (refl, refl, (refl, refl, (refl, refl, tt)))))

  pub protected-means : meaning_in routine (protected_cell text) ≡ look_in protected text unknown
  unfolding protected_cell
  protected-means = look-means protected shields

  pub protected-guards : protects_cell (protected_cell text) ≡ is_protected text
  unfolding protected_cell
  protected-guards = look-guards protected shields

-- Where the first name of each spelling has its cell, the table is that of no scopes.
pub means-first : (routine : ℕ → ℕ) (W : List Word) (X : List ℕ)
    → ((i : ℕ) → IsName W i → number_of W i ≡ i → get_or X (first_meaning + i) 0 ≡ protected_cell (spelled W i))
    → Means routine W no_scopes X
unfolding meaning look_in
means-first routine W X h = record {
  means = λ i n. ap (meaning_in routine) (cell i n) ∙ protected-means routine (spelled W i);
  guards = λ i n. ap protects_cell (cell i n) ∙ protected-guards routine (spelled W i);
}
  where
    cell : (i : ℕ) → IsName W i → cell_for W X i ≡ protected_cell (spelled W i)
    cell i n =
        let first = number-named W i n in
        h (number_of W i) first.name (ap (first_named W) first.spells) ∙ ap protected_cell first.spells
