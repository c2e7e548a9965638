-- The protected names, one after another.
use mathlib.Core.Path.{◌≡◌, refl, sym, ◌∙◌}
use mathlib.Core.Bool.{Bool, true, false}
use mathlib.Core.List.{List, [], ◌∷◌, map}
use Prim.Native.Nat.{ℕ, ◌<◌}
use native.Mathlib.Omega.{arith}
use lib.ListN.{length, get_or, drop}
use borrow.Author.Tests.{ne_eqb}
use Rattle.paper.specs.Numbers.{overflow, div_zero, out_of_bound, ill_raise}
use Rattle.paper.specs.Sorts.{bytes, folded, equal_texts}
use Rattle.paper.specs.Names.{look_in, protected}
use Rattle.layout.specs.Kinds.{an_errno, an_error_number, cell_with}
use Rattle.check_names.specs.Meanings.{cell_of, protected_cell}
use Rattle.std.specs.Char.{to_ascii_uppercase}
use Rattle.check_spelling.proofs.Letters.{folds, same_names}

abbrev errno : List ℕ
errno = 69 ∷ 82 ∷ 82 ∷ 78 ∷ 79 ∷ []

abbrev overflows : List ℕ
overflows = 69 ∷ 82 ∷ 82 ∷ 95 ∷ 79 ∷ 86 ∷ 69 ∷ 82 ∷ 70 ∷ 76 ∷ 79 ∷ 87 ∷ []

abbrev divides : List ℕ
divides = 69 ∷ 82 ∷ 82 ∷ 95 ∷ 68 ∷ 73 ∷ 86 ∷ 90 ∷ 69 ∷ 82 ∷ 79 ∷ []

abbrev bounds : List ℕ
bounds = 69 ∷ 82 ∷ 82 ∷ 95 ∷ 79 ∷ 85 ∷ 84 ∷ 79 ∷ 70 ∷ 66 ∷ 78 ∷ 68 ∷ []

abbrev raises : List ℕ
raises = 69 ∷ 82 ∷ 82 ∷ 95 ∷ 73 ∷ 76 ∷ 76 ∷ 82 ∷ 65 ∷ 73 ∷ 83 ∷ 69 ∷ []

module _ (l : List ℕ) (a : Bool) (ea : a ≡ same_names errno l) where
  pub errno-cell : a ≡ true → (cell : ℕ) → cell ≡ cell_with an_errno 0 0 0 → cell ≡ protected_cell (map folded l)
  unfolding protected_cell protected look_in bytes folded cell_of
  errno-cell t cell is = is ∙ rw (sym ea ∙ t, look_in)

  module _ (fa : a ≡ false) (b : Bool) (eb : b ≡ same_names overflows l) where
    pub overflow-cell : b ≡ true → (cell : ℕ) → cell ≡ cell_with an_error_number 0 0 overflow → cell ≡ protected_cell (map folded l)
    unfolding protected_cell protected look_in bytes folded cell_of
    overflow-cell t cell is = is ∙ rw (sym ea ∙ fa, look_in) (rw (sym eb ∙ t, look_in))

    module _ (fb : b ≡ false) (d : Bool) (ed : d ≡ same_names divides l) where
      pub divide-cell : d ≡ true → (cell : ℕ) → cell ≡ cell_with an_error_number 0 0 div_zero → cell ≡ protected_cell (map folded l)
      unfolding protected_cell protected look_in bytes folded cell_of
      divide-cell t cell is = is ∙ rw (sym ea ∙ fa, look_in) (rw (sym eb ∙ fb, look_in) (rw (sym ed ∙ t, look_in)))

      module _ (fd : d ≡ false) (o : Bool) (eo : o ≡ same_names bounds l) where
        pub bound-cell : o ≡ true → (cell : ℕ) → cell ≡ cell_with an_error_number 0 0 out_of_bound → cell ≡ protected_cell (map folded l)
        unfolding protected_cell protected look_in bytes folded cell_of
        bound-cell t cell is = is ∙ rw (sym ea ∙ fa, look_in) (rw (sym eb ∙ fb, look_in) (rw (sym ed ∙ fd, look_in) (rw (sym eo ∙ t, look_in))))

        module _ (fo : o ≡ false) (i : Bool) (ei : i ≡ same_names raises l) where
          pub raise-cell : i ≡ true → (cell : ℕ) → cell ≡ cell_with an_error_number 0 0 ill_raise → cell ≡ protected_cell (map folded l)
          unfolding protected_cell protected look_in bytes folded cell_of
          raise-cell t cell is = is ∙ rw (sym ea ∙ fa, look_in) (rw (sym eb ∙ fb, look_in) (rw (sym ed ∙ fd, look_in) (rw (sym eo ∙ fo, look_in) (rw (sym ei ∙ t, look_in)))))

          pub other-cell : i ≡ false → 0 ≡ protected_cell (map folded l)
          unfolding protected_cell protected look_in bytes folded cell_of
          other-cell t = rw (sym ea ∙ fa, look_in) (rw (sym eb ∙ fb, look_in) (rw (sym ed ∙ fd, look_in) (rw (sym eo ∙ fo, look_in) (rw (sym ei ∙ t, look_in)))))

differs : (s : List ℕ) (x : ℕ) (l : List ℕ) → (69 ≡ folded x → ⊥) → false ≡ same_names (69 ∷ s) (x ∷ l)
unfolding equal_texts folded
differs s x l d = sym (rw (ne_eqb 69 (folded x) d, equal_texts))

-- all of them begin with E
pub not-e : (l : List ℕ) (b : ℕ) → 0 < length l → b ≡ to_ascii_uppercase (get_or l 0 0) → (b ≡ 69 → ⊥) → 0 ≡ protected_cell (map folded l)
not-e [] b h e d = absurd (omega arith)
not-e (x ∷ l) b h e d =
    let no : (s : List ℕ) → false ≡ same_names (69 ∷ s) (x ∷ l) = λ s. differs s x l (λ z. d (folds x b e ∙ sym z)) in
    other-cell (x ∷ l) false (no (drop 1 errno)) refl false (no (drop 1 overflows)) refl false (no (drop 1 divides)) refl false (no (drop 1 bounds)) refl
    false (no (drop 1 raises)) refl
