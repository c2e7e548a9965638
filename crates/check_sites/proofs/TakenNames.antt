-- A name that cannot be declared: what its cell of the table tells.
use Rattle.layout.specs.Parts.{size_part}
use mathlib.Core.Path.{◌≡◌, refl, sym, ap, ◌∙◌}
use mathlib.Core.Bool.{Bool, true, false}
use mathlib.Core.List.{List, map}
use Prim.Native.Nat.{ℕ, ◌+◌, ◌%◌, ◌<◌, ◌≤◌}
use native.Mathlib.Omega.{arith}
use lib.Dec.{eqb}
use lib.ListN.{get_or}
use borrow.Author.Tests.{ne_eqb}
use Rattle.laws.proofs.Tests.{by-same, by_last}
use Rattle.paper.specs.Words.{Word}
use Rattle.paper.specs.Names.{text_of, Scopes, spelled, is_among, cannot_declare}
use Rattle.store_cells.specs.Cells.{cells_of}
use Rattle.code.specs.Cells.{value_in}
use Rattle.check_names.specs.Numbers.{number_of, IsName}
use Rattle.check_names.specs.Meanings.{a_variable, an_array, a_constant, a_loop, a_routine, an_errno, an_error_number, kind_in, bool_in, own_in, ref_with, meaning_with, meaning_in, is_protected, protects_cell, first_meaning, cell_for, Means}
use Rattle.check_names.specs.Promises.{number_at, Meant, Protects}
use Rattle.check_sites.specs.Sites.{is_own, owned}
use Rattle.check_sites.specs.Parts.{Taken}

-- ---- whose data a cell means
module _ (own : ℕ) (routine : ℕ → ℕ) where
  own-ref : (o value : ℕ) → own < 2 → o < 2 → is_own own (ref_with o value) ≡ eqb o own
  unfolding is_own
  own-ref o value h g =
      by_last o 1 g
      (λ e. by_last own 1 h (λ k. rw (e, k) refl) (λ k. let z : own ≡ 0 = omega arith in rw (e, z) refl))
      (λ e. let y : o ≡ 0 = omega arith in by_last own 1 h (λ k. rw (y, k) refl) (λ k. let z : own ≡ 0 = omega arith in rw (y, z) refl))

  module _ (kind bool o value : ℕ) where
    owned-with : own < 2 → o < 2 → a_variable ≤ kind → kind ≤ a_constant → owned own (meaning_with routine kind bool o value) ≡ eqb o own
    unfolding meaning_with owned
    owned-with h g lo hi =
        by-same kind a_variable (λ e. rw (e, meaning_with) (own-ref o value h g)) (λ a.
        by-same kind an_array (λ e. rw (e, meaning_with) (own-ref o (value % size_part) h g)) (λ b.
        let e : kind ≡ a_constant = omega (arith, a, b) in rw (e, meaning_with) (own-ref o value h g)))

    owned-none : kind < a_variable → owned own (meaning_with routine kind bool o value) ≡ false
    unfolding meaning_with owned
    owned-none l = let e : kind ≡ 0 = omega arith in rw (e, meaning_with) refl

    owned-other : a_constant < kind → owned own (meaning_with routine kind bool o value) ≡ false
    unfolding meaning_with owned
    owned-other lo =
        by-same kind a_loop (λ e. rw (e, meaning_with) refl) (λ a.
        by-same kind a_routine (λ e. rw (e, meaning_with) refl) (λ b.
        by-same kind an_errno (λ e. rw (e, meaning_with) refl) (λ c.
        by-same kind an_error_number (λ e. rw (e, meaning_with) refl) (λ d.
        rw (ne_eqb kind a_variable (λ e. omega arith), ne_eqb kind an_array (λ e. omega arith), ne_eqb kind a_constant (λ e. omega arith), ne_eqb kind a_loop a, ne_eqb kind a_routine b, ne_eqb kind an_errno c, ne_eqb kind an_error_number d, meaning_with) refl))))

  -- what a cell means, by its kind
  means-as : (m kind : ℕ) → kind ≡ kind_in m → meaning_in routine m ≡ meaning_with routine kind (bool_in m) (own_in m) (value_in m)
  unfolding meaning_in
  means-as m kind e = ap (λ (k : ℕ). meaning_with routine k (bool_in m) (own_in m) (value_in m)) (sym e)

-- ---- a name
module _ (code values : List ℕ) (own i m : ℕ) (says : Meant code values i m) (t : Bool) (guard : Protects m t) where
  cell-is : (W : List Word) → number_at (cells_of code) i ≡ number_of W i → m ≡ cell_for W (cells_of values) i
  cell-is W e = says ∙ ap (λ (k : ℕ). get_or (cells_of values) (first_meaning + k) 0) e

  protected-is : (routine : ℕ → ℕ) (W : List Word) (S : Scopes) → Means routine W S (cells_of values) → IsName W i → number_at (cells_of code) i ≡ number_of W i → is_protected (spelled W i) ≡ t
  protected-is routine W S table name e = sym (table.guards i name) ∙ sym (ap protects_cell (cell-is W e)) ∙ sym guard

  pub taken-protected : t ≡ true → Taken code values own i true
  unfolding cannot_declare
  taken-protected h = record { is = λ routine W S N table name e owns. let p : is_protected (spelled W i) ≡ true = protected-is routine W S table name e ∙ h in sym (rw (p, cannot_declare) refl) }

  taken-by : t ≡ false → (r : Bool) → ((routine : ℕ → ℕ) → owned own (meaning_in routine m) ≡ r) → Taken code values own i r
  unfolding cannot_declare
  taken-by h r o = record {
    is = λ routine W S N table name e owns.
        let p : is_protected (spelled W i) ≡ false = protected-is routine W S table name e ∙ h in
        let q : cannot_declare (map text_of N) (spelled W i) ≡ is_among (map text_of N) (spelled W i) = rw (p, cannot_declare) refl in
        sym (q ∙ owns.is (spelled W i) p ∙ ap (owned own) (sym (table.means i name) ∙ sym (ap (meaning_in routine) (cell-is W e))) ∙ o routine);
  }

  module _ (kind : ℕ) (ek : kind ≡ kind_in m) (h : t ≡ false) where
    taken_as : (r : Bool) → ((routine : ℕ → ℕ) → owned own (meaning_with routine kind (bool_in m) (own_in m) (value_in m)) ≡ r) → Taken code values own i r
    taken_as r o = taken-by h r (λ routine. ap (owned own) (means-as own routine m kind ek) ∙ o routine)

    pub not_known : kind < a_variable → Taken code values own i false
    not_known l = taken_as false (λ routine. owned-none own routine kind (bool_in m) (own_in m) (value_in m) l)

    pub not-data : a_constant < kind → Taken code values own i false
    not-data l = taken_as false (λ routine. owned-other own routine kind (bool_in m) (own_in m) (value_in m) l)

    pub data-here : own < 2 → a_variable ≤ kind → kind ≤ a_constant → (o : ℕ) → o ≡ own_in m → Taken code values own i (eqb o own)
    data-here g lo hi o e = rw e (taken_as (eqb (own_in m) own) (λ routine. owned-with own routine kind (bool_in m) (own_in m) (value_in m) g (omega arith) lo hi))
