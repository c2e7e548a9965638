-- Rule 10 at a routine's name: the name means the routine exactly where it could be declared.
use mathlib.Core.Path.{◌≡◌, refl, sym, ap, subst, ◌∙◌}
use mathlib.Core.Bool.{true, false}
use mathlib.Core.List.{List, [], ◌∷◌}
use mathlib.Core.Option.{Option, none, some}
use Prim.Native.Nat.{ℕ, zero, suc, ◌+◌, ◌/◌, ◌%◌, ◌<◌, ◌≤◌}
use native.Mathlib.Omega.{arith}
use lib.ListN.{length, drop}
use borrow.Author.Tests.{ne_eqb}
use Rattle.laws.proofs.Tests.{test, by-same, apart, false-true}
use Rattle.paper.specs.Sorts.{bytes, equal_texts}
use Rattle.paper.specs.Words.{Word}
use Rattle.paper.specs.Trees.{Routine, Module}
use Rattle.paper.specs.Names.{Meaning, unknown, the_routine, routine_in, Text, Names, spelled, look_in, protected, is_among, meaning, cannot_declare}
use Rattle.paper.specs.Declarations.{data_texts, routine_names, module_data, module_scopes}
use Rattle.code.specs.Cells.{op_in, value_in}
use Rattle.check_names.specs.Meanings.{a_routine, is_protected, meaning_with, meaning_in}
use Rattle.check_names.proofs.Spellings.{same-texts, texts-same}
use Rattle.check_heads.specs.Trees.{heads_for, earlier_of}
use Rattle.check_heads.proofs.DataToCome.{not_found}
use Rattle.check_heads.proofs.RoutineNumbers.{heads-length}
use Rattle.check_heads.proofs.NamesOfRoutines.{look-here, look-further, look-found, cannot-here, cannot-further, cannot-protected, cannot-among, names-taken, names-new, data-plain, routine-meant}

-- ---- which routine a cell means
pub kind-routine : (routine : ℕ → ℕ) (cell : ℕ) → op_in cell / 4 ≡ a_routine → meaning_in routine cell ≡ the_routine (routine (value_in cell))
unfolding meaning_in meaning_with
kind-routine routine cell e = ap (λ (kind : ℕ). meaning_with routine kind (cell / 2 % 2) (cell % 2) (value_in cell)) e

is_some : {i j : ℕ} → some i ≡ some j → i ≡ j
is_some e = cc

none-some : {A : Type 0} {j : ℕ} → ◌≡◌ {A = Option ℕ} none (some j) → A
none-some e = apart (cc)

module _ (routine : ℕ → ℕ) (kind bool own value j : ℕ) where
  pub only-routine : routine_in (meaning_with routine kind bool own value) ≡ some j → (kind ≡ a_routine) × (routine value ≡ j)
  unfolding meaning_with routine_in
  only-routine h =
      by-same kind 5 (λ e. (e, is_some (subst (λ (q : ℕ). routine_in (meaning_with routine q bool own value) ≡ some j) e h)))
      (λ d5. by-same kind 1 (λ e. none-some (subst (λ (q : ℕ). routine_in (meaning_with routine q bool own value) ≡ some j) e h))
      (λ d1. by-same kind 2 (λ e. none-some (subst (λ (q : ℕ). routine_in (meaning_with routine q bool own value) ≡ some j) e h))
      (λ d2. by-same kind 3 (λ e. none-some (subst (λ (q : ℕ). routine_in (meaning_with routine q bool own value) ≡ some j) e h))
      (λ d3. by-same kind 4 (λ e. none-some (subst (λ (q : ℕ). routine_in (meaning_with routine q bool own value) ≡ some j) e h))
      (λ d4. by-same kind 6 (λ e. none-some (subst (λ (q : ℕ). routine_in (meaning_with routine q bool own value) ≡ some j) e h))
      (λ d6. by-same kind 7 (λ e. none-some (subst (λ (q : ℕ). routine_in (meaning_with routine q bool own value) ≡ some j) e h))
      (λ d7. none-some (rw (ne_eqb kind 1 d1, ne_eqb kind 2 d2, ne_eqb kind 3 d3, ne_eqb kind 4 d4, ne_eqb kind 5 d5, ne_eqb kind 6 d6, ne_eqb kind 7 d7) at h))))))))

-- ---- names of routines
module _ (W : List Word) where
  -- what came before stays
  cannot-still : (e : List Text) (k : ℕ) (rs : List Routine) (u : Text) → cannot_declare e u ≡ true → cannot_declare (earlier_of W e k rs) u ≡ true
  unfolding earlier_of
  cannot-still e zero rs u h = h
  cannot-still e (suc k) [] u h = h
  cannot-still e (suc k) (r ∷ rs) u h =
      cannot-still (spelled W r.name ∷ e) k rs u
      (test (equal_texts (spelled W r.name) u) (λ t. cannot-here e (spelled W r.name) u t) (λ t. cannot-further e (spelled W r.name) u t ∙ h))

  abbrev SameTaken : (a b : List Text) → Type 0
  SameTaken a b = (u : Text) → cannot_declare a u ≡ cannot_declare b u

  -- a name that is taken adds nothing
  same_taken : (a b : List Text) (text : Text) → SameTaken a b → cannot_declare a text ≡ true → SameTaken a (text ∷ b)
  same_taken a b text s h u =
      test (equal_texts text u)
      (λ t. ap (cannot_declare a) (sym (same-texts text u t)) ∙ h ∙ sym (cannot-here b text u t))
      (λ t. s u ∙ sym (cannot-further b text u t))

  same-added : (a b : List Text) (text : Text) → SameTaken a b → SameTaken (text ∷ a) (text ∷ b)
  same-added a b text s u =
      test (equal_texts text u)
      (λ t. cannot-here a text u t ∙ sym (cannot-here b text u t))
      (λ t. cannot-further a text u t ∙ s u ∙ sym (cannot-further b text u t))

  no_more : {A B : Type 0} {a : A} {l : List A} → [] ≡ a ∷ l → B
  no_more e = apart (cc)

  first_of : {A : Type 0} {a b : A} {l q : List A} → a ∷ l ≡ b ∷ q → a ≡ b
  first_of e = cc

  -- a name that can be declared means its routine
  names-found : (a b : List Text) → SameTaken a b → (j : ℕ) (rs : List Routine) (k : ℕ) (r : Routine) (rest : List Routine) → drop k rs ≡ r ∷ rest
      → cannot_declare (earlier_of W b k rs) (spelled W r.name) ≡ false → (o : Meaning) → look_in (routine_names W a j rs) (spelled W r.name) o ≡ the_routine (j + k)
  unfolding earlier_of
  names-found a b s j [] zero r rest e h o = no_more e
  names-found a b s j [] (suc k) r rest e h o = no_more e
  names-found a b s j (q ∷ rs) zero r rest e h o =
      let text = spelled W r.name in
      let z : j + 0 ≡ j = omega arith in
      let same : q ≡ r = first_of e in
      subst (λ (x : Routine). look_in (routine_names W a j (x ∷ rs)) text o ≡ the_routine (j + 0)) (sym same)
      (ap (λ (N : Names). look_in N text o) (names-new W a j r rs (s text ∙ h))
      ∙ look-here text (the_routine j) (routine_names W (text ∷ a) (suc j) rs) text o (texts-same text text refl) ∙ ap the_routine (sym z))
  names-found a b s j (q ∷ rs) (suc k) r rest e h o =
      let text = spelled W r.name in
      let mine = spelled W q.name in
      let z : suc j + k ≡ j + suc k = omega arith in
      let other : equal_texts mine text ≡ false = test (equal_texts mine text) (λ t. false-true (sym h ∙ cannot-still (mine ∷ b) k rs text (cannot-here b mine text t))) (λ t. t) in
      test (cannot_declare a mine)
      (λ c. ap (λ (N : Names). look_in N text o) (names-taken W a j q rs c) ∙ names-found a (mine ∷ b) (same_taken a b mine s c) (suc j) rs k r rest e h o ∙ ap the_routine z)
      (λ c. ap (λ (N : Names). look_in N text o) (names-new W a j q rs c)
      ∙ look-further mine (the_routine j) (routine_names W (mine ∷ a) (suc j) rs) text o other
      ∙ names-found (mine ∷ a) (mine ∷ b) (same-added a b mine s) (suc j) rs k r rest e h o ∙ ap the_routine z)

  -- ---- their numbers
  names-from : (a : List Text) (j : ℕ) (rs : List Routine) (u : Text) (i : ℕ) → routine_in (look_in (routine_names W a j rs) u unknown) ≡ some i → (j ≤ i) × (i < j + length rs)
  unfolding routine_names look_in routine_in
  names-from a j [] u i h = none-some h
  names-from a j (q ∷ rs) u i h =
      let mine = spelled W q.name in
      test (cannot_declare a mine)
      (λ c. let n = names-from a (suc j) rs u i (sym (ap (λ (N : Names). routine_in (look_in N u unknown)) (names-taken W a j q rs c)) ∙ h) in (omega (arith, n.0), omega (arith, n.1)))
      (λ c. let g : routine_in (look_in ((mine, the_routine j) ∷ routine_names W (mine ∷ a) (suc j) rs) u unknown) ≡ some i = sym (ap (λ (N : Names). routine_in (look_in N u unknown)) (names-new W a j q rs c)) ∙ h in
      test (equal_texts mine u)
      (λ t. let same : j ≡ i = is_some (sym (ap routine_in (look-here mine (the_routine j) (routine_names W (mine ∷ a) (suc j) rs) u unknown t)) ∙ g) in (omega arith, omega arith))
      (λ t. let n = names-from (mine ∷ a) (suc j) rs u i (sym (ap routine_in (look-further mine (the_routine j) (routine_names W (mine ∷ a) (suc j) rs) u unknown t)) ∙ g) in (omega (arith, n.0), omega (arith, n.1))))

  -- a name that can't be declared means another routine, if any
  names-other : (a b : List Text) → SameTaken a b → (j : ℕ) (rs : List Routine) (k : ℕ) (r : Routine) (rest : List Routine) → drop k rs ≡ r ∷ rest
      → cannot_declare (earlier_of W b k rs) (spelled W r.name) ≡ true → routine_in (look_in (routine_names W a j rs) (spelled W r.name) unknown) ≡ some (j + k) → ⊥
  unfolding earlier_of routine_in
  names-other a b s j [] zero r rest e h g = no_more e
  names-other a b s j [] (suc k) r rest e h g = no_more e
  names-other a b s j (q ∷ rs) zero r rest e h g =
      let text = spelled W r.name in
      let c : cannot_declare a (spelled W q.name) ≡ true = ap (λ (x : Routine). cannot_declare a (spelled W x.name)) (first_of e) ∙ s text ∙ h in
      let n = names-from a (suc j) rs text (j + 0) (sym (ap (λ (N : Names). routine_in (look_in N text unknown)) (names-taken W a j q rs c)) ∙ g) in
      omega (arith, n.0)
  names-other a b s j (q ∷ rs) (suc k) r rest e h g =
      let text = spelled W r.name in
      let mine = spelled W q.name in
      let z : j + suc k ≡ suc j + k = omega arith in
      test (cannot_declare a mine)
      (λ c. names-other a (mine ∷ b) (same_taken a b mine s c) (suc j) rs k r rest e h (sym (ap (λ (N : Names). routine_in (look_in N text unknown)) (names-taken W a j q rs c)) ∙ g ∙ ap some z))
      (λ c. let f : routine_in (look_in ((mine, the_routine j) ∷ routine_names W (mine ∷ a) (suc j) rs) text unknown) ≡ some (j + suc k) = sym (ap (λ (N : Names). routine_in (look_in N text unknown)) (names-new W a j q rs c)) ∙ g in
      test (equal_texts mine text)
      (λ t. let same : j ≡ j + suc k = is_some (sym (ap routine_in (look-here mine (the_routine j) (routine_names W (mine ∷ a) (suc j) rs) text unknown t)) ∙ f) in omega arith)
      (λ t. names-other (mine ∷ a) (mine ∷ b) (same-added a b mine s) (suc j) rs k r rest e h
      (sym (ap routine_in (look-further mine (the_routine j) (routine_names W (mine ∷ a) (suc j) rs) text unknown t)) ∙ f ∙ ap some z)))

-- ---- in the module's scopes
-- no protected name is a routine's
pub protected-none : (u : Text) → routine_in (look_in protected u unknown) ≡ none
unfolding protected look_in routine_in
protected-none u =
    test (equal_texts (bytes "ERRNO") u) (λ t. rw (t, look_in))
    (λ a. rw (a, look_in) (test (equal_texts (bytes "ERR_OVERFLOW") u) (λ t. rw (t, look_in))
    (λ b. rw (b, look_in) (test (equal_texts (bytes "ERR_DIVZERO") u) (λ t. rw (t, look_in))
    (λ c. rw (c, look_in) (test (equal_texts (bytes "ERR_OUTOFBND") u) (λ t. rw (t, look_in))
    (λ d. rw (d, look_in) (test (equal_texts (bytes "ERR_ILLRAISE") u) (λ t. rw (t, look_in)) (λ f. rw (f, look_in))))))))))

pub unprotected : (u : Text) (X : Meaning) (i : ℕ) → routine_in (look_in protected u X) ≡ some i → routine_in X ≡ some i
unprotected u X i h =
    test (is_protected u)
    (λ t. none-some (sym (protected-none u) ∙ ap routine_in (look-found protected u unknown X t) ∙ h))
    (λ t. sym (ap routine_in (not_found protected u X t)) ∙ h)

module _ (W : List Word) (m : Module) where
  abbrev T : List Text
  T = data_texts W m.declared

  abbrev N : Names
  N = routine_names W T 0 m.routines

  first-routine : (u : Text) (i : ℕ) → routine_in (meaning (module_scopes W m) u) ≡ some i → routine_in (look_in N u unknown) ≡ some i
  unfolding meaning look_in
  first-routine u i h = unprotected u (look_in N u unknown) i (sym (routine-meant W m u) ∙ h)

  -- every routine that a name means is one of the module's
  pub among-routines : (u : Text) (i : ℕ) → meaning (module_scopes W m) u ≡ the_routine i → i < length (heads_for m.routines)
  unfolding routine_in
  among-routines u i h =
      let n = names-from W T 0 m.routines u i (first-routine u i (ap routine_in h)) in
      omega (arith, n.1, heads-length m.routines)

  module _ (k : ℕ) (r : Routine) (rest : List Routine) (at : drop k m.routines ≡ r ∷ rest) where
    pub name-means : cannot_declare (earlier_of W T k m.routines) (spelled W r.name) ≡ false → meaning (module_scopes W m) (spelled W r.name) ≡ the_routine k
    unfolding meaning module_scopes look_in
    name-means h =
        let u = spelled W r.name in
        let X = look_in N u unknown in
        let bare : is_protected u ≡ false = cannot-protected (earlier_of W T k m.routines) u h in
        let new : is_among T u ≡ false = test (is_among T u) (λ t. false-true (sym h ∙ cannot-still W T k m.routines u (cannot-among T u bare ∙ t))) (λ t. t) in
        let z : 0 + k ≡ k = omega arith in
        not_found protected u (look_in (module_data W m).names u X) bare ∙ (data-plain W m).other u X new ∙ names-found W T T (λ v. refl) 0 m.routines k r rest at h unknown ∙ ap the_routine z

    pub name-other : cannot_declare (earlier_of W T k m.routines) (spelled W r.name) ≡ true → meaning (module_scopes W m) (spelled W r.name) ≡ the_routine k → ⊥
    unfolding routine_in
    name-other h e =
        let z : k ≡ 0 + k = omega arith in
        names-other W T T (λ v. refl) 0 m.routines k r rest at h (first-routine (spelled W r.name) k (ap routine_in e) ∙ ap some z)
