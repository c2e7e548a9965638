-- The names of routines, and what they mean beside those of module data.
use mathlib.Core.Path.{◌≡◌, refl, sym, ap, ◌∙◌}
use mathlib.Core.Bool.{true, false}
use mathlib.Core.List.{List, [], ◌∷◌, map}
use mathlib.Core.Option.{none}
use Prim.Native.Nat.{ℕ, suc}
use lib.IntN.{ℤ}
use Rattle.laws.proofs.Tests.{test, false-true}
use Rattle.paper.specs.Sorts.{equal_texts}
use Rattle.paper.specs.Words.{Word}
use Rattle.paper.specs.Terms.{Ref}
use Rattle.paper.specs.Trees.{Content, variable_data, initial_data, array_data, constant_data, Declared, Routine, Module}
use Rattle.paper.specs.Names.{DataType, type_of, Meaning, unknown, variable, array, constant, the_routine, routine_in, Text, Names, text_of, spelled, look_in, protected, is_among, meaning, cannot_declare, declare}
use Rattle.paper.specs.Types.{Fault}
use Rattle.paper.specs.Declarations.{Data, Filling, declare_name, declare_content, declare_data, no_data, data_texts, routine_names, module_filling, module_data, module_scopes}
use Rattle.check_names.specs.Meanings.{is_protected}
use Rattle.check_names.proofs.Spellings.{same-texts, texts-same}
use Rattle.check_heads.specs.Trees.{first_scopes}

-- ---- looking up
module _ (text : Text) (m : Meaning) (N : Names) where
  pub look-here : (u : Text) (o : Meaning) → equal_texts text u ≡ true → look_in ((text, m) ∷ N) u o ≡ m
  unfolding look_in
  look-here u o t = rw (t, look_in)

  pub look-further : (u : Text) (o : Meaning) → equal_texts text u ≡ false → look_in ((text, m) ∷ N) u o ≡ look_in N u o
  unfolding look_in
  look-further u o t = rw (t, look_in)

pub look-found : (N : Names) (u : Text) (a b : Meaning) → is_among (map text_of N) u ≡ true → look_in N u a ≡ look_in N u b
unfolding look_in is_among
look-found [] u a b h = false-true h
look-found (n ∷ N) u a b h = test (equal_texts n.0 u) (λ t. rw (t, look_in)) (λ t. rw (t, look_in) (look-found N u a b (rw (t, is_among) at h)))

look-routine : (N : Names) (u : Text) (a b : Meaning) → routine_in a ≡ routine_in b → routine_in (look_in N u a) ≡ routine_in (look_in N u b)
unfolding look_in
look-routine [] u a b h = h
look-routine (n ∷ N) u a b h = test (equal_texts n.0 u) (λ t. rw (t, look_in)) (λ t. rw (t, look_in) (look-routine N u a b h))

-- ---- what can be declared
module _ (earlier : List Text) (text : Text) where
  pub cannot-here : (u : Text) → equal_texts text u ≡ true → cannot_declare (text ∷ earlier) u ≡ true
  unfolding cannot_declare is_among
  cannot-here u t = test (is_protected u) (λ p. rw p) (λ p. rw p (rw (t, is_among)))

  pub cannot-further : (u : Text) → equal_texts text u ≡ false → cannot_declare (text ∷ earlier) u ≡ cannot_declare earlier u
  unfolding cannot_declare is_among
  cannot-further u t = rw (t, is_among)

pub cannot-protected : (earlier : List Text) (u : Text) → cannot_declare earlier u ≡ false → is_protected u ≡ false
unfolding cannot_declare
cannot-protected earlier u h = test (is_protected u) (λ t. false-true (sym (rw t at h))) (λ t. t)

pub cannot-among : (earlier : List Text) (u : Text) → is_protected u ≡ false → cannot_declare earlier u ≡ is_among earlier u
unfolding cannot_declare
cannot-among earlier u h = rw h

pub cannot-shielded : (earlier : List Text) (u : Text) → is_protected u ≡ true → cannot_declare earlier u ≡ true
unfolding cannot_declare
cannot-shielded earlier u h = rw h

more-among : (earlier : List Text) (text u : Text) → is_among earlier u ≡ true → is_among (text ∷ earlier) u ≡ true
unfolding is_among
more-among earlier text u h = test (equal_texts text u) (λ t. rw (t, is_among)) (λ t. rw (t, is_among) h)

-- ---- names of routines
module _ (W : List Word) where
  module _ (earlier : List Text) (k : ℕ) (r : Routine) (rs : List Routine) where
    pub names-taken : cannot_declare earlier (spelled W r.name) ≡ true → routine_names W earlier k (r ∷ rs) ≡ routine_names W earlier (suc k) rs
    unfolding routine_names
    names-taken h = rw (h, routine_names)

    pub names-new : cannot_declare earlier (spelled W r.name) ≡ false
        → routine_names W earlier k (r ∷ rs) ≡ (spelled W r.name, the_routine k) ∷ routine_names W (spelled W r.name ∷ earlier) (suc k) rs
    unfolding routine_names
    names-new h = rw (h, routine_names)

  -- no routine takes a name that came before
  pub names-skip : (earlier : List Text) (k : ℕ) (rs : List Routine) (u : Text) (o : Meaning) → is_among earlier u ≡ true → look_in (routine_names W earlier k rs) u o ≡ o
  unfolding look_in routine_names
  names-skip earlier k [] u o h = refl
  names-skip earlier k (r ∷ rs) u o h =
      test (cannot_declare earlier (spelled W r.name))
      (λ c. ap (λ (N : Names). look_in N u o) (names-taken earlier k r rs c) ∙ names-skip earlier (suc k) rs u o h)
      (λ c. ap (λ (N : Names). look_in N u o) (names-new earlier k r rs c)
      ∙ look-further (spelled W r.name) (the_routine k) (routine_names W (spelled W r.name ∷ earlier) (suc k) rs) u o (other c)
      ∙ names-skip (spelled W r.name ∷ earlier) (suc k) rs u o (more-among earlier (spelled W r.name) u h))
    where
      other : cannot_declare earlier (spelled W r.name) ≡ false → equal_texts (spelled W r.name) u ≡ false
      other c = test (equal_texts (spelled W r.name) u)
          (λ t. let e = same-texts (spelled W r.name) u t in false-true (sym (sym (cannot-among earlier (spelled W r.name) (cannot-protected earlier (spelled W r.name) c)) ∙ c) ∙ ap (is_among earlier) e ∙ h)) (λ t. t)

-- ---- names of module data mean no routine
pub record Plain (T : List Text) (N : Names) : Type 0 where
  pub other : (u : Text) (o : Meaning) → is_among T u ≡ false → look_in N u o ≡ o
  pub none_found : (u : Text) (o : Meaning) → routine_in o ≡ none → routine_in (look_in N u o) ≡ none

plain-declare : (T : List Text) (N : Names) (text : Text) (m : Meaning) → Plain T N → is_among T text ≡ true → routine_in m ≡ none → Plain T (declare text m N)
unfolding declare
plain-declare T N text m p h e =
    test (cannot_declare (map text_of N) text) (λ c. rw c p)
    (λ c. rw c (record {
      other = λ u o q. look-further text m N u o (apart_from u q) ∙ p.other u o q;
      none_found = λ u o q. test (equal_texts text u) (λ t. ap routine_in (look-here text m N u o t) ∙ e) (λ t. ap routine_in (look-further text m N u o t) ∙ p.none_found u o q);
    }))
  where
    apart_from : (u : Text) → is_among T u ≡ false → equal_texts text u ≡ false
    apart_from u q = test (equal_texts text u) (λ t. false-true (sym q ∙ ap (is_among T) (sym (same-texts text u t)) ∙ h)) (λ t. t)

module _ (W : List Word) (F : Filling) (T : List Text) where
  plain-name : (i : ℕ) (m : Ref → Meaning) (words : List ℤ) (faults : List Fault) (D : Data) → Plain T D.names → is_among T (spelled W i) ≡ true → ((r : Ref) → routine_in (m r) ≡ none)
      → Plain T (declare_name W F i m words faults D).names
  unfolding declare_name
  plain-name i m words faults D p h e = plain-declare T D.names (spelled W i) (m (F.ref _)) p h (e (F.ref _))

  plain-content : (t : DataType) (i : ℕ) (x : Content) (D : Data) → Plain T D.names → is_among T (spelled W i) ≡ true → Plain T (declare_content W F t i x D).names
  unfolding declare_content routine_in
  plain-content t i variable_data D p h = plain-name i (variable t) _ _ D p h (λ r. refl)
  plain-content t i (initial_data e) D p h = plain-name i (variable t) _ _ D p h (λ r. refl)
  plain-content t i (array_data e) D p h = plain-name i (λ r. array t r _) _ _ D p h (λ r. refl)
  plain-content t i (constant_data e) D p h = plain-name i (constant t) _ _ D p h (λ r. refl)

  plain-data : (ds : List Declared) (D : Data) → Plain T D.names → ((u : Text) → is_among (data_texts W ds) u ≡ true → is_among T u ≡ true) → Plain T (declare_data W F ds D).names
  unfolding declare_data data_texts is_among
  plain-data [] D p h = p
  plain-data (d ∷ ds) D p h =
      plain-data ds (declare_content W F (type_of d.type) d.name d.content D)
      (plain-content (type_of d.type) d.name d.content D p (h (spelled W d.name) (rw (texts-same (spelled W d.name) (spelled W d.name) refl, is_among))))
      (λ u q. h u (test (equal_texts (spelled W d.name) u) (λ t. rw (t, is_among)) (λ t. rw (t, is_among) q)))

plain-none : (T : List Text) → Plain T []
unfolding look_in
plain-none T = record { other = λ u o h. refl; none_found = λ u o h. h }

pub data-plain : (W : List Word) (m : Module) → Plain (data_texts W m.declared) (module_data W m).names
unfolding module_data
data-plain W m = plain-data W (module_filling W (routine_names W (data_texts W m.declared) 0 m.routines)) (data_texts W m.declared) m.declared no_data (plain-none (data_texts W m.declared)) (λ u h. h)

-- Which routine a name means does not depend on the module's data.
pub routine-meant : (W : List Word) (m : Module) (u : Text) → routine_in (meaning (module_scopes W m) u) ≡ routine_in (meaning (first_scopes W m) u)
unfolding meaning module_scopes look_in routine_in
routine-meant W m u =
    look-routine protected u (look_in (module_data W m).names u X) X
    (test (is_among (data_texts W m.declared) u)
    (λ t. let e = names-skip W (data_texts W m.declared) 0 m.routines u unknown t in
    ap (λ (x : Meaning). routine_in (look_in (module_data W m).names u x)) e ∙ (data-plain W m).none_found u unknown refl ∙ sym (ap routine_in e))
    (λ t. ap routine_in ((data-plain W m).other u X t)))
  where
    X : Meaning
    X = look_in (routine_names W (data_texts W m.declared) 0 m.routines) u unknown
