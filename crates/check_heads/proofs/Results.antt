-- What later passes take from this one: the words are still known, and rule 10 at a routine's name is told by its cell.
use mathlib.Core.Path.{◌≡◌, refl, sym, ap, ◌∙◌}
use mathlib.Core.Bool.{true, false}
use mathlib.Core.List.{List, [], ◌∷◌}
use mathlib.Core.Option.{none, some}
use Prim.Native.Nat.{ℕ, zero, suc, ◌+◌, ◌*◌, ◌/◌, ◌<◌}
use native.Mathlib.Omega.{arith}
use Rattle.std.specs.Prelude.{Option}
use lib.ListN.{length, drop}
use borrow.Author.Tests.{ne_eqb}
use Rattle.laws.proofs.Tests.{test, apart, false-true}
use Rattle.paper.specs.Sorts.{equal_texts, NAME, NUMBER, STRING}
use Rattle.paper.specs.Words.{Word}
use Rattle.paper.specs.Trees.{Routine, Module}
use Rattle.paper.specs.Expressions.{is_type, starts_routine}
use Rattle.paper.specs.Names.{Meaning, unknown, variable, array, constant, loop, the_routine, the_errno, error_number, routine_in, Text, Names, nth, sort_in, spelled, look_in, protected, is_among, meaning, cannot_declare}
use Rattle.paper.specs.Declarations.{data_texts, routine_names, module_scopes}
use Rattle.store_cells.specs.Cells.{cells_of}
use Rattle.code.specs.Cells.{op_at, value_at}
use Rattle.check_names.specs.Numbers.{number_of, IsName}
use Rattle.check_names.specs.Meanings.{is_protected}
use Rattle.check_names.specs.Promises.{number_at}
use Rattle.check_names.proofs.Spellings.{same-texts, texts-same}
use Rattle.check_load.specs.Layout.{head_value, words_in}
use Rattle.check_load.proofs.Bounds.{reading-good}
use Rattle.check_heads.specs.Stores.{is_valued}
use Rattle.check_heads.specs.Trees.{first_scopes, earlier_of}
use Rattle.check_heads.specs.Reads.{Begins, Foretells}
use Rattle.check_heads.proofs.Frames.{lain-kept}
use Rattle.check_heads.proofs.DataToCome.{not_found}
use Rattle.check_heads.proofs.NamesOfRoutines.{look-here, look-further, look-found, names-taken, names-new, cannot-protected, cannot-among, cannot-shielded, routine-meant}
use Rattle.check_heads.proofs.NamesTaken.{protected-plain}
use Rattle.check_heads.proofs.WholePass.{begins-lain}

-- ---- words
module _ {text code values code' values' : List ℕ} {r : Option ℕ} (g : Begins text code values) (f : Foretells text code values code' values' r g.stands.words g.m) where
  pub heads-sorts : (i : ℕ) → i < length (words_in text) → op_at (cells_of code') i ≡ sort_in (words_in text) i
  heads-sorts = (lain-kept f.marked (words_in text) (begins-lain g)).sorts

  pub heads-numbers : (i : ℕ) → IsName (words_in text) i → number_at (cells_of code') i ≡ number_of (words_in text) i
  heads-numbers = (lain-kept f.marked (words_in text) (begins-lain g)).numbers

  pub heads-values : (i : ℕ) → i < length (words_in text) → sort_in (words_in text) i ≡ NUMBER → value_at (cells_of code') i ≡ (nth (words_in text) i).value
  unfolding head_value is_valued is_type starts_routine sort_in
  heads-values i l n =
      ap (λ (x : ℕ). x / 256) (f.marked.heads i (ap is_valued ((begins-lain g).sorts i l ∙ n)) ∙ g.heads i l)
      ∙ rw (ne_eqb (nth (words_in text) i).sort NAME (λ e. omega (arith, n))) (rw (ne_eqb (nth (words_in text) i).sort STRING (λ e. omega (arith, n))) (high (nth (words_in text) i).sort (nth (words_in text) i).value (reading-good text i l).sizes.sorts))
    where
      high : (s v : ℕ) → s < 128 → (s + 256 * v) / 256 ≡ v
      high s v h = omega arith

-- ---- rule 10 at the name of a routine
-- a protected name means no routine
shielded-plain : (u : Text) → is_protected u ≡ true → (o : Meaning) → routine_in (look_in protected u o) ≡ none
unfolding routine_in
shielded-plain u p o = ap routine_in (look-found protected u o unknown p) ∙ protected-plain u unknown refl

routine-is : (x : Meaning) (k : ℕ) → routine_in x ≡ some k → x ≡ the_routine k
unfolding routine_in
routine-is unknown k e = apart (cc)
routine-is (variable t r) k e = apart (cc)
routine-is (array t r n) k e = apart (cc)
routine-is (constant t r) k e = apart (cc)
routine-is (loop r) k e = apart (cc)
routine-is (the_routine q) k e = cc
routine-is the_errno k e = apart (cc)
routine-is (error_number n) k e = apart (cc)

module _ (W : List Word) where
  -- the names before the next routine
  pub earlier-next : (b : List Text) (k : ℕ) (rs : List Routine) (r : Routine) (rest : List Routine) → drop k rs ≡ r ∷ rest → earlier_of W b (suc k) rs ≡ spelled W r.name ∷ earlier_of W b k rs
  unfolding earlier_of
  earlier-next b zero [] r rest e = apart (cc)
  earlier-next b (suc k) [] r rest e = apart (cc)
  earlier-next b zero (x ∷ rs) r rest e = let q : x ≡ r = cc in ap (λ (y : Routine). spelled W y.name ∷ b) q
  earlier-next b (suc k) (x ∷ rs) r rest e = earlier-next (spelled W x.name ∷ b) k rs r rest e

  -- what came before, in both forms: by the names that were taken, and by all
  record Alike (a b : List Text) : Type 0 where
    pub same : (u : Text) → is_protected u ≡ false → is_among a u ≡ is_among b u

  alike-cannot : (a b : List Text) → Alike a b → (u : Text) → cannot_declare a u ≡ cannot_declare b u
  alike-cannot a b h u =
      test (is_protected u) (λ p. cannot-shielded a u p ∙ sym (cannot-shielded b u p)) (λ p. cannot-among a u p ∙ h.same u p ∙ sym (cannot-among b u p))

  alike_both : (a b : List Text) (t : Text) → Alike a b → Alike (t ∷ a) (t ∷ b)
  unfolding is_among
  alike_both a b t h = record { same = λ u p. test (equal_texts t u) (λ q. rw (q, is_among)) (λ q. rw (q, is_among) (h.same u p)) }

  alike-one : (a b : List Text) (t : Text) → Alike a b → cannot_declare a t ≡ true → Alike a (t ∷ b)
  unfolding is_among
  alike-one a b t h c = record {
    same = λ u p. test (equal_texts t u)
        (λ q. rw (q, is_among) (let e = same-texts t u q in sym (cannot-among a u p) ∙ ap (cannot_declare a) (sym e) ∙ c))
        (λ q. rw (q, is_among) (h.same u p));
  }

  none-later : (earlier : List Text) (k n : ℕ) (rs : List Routine) (u : Text) → k < n → look_in (routine_names W earlier n rs) u unknown ≡ the_routine k → ⊥
  unfolding look_in routine_names
  none-later earlier k n [] u h e = apart (cc)
  none-later earlier k n (r ∷ rs) u h e =
      test (cannot_declare earlier (spelled W r.name))
      (λ c. none-later earlier k (suc n) rs u (omega arith) (ap (λ (N : Names). look_in N u unknown) (sym (names-taken W earlier n r rs c)) ∙ e))
      (λ c. test (equal_texts (spelled W r.name) u)
      (λ t. absurd (omega (arith, same n k (sym (look-here (spelled W r.name) (the_routine n) (routine_names W (spelled W r.name ∷ earlier) (suc n) rs) u unknown t) ∙ ap (λ (N : Names). look_in N u unknown) (sym (names-new W earlier n r rs c)) ∙ e))))
      (λ t. none-later (spelled W r.name ∷ earlier) k (suc n) rs u (omega arith)
      (sym (look-further (spelled W r.name) (the_routine n) (routine_names W (spelled W r.name ∷ earlier) (suc n) rs) u unknown t) ∙ ap (λ (N : Names). look_in N u unknown) (sym (names-new W earlier n r rs c)) ∙ e)))
    where
      same : (a b : ℕ) → the_routine a ≡ the_routine b → a ≡ b
      same a b q = cc

  -- a text that can be declared behind others is none of them
  earlier-among : (t : Text) (b : List Text) (k : ℕ) (rs : List Routine) → is_among b t ≡ true → is_among (earlier_of W b k rs) t ≡ true
  unfolding earlier_of is_among
  earlier-among t b zero rs h = h
  earlier-among t b (suc k) [] h = h
  earlier-among t b (suc k) (x ∷ rs) h = earlier-among t (spelled W x.name ∷ b) k rs (test (equal_texts (spelled W x.name) t) (λ q. rw (q, is_among)) (λ q. rw (q, is_among) h))

  earlier-apart : (t : Text) (b : List Text) (k : ℕ) (rs : List Routine) (u : Text) → cannot_declare (earlier_of W (t ∷ b) k rs) u ≡ false → equal_texts t u ≡ false
  unfolding is_among
  earlier-apart t b k rs u c =
      test (equal_texts t u)
      (λ q. let e = same-texts t u q in
      false-true (sym (sym (cannot-among (earlier_of W (t ∷ b) k rs) u (cannot-protected (earlier_of W (t ∷ b) k rs) u c)) ∙ c) ∙ earlier-among u (t ∷ b) k rs (rw (q, is_among))))
      (λ q. q)

  -- its own, and no other's
  own_in : (a b : List Text) (n : ℕ) (rs : List Routine) (k : ℕ) (r : Routine) (rest : List Routine) → Alike a b → drop k rs ≡ r ∷ rest → cannot_declare (earlier_of W b k rs) (spelled W r.name) ≡ false
      → look_in (routine_names W a n rs) (spelled W r.name) unknown ≡ the_routine (n + k)
  unfolding earlier_of
  own_in a b n [] zero r rest h e c = apart (cc)
  own_in a b n [] (suc k) r rest h e c = apart (cc)
  own_in a b n (x ∷ rs) zero r rest h e c =
      let q : x ≡ r = cc in
      let z : n + 0 ≡ n = omega arith in
      let d : cannot_declare a (spelled W x.name) ≡ false = ap (λ (y : Routine). cannot_declare a (spelled W y.name)) q ∙ alike-cannot a b h (spelled W r.name) ∙ c in
      rw z (ap (λ (N : Names). look_in N (spelled W r.name) unknown) (names-new W a n x rs d)
      ∙ look-here (spelled W x.name) (the_routine n) (routine_names W (spelled W x.name ∷ a) (suc n) rs) (spelled W r.name) unknown (texts-same (spelled W x.name) (spelled W r.name) (ap (λ (y : Routine). spelled W y.name) q)))
  own_in a b n (x ∷ rs) (suc k) r rest h e c =
      let z : n + suc k ≡ suc n + k = omega arith in
      rw z
      (test (cannot_declare a (spelled W x.name))
      (λ t. ap (λ (N : Names). look_in N (spelled W r.name) unknown) (names-taken W a n x rs t) ∙ own_in a (spelled W x.name ∷ b) (suc n) rs k r rest (alike-one a b (spelled W x.name) h t) e c)
      (λ t. ap (λ (N : Names). look_in N (spelled W r.name) unknown) (names-new W a n x rs t)
      ∙ look-further (spelled W x.name) (the_routine n) (routine_names W (spelled W x.name ∷ a) (suc n) rs) (spelled W r.name) unknown (earlier-apart (spelled W x.name) b k rs (spelled W r.name) c)
      ∙ own_in (spelled W x.name ∷ a) (spelled W x.name ∷ b) (suc n) rs k r rest (alike_both a b (spelled W x.name) h) e c))

  other-in : (a b : List Text) (n : ℕ) (rs : List Routine) (k : ℕ) (r : Routine) (rest : List Routine) → Alike a b → drop k rs ≡ r ∷ rest → cannot_declare (earlier_of W b k rs) (spelled W r.name) ≡ true
      → look_in (routine_names W a n rs) (spelled W r.name) unknown ≡ the_routine (n + k) → ⊥
  unfolding earlier_of
  other-in a b n [] zero r rest h e c q = apart (cc)
  other-in a b n [] (suc k) r rest h e c q = apart (cc)
  other-in a b n (x ∷ rs) zero r rest h e c q =
      let y : x ≡ r = cc in
      let z : n + 0 ≡ n = omega arith in
      let d : cannot_declare a (spelled W x.name) ≡ true = ap (λ (y : Routine). cannot_declare a (spelled W y.name)) y ∙ alike-cannot a b h (spelled W r.name) ∙ c in
      none-later a n (suc n) rs (spelled W r.name) (omega arith) (ap (λ (N : Names). look_in N (spelled W r.name) unknown) (sym (names-taken W a n x rs d)) ∙ q ∙ ap the_routine z)
  other-in a b n (x ∷ rs) (suc k) r rest h e c q =
      let z : n + suc k ≡ suc n + k = omega arith in
      test (cannot_declare a (spelled W x.name))
      (λ t. other-in a (spelled W x.name ∷ b) (suc n) rs k r rest (alike-one a b (spelled W x.name) h t) e c (ap (λ (N : Names). look_in N (spelled W r.name) unknown) (sym (names-taken W a n x rs t)) ∙ q ∙ ap the_routine z))
      (λ t. test (equal_texts (spelled W x.name) (spelled W r.name))
      (λ u. let s : the_routine n ≡ the_routine (n + suc k) = sym (look-here (spelled W x.name) (the_routine n) (routine_names W (spelled W x.name ∷ a) (suc n) rs) (spelled W r.name) unknown u)
      ∙ ap (λ (N : Names). look_in N (spelled W r.name) unknown) (sym (names-new W a n x rs t)) ∙ q in
      let v : n ≡ n + suc k = cc in absurd (omega arith))
      (λ u. other-in (spelled W x.name ∷ a) (spelled W x.name ∷ b) (suc n) rs k r rest (alike_both a b (spelled W x.name) h) e c
      (sym (look-further (spelled W x.name) (the_routine n) (routine_names W (spelled W x.name ∷ a) (suc n) rs) (spelled W r.name) unknown u)
      ∙ ap (λ (N : Names). look_in N (spelled W r.name) unknown) (sym (names-new W a n x rs t)) ∙ q ∙ ap the_routine z)))

  module _ (m : Module) (k : ℕ) (r : Routine) (rest : List Routine) (e : drop k m.routines ≡ r ∷ rest) where
    abbrev earlier : List Text
    earlier = earlier_of W (data_texts W m.declared) k m.routines

    alike_all : Alike (data_texts W m.declared) (data_texts W m.declared)
    alike_all = record { same = λ u p. refl }

    -- A routine's name means it exactly where rule 10 is not broken there.
    pub own_name : cannot_declare earlier (spelled W r.name) ≡ false → meaning (first_scopes W m) (spelled W r.name) ≡ the_routine k
    unfolding meaning look_in
    own_name c =
        let z : 0 + k ≡ k = omega arith in
        not_found protected (spelled W r.name) _ (cannot-protected earlier (spelled W r.name) c)
        ∙ own_in (data_texts W m.declared) (data_texts W m.declared) 0 m.routines k r rest alike_all e c ∙ ap the_routine z

    pub other_name : cannot_declare earlier (spelled W r.name) ≡ true → meaning (first_scopes W m) (spelled W r.name) ≡ the_routine k → ⊥
    unfolding meaning look_in routine_in
    other_name c q =
        test (is_protected (spelled W r.name))
        (λ p. apart_none (sym (shielded-plain (spelled W r.name) p _) ∙ ap routine_in q))
        (λ p. let z : 0 + k ≡ k = omega arith in
        other-in (data_texts W m.declared) (data_texts W m.declared) 0 m.routines k r rest alike_all e c (sym (not_found protected (spelled W r.name) _ p) ∙ q ∙ ap the_routine (sym z)))
      where
        apart_none : {A : Type 0} {x : ℕ} → none ≡ some x → A
        apart_none z = apart (cc)

    -- the same beside the module's data
    pub own-name-then : cannot_declare earlier (spelled W r.name) ≡ false → meaning (module_scopes W m) (spelled W r.name) ≡ the_routine k
    unfolding routine_in
    own-name-then c = routine-is (meaning (module_scopes W m) (spelled W r.name)) k (routine-meant W m (spelled W r.name) ∙ ap routine_in (own_name c))

    pub other-name-then : cannot_declare earlier (spelled W r.name) ≡ true → meaning (module_scopes W m) (spelled W r.name) ≡ the_routine k → ⊥
    unfolding routine_in
    other-name-then c q = other_name c (routine-is (meaning (first_scopes W m) (spelled W r.name)) k (sym (routine-meant W m (spelled W r.name)) ∙ ap routine_in q))
