-- The names of routines, one after another: what the table says, and what it will say.
use mathlib.Core.Path.{◌≡◌, refl, sym, ap, subst, ◌∙◌}
use mathlib.Core.Bool.{Bool, true, false, not}
use mathlib.Core.List.{List, [], ◌∷◌}
use mathlib.Core.Option.{none, some}
use Prim.Native.Nat.{ℕ, suc, ◌+◌, ◌*◌, ◌%◌, ◌<◌}
use native.Mathlib.Omega.{arith}
use lib.Dec.{eqb}
use lib.ListN.{length, get_or}
use borrow.Author.Tests.{eq-eqb, ne_eqb}
use Rattle.laws.proofs.Tests.{test, by-same, apart}
use Rattle.std.specs.Prelude.{if◌then◌else◌, Option, Some, None}
use Rattle.paper.specs.Sorts.{bytes, equal_texts}
use Rattle.paper.specs.Words.{Word}
use Rattle.paper.specs.Trees.{Routine, Module}
use Rattle.paper.specs.Names.{Meaning, unknown, the_routine, routine_in, Text, Names, spelled, look_in, protected, is_among, meaning, cannot_declare}
use Rattle.paper.specs.Declarations.{data_texts, routine_names}
use Rattle.code.specs.Steps.{Head, no_head, numbered}
use Rattle.check_names.specs.Numbers.{number_of, IsName}
use Rattle.check_names.specs.Meanings.{meaning_with, meaning_in, is_protected, protected_cell, protects_cell, cell_for, first_meaning}
use Rattle.check_names.proofs.Spellings.{texts-same, texts-differ, numbers-same, spellings-same}
use Rattle.check_names.proofs.Shields.{protected-means, protected-guards}
use Rattle.check_names.proofs.Tables.{meaning-with}
use Rattle.check_heads.specs.Trees.{heads_for, data_cell, first_scopes}
use Rattle.check_heads.specs.Reads.{Tables}
use Rattle.check_heads.proofs.DataToCome.{protected-some, not_found, cell-protected, cell-coming, cell-none}
use Rattle.check_heads.proofs.NamesOfRoutines.{look-here, look-further, look-found, cannot-here, cannot-further, cannot-protected, cannot-among, cannot-shielded, names-taken, names-new, names-skip}

-- ---- the cell of a routine
module _ (f : ℕ → ℕ) (h : ℕ) where
  pub routine-meaning : meaning_in f (20 + 256 * h) ≡ the_routine (f h)
  unfolding meaning_with
  routine-meaning = meaning-with f 5 0 0 h (omega arith) (omega arith) (omega arith)

  routine-some : 20 + 256 * h ≡ 0 → ⊥
  routine-some e = omega arith

  routine-plain : protects_cell (20 + 256 * h) ≡ false
  routine-plain = let e : (20 + 256 * h) % 256 ≡ 20 = omega arith in rw e

same-routine : (a b : ℕ) → the_routine a ≡ the_routine b → a ≡ b
same-routine a b e = cc

-- protected names mean no routine
pub protected-plain : (u : Text) (o : Meaning) → routine_in o ≡ none → routine_in (look_in protected u o) ≡ none
unfolding look_in protected routine_in
protected-plain u o h =
    test (equal_texts (bytes "ERRNO") u) (λ t. rw (t, look_in))
    (λ t. rw (t, look_in) (test (equal_texts (bytes "ERR_OVERFLOW") u) (λ a. rw (a, look_in))
    (λ a. rw (a, look_in) (test (equal_texts (bytes "ERR_DIVZERO") u) (λ b. rw (b, look_in))
    (λ b. rw (b, look_in) (test (equal_texts (bytes "ERR_OUTOFBND") u) (λ c. rw (c, look_in))
    (λ c. rw (c, look_in) (test (equal_texts (bytes "ERR_ILLRAISE") u) (λ d. rw (d, look_in)) (λ d. rw (d, look_in) h)))))))))

-- what a cell means, or what is left where it has no meaning
abbrev pub pending : (routine : ℕ → ℕ) → (cell : ℕ) → (otherwise : Meaning) → Meaning
pending f c o = if eqb c 0 then o else meaning_in f c

pending-some : (f : ℕ → ℕ) (c : ℕ) (o : Meaning) → (c ≡ 0 → ⊥) → pending f c o ≡ meaning_in f c
pending-some f c o d = rw (ne_eqb c 0 d)

pending-none : (f : ℕ → ℕ) (c : ℕ) (o : Meaning) → c ≡ 0 → pending f c o ≡ o
pending-none f c o e = rw (eq-eqb c 0 e)

-- ---- main, by the word of the first routine that has its name
-- what the name means: that routine, or what it means else
abbrev pub main_is : (number : ℕ → ℕ) → Option ℕ → Meaning → Meaning
main_is number None o = o
main_is number (Some h) o = the_routine (number h)

-- a routine begins at h, whose name is MAIN or not
abbrev pub first_main : Bool → (h : ℕ) → Option ℕ → Option ℕ
first_main b h None = if b then Some h else None
first_main b h (Some m) = Some m

pub none-some : {A : Type 0} {h : ℕ} → None ≡ Some h → A
none-some e = apart (cc)

pub same-some : {h j : ℕ} → Some h ≡ Some j → h ≡ j
same-some e = cc

pub record NamesLeft (W : List Word) (m : Module) (X : List ℕ) (earlier : List Text) (k : ℕ) (rest : List Routine) (main : Option ℕ) : Type 0 where
  pub means : (j : ℕ) → IsName W j → meaning (first_scopes W m) (spelled W j) ≡ pending (numbered (heads_for m.routines)) (cell_for W X j) (look_in (routine_names W earlier k rest) (spelled W j) unknown)
  pub free : (j : ℕ) → IsName W j → cannot_declare earlier (spelled W j) ≡ not (eqb (cell_for W X j) 0)
  pub guards : (j : ℕ) → IsName W j → protects_cell (cell_for W X j) ≡ is_protected (spelled W j)
  pub coming : (j : ℕ) → IsName W j → is_among (data_texts W m.declared) (spelled W j) ≡ true → is_protected (spelled W j) ≡ false → cell_for W X j ≡ 1
  pub exact : (j q : ℕ) → IsName W j → meaning_in (numbered (heads_for m.routines)) (cell_for W X j) ≡ the_routine q → cell_for W X j ≡ 20 + 256 * (get_or (heads_for m.routines) q no_head).word
  pub main-means : look_in (routine_names W (data_texts W m.declared) 0 m.routines) (bytes "MAIN") unknown
      ≡ main_is (numbered (heads_for m.routines)) main (look_in (routine_names W earlier k rest) (bytes "MAIN") unknown)
  pub main-less : (h : ℕ) → main ≡ Some h → numbered (heads_for m.routines) h < length (heads_for m.routines)
  pub main-word : (h : ℕ) → main ≡ Some h → (get_or (heads_for m.routines) (numbered (heads_for m.routines) h) no_head).word ≡ h

module _ (W : List Word) (m : Module) where
  abbrev R : List Head
  R = heads_for m.routines

  -- other cells of the value store do not matter
  pub names-kept : (X Y : List ℕ) (earlier : List Text) (k : ℕ) (rest : List Routine) (main : Option ℕ) → ((j : ℕ) → IsName W j → cell_for W Y j ≡ cell_for W X j) → NamesLeft W m X earlier k rest main → NamesLeft W m Y earlier k rest main
  names-kept X Y earlier k rest main e l = record {
    means = λ j n. l.means j n ∙ ap (λ (c : ℕ). pending (numbered R) c (look_in (routine_names W earlier k rest) (spelled W j) unknown)) (sym (e j n));
    free = λ j n. l.free j n ∙ ap (λ (c : ℕ). not (eqb c 0)) (sym (e j n));
    guards = λ j n. ap protects_cell (e j n) ∙ l.guards j n;
    coming = λ j n a p. e j n ∙ l.coming j n a p;
    exact = λ j q n z. e j n ∙ l.exact j q n (ap (meaning_in (numbered R)) (sym (e j n)) ∙ z);
    main-means = l.main-means;
    main-less = l.main-less;
    main-word = l.main-word;
  }

  -- ---- one more routine
  module _ (X : List ℕ) (earlier : List Text) (k : ℕ) (r : Routine) (rest : List Routine) (main : Option ℕ) (l : NamesLeft W m X earlier k (r ∷ rest) main) (name : IsName W r.name) where
    pub names-still : (cell_for W X r.name ≡ 0 → ⊥) → NamesLeft W m X earlier (suc k) rest main
    names-still d =
        let e = names-taken W earlier k r rest (l.free r.name name ∙ ap not (ne_eqb (cell_for W X r.name) 0 d)) in
        record {
          means = λ j n. l.means j n ∙ ap (λ (N : Names). pending (numbered R) (cell_for W X j) (look_in N (spelled W j) unknown)) e;
          free = l.free;
          guards = l.guards;
          coming = l.coming;
          exact = l.exact;
          main-means = l.main-means ∙ ap (λ (N : Names). main_is (numbered R) main (look_in N (bytes "MAIN") unknown)) e;
          main-less = l.main-less;
          main-word = l.main-word;
        }

    module _ (h : ℕ) (number : numbered R h ≡ k) (less : k < length R) (word : (get_or R k no_head).word ≡ h) (Y : List ℕ) (z : cell_for W X r.name ≡ 0)
        (same : (j : ℕ) → IsName W j → number_of W j ≡ number_of W r.name → cell_for W Y j ≡ 20 + 256 * h)
        (other : (j : ℕ) → IsName W j → (number_of W j ≡ number_of W r.name → ⊥) → cell_for W Y j ≡ cell_for W X j) where
      abbrev text : Text
      text = spelled W r.name

      can : cannot_declare earlier text ≡ false
      can = l.free r.name name ∙ ap not (eq-eqb (cell_for W X r.name) 0 z)

      new : routine_names W earlier k (r ∷ rest) ≡ (text, the_routine k) ∷ routine_names W (text ∷ earlier) (suc k) rest
      new = names-new W earlier k r rest can

      abbrev after : Names
      after = routine_names W (text ∷ earlier) (suc k) rest

      equal : (j : ℕ) → IsName W j → number_of W j ≡ number_of W r.name → equal_texts text (spelled W j) ≡ true
      equal j n e = texts-same text (spelled W j) (sym (numbers-same W j r.name n name e))

      differ : (j : ℕ) → (number_of W j ≡ number_of W r.name → ⊥) → equal_texts text (spelled W j) ≡ false
      differ j d = texts-differ text (spelled W j) (λ e. d (spellings-same W j r.name (sym e)))

      -- a cell of the same name is 0, as that of the routine's
      was : (j : ℕ) → number_of W j ≡ number_of W r.name → cell_for W X j ≡ 0
      was j e = ap (λ (x : ℕ). get_or X (first_meaning + x) 0) e ∙ z

      means-then : (j : ℕ) → IsName W j → meaning (first_scopes W m) (spelled W j) ≡ pending (numbered R) (cell_for W Y j) (look_in after (spelled W j) unknown)
      means-then j n =
          by-same (number_of W j) (number_of W r.name)
          (λ e. l.means j n ∙ pending-none (numbered R) (cell_for W X j) _ (was j e) ∙ ap (λ (N : Names). look_in N (spelled W j) unknown) new
          ∙ look-here text (the_routine k) after (spelled W j) unknown (equal j n e)
          ∙ sym (ap (λ (c : ℕ). pending (numbered R) c (look_in after (spelled W j) unknown)) (same j n e) ∙ pending-some (numbered R) (20 + 256 * h) _ (routine-some (numbered R) h) ∙ routine-meaning (numbered R) h ∙ ap the_routine number))
          (λ d. l.means j n ∙ ap (λ (N : Names). pending (numbered R) (cell_for W X j) (look_in N (spelled W j) unknown)) new
          ∙ ap (pending (numbered R) (cell_for W X j)) (look-further text (the_routine k) after (spelled W j) unknown (differ j d))
          ∙ ap (λ (c : ℕ). pending (numbered R) c (look_in after (spelled W j) unknown)) (sym (other j n d)))

      free-then : (j : ℕ) → IsName W j → cannot_declare (text ∷ earlier) (spelled W j) ≡ not (eqb (cell_for W Y j) 0)
      free-then j n =
          by-same (number_of W j) (number_of W r.name)
          (λ e. cannot-here earlier text (spelled W j) (equal j n e) ∙ sym (ap (λ (c : ℕ). not (eqb c 0)) (same j n e) ∙ ap not (ne_eqb (20 + 256 * h) 0 (routine-some (numbered R) h))))
          (λ d. cannot-further earlier text (spelled W j) (differ j d) ∙ l.free j n ∙ ap (λ (c : ℕ). not (eqb c 0)) (sym (other j n d)))

      guards_then : (j : ℕ) → IsName W j → protects_cell (cell_for W Y j) ≡ is_protected (spelled W j)
      guards_then j n =
          by-same (number_of W j) (number_of W r.name)
          (λ e. ap protects_cell (same j n e) ∙ routine-plain (numbered R) h ∙ sym (ap is_protected (numbers-same W j r.name n name e) ∙ cannot-protected earlier text can))
          (λ d. ap protects_cell (other j n d) ∙ l.guards j n)

      coming-then : (j : ℕ) → IsName W j → is_among (data_texts W m.declared) (spelled W j) ≡ true → is_protected (spelled W j) ≡ false → cell_for W Y j ≡ 1
      coming-then j n a p = by-same (number_of W j) (number_of W r.name) (λ e. absurd (omega (arith, l.coming j n a p, was j e))) (λ d. other j n d ∙ l.coming j n a p)

      exact-then : (j q : ℕ) → IsName W j → meaning_in (numbered R) (cell_for W Y j) ≡ the_routine q → cell_for W Y j ≡ 20 + 256 * (get_or R q no_head).word
      exact-then j q n e =
          by-same (number_of W j) (number_of W r.name)
          (λ s. let a : k ≡ q = sym number ∙ same-routine (numbered R h) q (sym (routine-meaning (numbered R) h) ∙ ap (meaning_in (numbered R)) (sym (same j n s)) ∙ e) in
          same j n s ∙ ap (λ (x : ℕ). 20 + 256 * x) (sym word ∙ ap (λ (x : ℕ). (get_or R x no_head).word) a))
          (λ d. other j n d ∙ l.exact j q n (ap (meaning_in (numbered R)) (sym (other j n d)) ∙ e))

      abbrev MAIN : Text
      MAIN = bytes "MAIN"

      record MainThen (main' : Option ℕ) : Type 0 where
        pub told-means : look_in (routine_names W (data_texts W m.declared) 0 m.routines) MAIN unknown ≡ main_is (numbered R) main' (look_in after MAIN unknown)
        pub told-less : (j : ℕ) → main' ≡ Some j → numbered R j < length R
        pub told-word : (j : ℕ) → main' ≡ Some j → (get_or R (numbered R j) no_head).word ≡ j

      main-then : (main : Option ℕ) → look_in (routine_names W (data_texts W m.declared) 0 m.routines) MAIN unknown ≡ main_is (numbered R) main (look_in (routine_names W earlier k (r ∷ rest)) MAIN unknown)
          → ((j : ℕ) → main ≡ Some j → numbered R j < length R) → ((j : ℕ) → main ≡ Some j → (get_or R (numbered R j) no_head).word ≡ j)
          → (b : Bool) → equal_texts text MAIN ≡ b → MainThen (first_main b h main)
      -- none was before, and it is one
      main-then None means small begins true t = record {
        told-means = means ∙ ap (λ (N : Names). look_in N MAIN unknown) new ∙ look-here text (the_routine k) after MAIN unknown t ∙ ap the_routine (sym number);
        told-less = λ j q. subst (λ (x : ℕ). numbered R x < length R) (same-some q) (subst (λ (x : ℕ). x < length R) (sym number) less);
        told-word = λ j q. subst (λ (x : ℕ). (get_or R (numbered R x) no_head).word ≡ x) (same-some q) (ap (λ (x : ℕ). (get_or R x no_head).word) number ∙ word);
      }
      -- none is yet
      main-then None means small begins false t = record {
        told-means = means ∙ ap (λ (N : Names). look_in N MAIN unknown) new ∙ look-further text (the_routine k) after MAIN unknown t;
        told-less = λ j q. none-some q;
        told-word = λ j q. none-some q;
      }
      -- one was before
      main-then (Some m) means small begins b t = record { told-means = means; told-less = small; told-word = begins }

      module _ (main' : Option ℕ) (is : main' ≡ first_main (equal_texts text MAIN) h main) where
        told : MainThen main'
        told = subst MainThen (sym is) (main-then main l.main-means l.main-less l.main-word (equal_texts text MAIN) refl)

        pub names-then : NamesLeft W m Y (text ∷ earlier) (suc k) rest main'
        names-then = record {
          means = means-then;
          free = free-then;
          guards = guards_then;
          coming = coming-then;
          exact = exact-then;
          main-means = told.told-means;
          main-less = told.told-less;
          main-word = told.told-word;
        }

  -- ---- before the first
  module _ (X : List ℕ) (cells : (j : ℕ) → IsName W j → cell_for W X j ≡ data_cell (data_texts W m.declared) (spelled W j)) where
    abbrev D : List Text
    D = data_texts W m.declared

    abbrev all : Names
    all = routine_names W D 0 m.routines

    one-unknown : (f : ℕ → ℕ) → meaning_in f 1 ≡ unknown
    unfolding meaning_in meaning_with
    one-unknown f = refl

    zero-unknown : (f : ℕ → ℕ) → meaning_in f 0 ≡ unknown
    unfolding meaning_in meaning_with
    zero-unknown f = refl

    first-means : (u : Text) → meaning (first_scopes W m) u ≡ pending (numbered R) (data_cell D u) (look_in all u unknown)
    unfolding meaning look_in
    first-means u =
        test (is_protected u)
        (λ p. look-found protected u (look_in all u unknown) unknown p ∙ sym (protected-means (numbered R) u)
        ∙ sym (ap (λ (c : ℕ). pending (numbered R) c (look_in all u unknown)) (cell-protected D u p) ∙ pending-some (numbered R) (protected_cell u) _ (protected-some u p)))
        (λ p. not_found protected u (look_in all u unknown) p
        ∙ test (is_among D u)
        (λ a. names-skip W D 0 m.routines u unknown a ∙ sym (ap (λ (c : ℕ). pending (numbered R) c (look_in all u unknown)) (cell-coming D u p a) ∙ one-unknown (numbered R)))
        (λ a. sym (ap (λ (c : ℕ). pending (numbered R) c (look_in all u unknown)) (cell-none D u p a))))

    first-free : (u : Text) → cannot_declare D u ≡ not (eqb (data_cell D u) 0)
    first-free u =
        test (is_protected u)
        (λ p. cannot-shielded D u p ∙ sym (ap (λ (c : ℕ). not (eqb c 0)) (cell-protected D u p) ∙ ap not (ne_eqb (protected_cell u) 0 (protected-some u p))))
        (λ p. cannot-among D u p ∙ test (is_among D u) (λ a. a ∙ sym (ap (λ (c : ℕ). not (eqb c 0)) (cell-coming D u p a))) (λ a. a ∙ sym (ap (λ (c : ℕ). not (eqb c 0)) (cell-none D u p a))))

    first-guards : (u : Text) → protects_cell (data_cell D u) ≡ is_protected u
    first-guards u =
        test (is_protected u) (λ p. ap protects_cell (cell-protected D u p) ∙ protected-guards (λ n. n) u)
        (λ p. test (is_among D u) (λ a. ap protects_cell (cell-coming D u p a) ∙ sym p) (λ a. ap protects_cell (cell-none D u p a) ∙ sym p))

    first-exact : (u : Text) → routine_in (meaning_in (numbered R) (data_cell D u)) ≡ none
    unfolding routine_in
    first-exact u =
        test (is_protected u) (λ p. ap (λ (c : ℕ). routine_in (meaning_in (numbered R) c)) (cell-protected D u p) ∙ ap routine_in (protected-means (numbered R) u) ∙ protected-plain u unknown refl)
        (λ p. test (is_among D u) (λ a. ap (λ (c : ℕ). routine_in (meaning_in (numbered R) c)) (cell-coming D u p a) ∙ ap routine_in (one-unknown (numbered R)))
        (λ a. ap (λ (c : ℕ). routine_in (meaning_in (numbered R) c)) (cell-none D u p a) ∙ ap routine_in (zero-unknown (numbered R))))

    pub names-start : NamesLeft W m X D 0 m.routines None
    unfolding routine_in
    names-start = record {
      means = λ j n. first-means (spelled W j) ∙ ap (λ (c : ℕ). pending (numbered R) c (look_in all (spelled W j) unknown)) (sym (cells j n));
      free = λ j n. first-free (spelled W j) ∙ ap (λ (c : ℕ). not (eqb c 0)) (sym (cells j n));
      guards = λ j n. ap protects_cell (cells j n) ∙ first-guards (spelled W j);
      coming = λ j n a p. cells j n ∙ cell-coming D (spelled W j) p a;
      exact = λ j q n e. none_is (sym (first-exact (spelled W j)) ∙ ap (λ (c : ℕ). routine_in (meaning_in (numbered R) c)) (sym (cells j n)) ∙ ap routine_in e);
      main-means = refl;
      main-less = λ h e. none-some e;
      main-word = λ h e. none-some e;
    }
      where
        none_is : {A : Type 0} {q : ℕ} → none ≡ some q → A
        none_is e = apart (cc)

  -- ---- behind the last
  module _ (X : List ℕ) (earlier : List Text) (k : ℕ) (main : Option ℕ) (l : NamesLeft W m X earlier k [] main) where
    last-means : (j : ℕ) → IsName W j → meaning_in (numbered R) (cell_for W X j) ≡ meaning (first_scopes W m) (spelled W j)
    unfolding routine_names look_in meaning_in meaning_with
    last-means j n =
        by-same (cell_for W X j) 0
        (λ e. ap (meaning_in (numbered R)) e ∙ sym (l.means j n ∙ pending-none (numbered R) (cell_for W X j) unknown e))
        (λ d. sym (l.means j n ∙ pending-some (numbered R) (cell_for W X j) unknown d))

    pub names-tables : Tables W m X
    names-tables = record {
      means = record { means = last-means; guards = l.guards };
      coming = l.coming;
      exact = λ j q n e. l.exact j q n (last-means j n ∙ e);
    }

    pub main-last : look_in (routine_names W (data_texts W m.declared) 0 m.routines) (bytes "MAIN") unknown ≡ main_is (numbered R) main unknown
    unfolding routine_names look_in
    main-last = l.main-means
