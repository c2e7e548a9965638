-- The table of meanings: what a declaration changes in it, and what restores it.
use mathlib.Core.Path.{◌≡◌, refl, sym, ap, subst, ◌∙◌}
use mathlib.Core.Bool.{true, false}
use mathlib.Core.List.{List, [], ◌∷◌, ◌++◌, map}
use Prim.Native.Nat.{ℕ, ◌+◌, ◌*◌, ◌/◌, ◌%◌, ◌≤◌, ◌<◌}
use native.Mathlib.Omega.{arith}
use lib.ListN.{length, get_or, set}
use lib.Seq.{get_or-set_same, get_or-set_other}
use Rattle.laws.proofs.Tests.{by-same, test, apart}
use Rattle.store_cells.specs.Cells.{cells_of}
use Rattle.store_cells.proofs.Laws.{length-words}
use Rattle.paper.specs.Sorts.{equal_texts}
use Rattle.paper.specs.Words.{Word}
use Rattle.paper.specs.Names.{Meaning, loop, Text, text_of, Names, Scopes, spelled, is_among, look_in, protected, meaning, cannot_declare, declare, enter}
use Rattle.paper.specs.Terms.{Ref}
use Rattle.code.specs.Cells.{head_at, tail_at}
use Rattle.check_names.specs.Numbers.{number_of, IsName}
use Rattle.layout.specs.Parts.{link_part}
use Rattle.check_names.specs.Meanings.{cell_with, meaning_with, meaning_in, is_protected, protects_cell, first_meaning, cell_for, Means, Apart, Hides, Keeps}
use Rattle.check_names.specs.Promises.{number_limit, store_bytes, number_at, Declared, Left}
use Rattle.check_names.proofs.Spellings.{numbers-same, spellings-same, texts-same, texts-differ}
use Rattle.store_writing.proofs.Rewriting.{rewritten-head, rewritten-tail}

-- ---- a cell
pub meaning-with : (routine : ℕ → ℕ) (kind bool own value : ℕ) → kind < 64 → bool < 2 → own < 2 → meaning_in routine (cell_with kind bool own value) ≡ meaning_with routine kind bool own value
unfolding meaning_in
meaning-with routine kind bool own value h g k =
    let a : cell_with kind bool own value % 256 / 4 ≡ kind = omega arith in
    let b : cell_with kind bool own value / 2 % 2 ≡ bool = omega arith in
    let c : cell_with kind bool own value % 2 ≡ own = omega arith in
    let d : cell_with kind bool own value / 256 ≡ value = omega arith in
    rw (a, b, c, d)

-- ---- one cell of the table
module _ (routine : ℕ → ℕ) (W : List Word) (S S' : Scopes) (X : List ℕ) (i m : ℕ) (name : IsName W i) (table : Means routine W S X) (inside : first_meaning + number_of W i < length X) where
  X' : List ℕ
  X' = set X (first_meaning + number_of W i) m

  same-cell : (j : ℕ) → number_of W j ≡ number_of W i → cell_for W X' j ≡ m
  unfolding X'
  same-cell j e = ap (λ (k : ℕ). get_or (set X (first_meaning + number_of W i) m) (first_meaning + k) 0) e ∙ get_or-set_same X (first_meaning + number_of W i) m 0 inside

  other-cell : (j : ℕ) → (number_of W j ≡ number_of W i → ⊥) → cell_for W X' j ≡ cell_for W X j
  unfolding X'
  other-cell j d = get_or-set_other X (first_meaning + number_of W i) (first_meaning + number_of W j) m 0 (λ e. d (omega arith))

  -- The name at word i means m, and no other name means anything else than it did.
  pub means-set : Apart S S' (spelled W i) → meaning_in routine m ≡ meaning S' (spelled W i) → protects_cell m ≡ is_protected (spelled W i)
      → Means routine W S' (set X (first_meaning + number_of W i) m)
  unfolding X'
  means-set elsewhere here guarded = record {
    means = λ j n. by-same (number_of W j) (number_of W i)
        (λ e. ap (meaning_in routine) (same-cell j e) ∙ here ∙ ap (meaning S') (sym (numbers-same W j i n name e)))
        (λ d. ap (meaning_in routine) (other-cell j d) ∙ table.means j n ∙ sym (elsewhere (spelled W j) (λ e. d (spellings-same W j i e))));
    guards = λ j n. by-same (number_of W j) (number_of W i)
        (λ e. ap protects_cell (same-cell j e) ∙ guarded ∙ ap is_protected (sym (numbers-same W j i n name e)))
        (λ d. ap protects_cell (other-cell j d) ∙ table.guards j n);
  }

-- ---- declare and leave
module _ (routine : ℕ → ℕ) (W : List Word) (S S' : Scopes) (i : ℕ) (name : IsName W i) where
  -- From a declaration on, the table is that of the scopes that hide what the name meant. A declared name is never protected.
  pub declare-means : (code values code' values' : List ℕ) (m : ℕ) → Declared code values i m code' values' → number_at (cells_of code) i ≡ number_of W i → store_bytes ≤ length values
      → Hides S S' (spelled W i) (meaning_in routine m) → is_protected (spelled W i) ≡ false → protects_cell m ≡ false
      → Means routine W S (cells_of values) → Means routine W S' (cells_of values')
  declare-means code values code' values' m d e h hides free plain table =
      subst (Means routine W S') (sym (d.table.words ∙ ap (λ (k : ℕ). set (cells_of values) (first_meaning + k) m) e))
      (means-set routine W S S' (cells_of values) i m name table (omega (arith, length-words values))
      hides.elsewhere (sym hides.here) (plain ∙ sym free))

  -- The word keeps what the name meant.
  pub declare-keeps : (code values code' values' : List ℕ) (m : ℕ) → i * 8 + 8 ≤ length code → Declared code values i m code' values' → number_at (cells_of code) i ≡ number_of W i
      → Means routine W S (cells_of values) → Keeps routine W S (cells_of code') i
  declare-keeps code values code' values' m h d e table =
      let cell : head_at (cells_of code') i ≡ cell_for W (cells_of values) i = rewritten-head d.word h ∙ ap (λ (k : ℕ). get_or (cells_of values) (first_meaning + k) 0) e in
      record {
        number = ap (λ (x : ℕ). x / link_part) (rewritten-tail d.word h) ∙ link-is (tail_at (cells_of code) i) (number_at (cells_of code) i) ∙ e;
        means = ap (meaning_in routine) cell ∙ table.means i name;
        guards = ap protects_cell cell ∙ table.guards i name;
      }
    where
      link-is : (tail n : ℕ) → (tail % link_part + link_part * n) / link_part ≡ n
      link-is tail n = omega arith

  -- A name that is left means again what it meant.
  pub leave-means : (code values values' : List ℕ) → Left code values i values' → Keeps routine W S (cells_of code) i → Apart S' S (spelled W i) → store_bytes ≤ length values → number_of W i < number_limit
      → Means routine W S' (cells_of values) → Means routine W S (cells_of values')
  leave-means code values values' l k elsewhere h small table =
      subst (Means routine W S) (sym (l.words ∙ ap (λ (n : ℕ). set (cells_of values) (first_meaning + n) (head_at (cells_of code) i)) k.number))
      (means-set routine W S' S (cells_of values) i (head_at (cells_of code) i) name table (omega (arith, length-words values)) elsewhere k.means k.guards)

-- what hides a text differs from what it hides at this text alone, either way
pub hides-back : {S S' : Scopes} {text : Text} {m : Meaning} → Hides S S' text m → Apart S' S text
hides-back h u d = sym (h.elsewhere u d)

-- ---- scopes with one name more
look-past : (N : Names) (text : Text) (o : Meaning) → is_among (map text_of N) text ≡ false → look_in N text o ≡ o
unfolding look_in is_among
look-past [] text o h = refl
look-past (n ∷ N) text o h =
    test (equal_texts n.0 text) (λ t. let x : true ≡ false = rw (t, is_among) at h in apart (cc)) (λ t. rw (t, look_in) (look-past N text o (rw (t, is_among) at h)))

module _ (text : Text) (m : Meaning) (N : Names) where
  look-here : (o : Meaning) → look_in ((text, m) ∷ N) text o ≡ m
  unfolding look_in
  look-here o = rw (texts-same text text refl, look_in)

  look-further : (u : Text) (o : Meaning) → (u ≡ text → ⊥) → look_in ((text, m) ∷ N) u o ≡ look_in N u o
  unfolding look_in
  look-further u o d = rw (texts-differ text u (λ e. d (sym e)), look_in)

  declared-front : cannot_declare (map text_of N) text ≡ false → declare text m N ≡ (text, m) ∷ N
  unfolding declare
  declared-front h = rw h

may-declare : (scope : List Text) (text : Text) → cannot_declare scope text ≡ false → is_protected text ≡ false
unfolding cannot_declare
may-declare scope text h = test (is_protected text) (λ t. let x : true ≡ false = rw t at h in apart (cc)) (λ t. t)

-- a routine's own data: no loop is entered
pub own-hides : (own globals routines : Names) (text : Text) (m : Meaning) → cannot_declare (map text_of own) text ≡ false
    → Hides (record { loops = []; own = own; globals = globals; routines = routines }) (record { loops = []; own = declare text m own; globals = globals; routines = routines }) text m
unfolding meaning look_in
own-hides own globals routines text m h = record {
  here = look-past protected text _ (may-declare (map text_of own) text h) ∙ rw (declared-front text m own h) (look-here text m own _);
  elsewhere = λ u d. rw (declared-front text m own h) (ap (look_in protected u) (look-further text m own u _ d));
}

-- the module's data
pub globals-hides : (globals routines : Names) (text : Text) (m : Meaning) → cannot_declare (map text_of globals) text ≡ false
    → Hides (record { loops = []; own = []; globals = globals; routines = routines }) (record { loops = []; own = []; globals = declare text m globals; routines = routines }) text m
unfolding meaning look_in
globals-hides globals routines text m h = record {
  here = look-past protected text _ (may-declare (map text_of globals) text h) ∙ rw (declared-front text m globals h) (look-here text m globals _);
  elsewhere = λ u d. rw (declared-front text m globals h) (ap (look_in protected u) (look-further text m globals u _ d));
}

-- a loop's variable
pub enter-hides : (S : Scopes) (text : Text) (r : Ref) → is_protected text ≡ false → Hides S (enter text r S) text (loop r)
unfolding meaning enter cannot_declare is_among
enter-hides S text r h = record {
  here = look-past protected text _ h ∙ rw one (look-here text (loop r) S.loops _);
  elsewhere = λ u d. rw one (ap (look_in protected u) (look-further text (loop r) S.loops u _ d));
}
  where
    one : declare text (loop r) [] ++ S.loops ≡ (text, loop r) ∷ S.loops
    one = ap (λ (N : Names). N ++ S.loops) (declared-front text (loop r) [] (rw h))
