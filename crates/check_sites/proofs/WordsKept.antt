-- What words keep, and what a name means that a site has not declared.
use Rattle.check_names.specs.Promises.{number_limit}
use mathlib.Core.Path.{◌≡◌, refl, ap, ◌∙◌}
use mathlib.Core.Bool.{true, false}
use mathlib.Core.List.{List, [], ◌∷◌, map}
use Prim.Native.Nat.{ℕ, ◌+◌, ◌*◌, ◌%◌, ◌<◌, ◌≤◌}
use native.Mathlib.Omega.{arith}
use lib.ListN.{length, get_or}
use Rattle.paper.specs.Words.{Word}
use Rattle.paper.specs.Declarations.{module_filling, routine_filling}
use Rattle.store_cells.specs.Cells.{cells_of}
use Rattle.code.specs.Cells.{op_in, value_in, link_in}
use Rattle.check_expressions.specs.Known.{Loaded}
use Rattle.check_sites.specs.Sites.{Site, the_module, filling, a_routine}
use borrow.Author.Tests.{lt-leb}
use Rattle.laws.proofs.Tests.{test, apart}
use Rattle.paper.specs.Sorts.{equal_texts}
use Rattle.paper.specs.Names.{Meaning, Text, Names, text_of, Scopes, spelled, is_among, look_in, protected, meaning, cannot_declare}
use Rattle.check_names.specs.Meanings.{meaning_in, is_protected, protects_cell, Keeps}
use Rattle.check_sites.specs.Walks.{outer_of}
use Rattle.check_sites.proofs.TwoSites.{may-declare}

-- ---- words that are still as they were loaded
pub loaded-changed : (W : List Word) (code code' : List ℕ) (from i to : ℕ) → length code' ≡ length code → ((k : ℕ) → from * 2 ≤ k → get_or (cells_of code') k 0 ≡ get_or (cells_of code) k 0) → from ≤ i → Loaded W code i to
    → Loaded W code' i to
loaded-changed W code code' from i to long same h l = record {
  words = λ j lo hi.
      let f = l.words j lo hi in
      let e = same (j * 2) (omega arith) in
      record { sort = ap op_in e ∙ f.sort; value = λ n. ap value_in e ∙ f.value n; number = λ n. ap (λ (w : ℕ). value_in w % number_limit) e ∙ f.number n };
  last = l.last;
  room = omega (arith, l.room, long);
  whole = ap (λ (x : ℕ). x % 8) long ∙ l.whole;
}

-- ---- what words keep
pub keeps_same : (routine : ℕ → ℕ) (W : List Word) (S : Scopes) (C E : List ℕ) (i : ℕ) → get_or E (i * 2) 0 ≡ get_or C (i * 2) 0 → get_or E (i * 2 + 1) 0 ≡ get_or C (i * 2 + 1) 0 → Keeps routine W S C i → Keeps routine W S E i
keeps_same routine W S C E i h t k = record {
  number = ap link_in t ∙ k.number;
  means = ap (meaning_in routine) h ∙ k.means;
  guards = ap protects_cell h ∙ k.guards;
}

look-past : (N : Names) (text : Text) (o : Meaning) → is_among (map text_of N) text ≡ false → look_in N text o ≡ o
unfolding look_in is_among
look-past [] text o h = refl
look-past (n ∷ N) text o h =
    test (equal_texts n.0 text) (λ t. let x : true ≡ false = rw (t, is_among) at h in apart (cc)) (λ t. rw (t, look_in) (look-past N text o (rw (t, is_among) at h)))

pub not-among : (scope : List Text) (text : Text) → cannot_declare scope text ≡ false → is_among scope text ≡ false
unfolding cannot_declare
not-among scope text h = let p : is_protected text ≡ false = may-declare scope text h in rw (p, cannot_declare) at h

-- a name that a site has not declared means what it does outside
pub outer-meaning : (W : List Word) (s : Site) (N : Names) (text : Text) → is_among (map text_of N) text ≡ false → meaning ((filling W s).scopes_with N) text ≡ meaning (outer_of W s) text
unfolding filling module_filling routine_filling meaning look_in
outer-meaning W (the_module routines) N text h = ap (look_in protected text) (look-past N text _ h)
outer-meaning W (a_routine m) N text h = ap (look_in protected text) (look-past N text _ h)

pub keeps-outer : (routine : ℕ → ℕ) (W : List Word) (s : Site) (N : Names) (C : List ℕ) (i : ℕ) → is_among (map text_of N) (spelled W i) ≡ false → Keeps routine W ((filling W s).scopes_with N) C i → Keeps routine W (outer_of W s) C i
keeps-outer routine W s N C i h k = record { number = k.number; means = k.means ∙ outer-meaning W s N (spelled W i) h; guards = k.guards }

-- ---- the name is declared, and its words have what they start with
pub data-plain : (op bool own value : ℕ) → op < 16 → bool < 2 → own < 2 → protects_cell (op + 2 * bool + own + 256 * value) ≡ false
data-plain op bool own value h g k = lt-leb 24 ((op + 2 * bool + own + 256 * value) % 256) (omega arith)
