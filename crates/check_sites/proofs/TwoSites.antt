-- The two sites: what one more name changes in them, and what stays.
use mathlib.Core.Path.{◌≡◌, refl, sym, ap, subst, ◌∙◌}
use mathlib.Core.Bool.{true, false}
use mathlib.Core.List.{List, ◌∷◌, ◌++◌, map}
use Prim.Native.Nat.{ℕ, ◌+◌, ◌-◌, ◌*◌, ◌<◌, ◌≤◌}
use native.Mathlib.Omega.{arith}
use lib.ListN.{length, get_or, length-append, get_or-append}
use lib.Seq.{get_or-append-add}
use lib.IntN.{ℤ, pos}
use mir.Syntax.{w32}
use mir.Val.{to_z}
use Rattle.laws.proofs.Tests.{test, apart, by_less}
use Rattle.paper.specs.Sorts.{equal_texts}
use Rattle.paper.specs.Words.{Word}
use Rattle.paper.specs.Terms.{Ref, of_module, of_routine, load}
use Rattle.paper.specs.Names.{Meaning, Text, Names, text_of, Scopes, spelled, is_among, meaning, cannot_declare, declare}
use Rattle.paper.specs.Types.{Fault}
use Rattle.paper.specs.Declarations.{Data, module_filling, routine_filling, crosses, module_word_limit}
use Rattle.store_cells.specs.Cells.{cells_of}
use Rattle.store_cells.proofs.Kept.{put-length, put_other}
use Rattle.check_names.specs.Numbers.{number_of, IsName}
use Rattle.check_names.specs.Meanings.{ref_with, meaning_in, is_protected, protects_cell, first_meaning, Means, Hides}
use Rattle.check_names.specs.Promises.{number_at}
use Rattle.check_names.specs.Promises as names
use Rattle.check_names.proofs.Spellings.{same-texts, texts-same, differing}
use Rattle.check_names.proofs.Tables.{declare-means, own-hides, globals-hides}
use Rattle.check_expressions.specs.Known.{InRoom, HeldSlots, held_by}
use Rattle.check_expressions.proofs.NamesHeld.{holds, room-one}
use Rattle.check_constants.specs.Answers.{cell_of, InNum}
use Rattle.check_sites.specs.Sites.{Site, the_module, a_routine, filling, own_of, Among, InPlace, Placed, is_own, owned, Filled}
use Rattle.check_sites.specs.Parts.{base_of, Fills}
use borrow.Author.Tests.{lt-ltb, le-ltb}
use Rattle.paper.specs.Trees.{Module}

-- ---- names
pub may-declare : (scope : List Text) (text : Text) → cannot_declare scope text ≡ false → is_protected text ≡ false
unfolding cannot_declare
may-declare scope text h = test (is_protected text) (λ t. let x : true ≡ false = rw t at h in apart (cc)) (λ t. t)

pub declared-front : (text : Text) (a : Meaning) (N : Names) → cannot_declare (map text_of N) text ≡ false → declare text a N ≡ (text, a) ∷ N
unfolding declare
declared-front text a N h = rw h

among-here : (text : Text) (l : List Text) → is_among (text ∷ l) text ≡ true
unfolding is_among
among-here text l = rw (texts-same text text refl, is_among)

pub among-further : (text u : Text) (l : List Text) → equal_texts text u ≡ false → is_among (text ∷ l) u ≡ is_among l u
unfolding is_among
among-further text u l h = rw (h, is_among)

-- ---- a site
module _ (W : List Word) where
  pub site-ref : (s : Site) (k : ℕ) → (filling W s).ref k ≡ ref_with (own_of s) k
  unfolding filling module_filling routine_filling own_of
  site-ref (the_module routines) k = refl
  site-ref (a_routine m) k = refl

  site-hides : (s : Site) (N : Names) (text : Text) (a : Meaning) → cannot_declare (map text_of N) text ≡ false → Hides ((filling W s).scopes_with N) ((filling W s).scopes_with (declare text a N)) text a
  unfolding filling module_filling routine_filling
  site-hides (the_module routines) N text a h = globals-hides N routines text a h
  site-hides (a_routine m) N text a h = own-hides N _ _ text a h

  pub own-small : (s : Site) → own_of s < 2
  unfolding own_of
  own-small (the_module routines) = omega arith
  own-small (a_routine m) = omega arith

  -- what a name of the site's data means is its own
  pub own-here : (s : Site) (k : ℕ) → is_own (own_of s) ((filling W s).ref k) ≡ true
  unfolding filling module_filling routine_filling own_of is_own
  own-here (the_module routines) k = refl
  own-here (a_routine m) k = refl

  -- ---- words: `ws` before, `vs` more
  among-more : (s : Site) (ws vs : List ℤ) (r : Ref) (size : ℕ) → Among ((filling W s).memory_with ws) r size → Among ((filling W s).memory_with (ws ++ vs)) r size
  unfolding filling module_filling routine_filling InRoom
  among-more (the_module routines) ws vs (of_module k) size h = omega (arith, h, length-append ws vs)
  among-more (the_module routines) ws vs (of_routine k) size h = h
  among-more (a_routine m) ws vs (of_module k) size h = h
  among-more (a_routine m) ws vs (of_routine k) size h = omega (arith, h, length-append ws vs)

  load-more : (s : Site) (ws vs : List ℤ) (r : Ref) → Among ((filling W s).memory_with ws) r 1 → load ((filling W s).memory_with (ws ++ vs)) r ≡ load ((filling W s).memory_with ws) r
  unfolding filling module_filling routine_filling InRoom load
  load-more (the_module routines) ws vs (of_module k) h = get_or-append ws vs (pos 0) k (omega (arith, h))
  load-more (the_module routines) ws vs (of_routine k) h = refl
  load-more (a_routine m) ws vs (of_module k) h = refl
  load-more (a_routine m) ws vs (of_routine k) h = get_or-append ws vs (pos 0) k (omega (arith, h))

  pub among-new : (s : Site) (ws vs : List ℤ) (k size : ℕ) → k + size ≤ length ws + length vs → Among ((filling W s).memory_with (ws ++ vs)) ((filling W s).ref k) size
  unfolding filling module_filling routine_filling InRoom
  among-new (the_module routines) ws vs k size h = omega (arith, h, length-append ws vs)
  among-new (a_routine m) ws vs k size h = omega (arith, h, length-append ws vs)

  pub load-new : (s : Site) (ws vs : List ℤ) (j : ℕ) → load ((filling W s).memory_with (ws ++ vs)) ((filling W s).ref (length ws + j)) ≡ get_or vs j (pos 0)
  unfolding filling module_filling routine_filling load
  load-new (the_module routines) ws vs j = get_or-append-add ws vs j (pos 0)
  load-new (a_routine m) ws vs j = get_or-append-add ws vs j (pos 0)

  -- a word was there before, or is new
  by-new : {A : Type 0} (s : Site) (ws vs : List ℤ) (r : Ref) → Among ((filling W s).memory_with (ws ++ vs)) r 1 → (Among ((filling W s).memory_with ws) r 1 → A)
      → ((j : ℕ) → j < length vs → r ≡ (filling W s).ref (length ws + j) → A) → A
  unfolding filling module_filling routine_filling InRoom
  by-new (the_module routines) ws vs (of_module k) h f g =
      by_less k (length ws) (λ l. f (omega arith)) (λ l. g (k - length ws) (omega (arith, h, length-append ws vs)) (ap of_module (omega arith)))
  by-new (the_module routines) ws vs (of_routine k) h f g = f h
  by-new (a_routine m) ws vs (of_module k) h f g = f h
  by-new (a_routine m) ws vs (of_routine k) h f g =
      by_less k (length ws) (λ l. f (omega arith)) (λ l. g (k - length ws) (omega (arith, h, length-append ws vs)) (ap of_routine (omega arith)))

  -- cells
  cell-new : (s : Site) (k : ℕ) → cell_of ((filling W s).ref k) ≡ base_of (own_of s) + k
  unfolding filling module_filling routine_filling own_of base_of cell_of
  cell-new (the_module routines) k = omega arith
  cell-new (a_routine m) k = refl

  cell-old : (s : Site) (ws : List ℤ) (r : Ref) → length ((filling W s).memory_with ws).module-words ≤ module_word_limit → Among ((filling W s).memory_with ws) r 1 → cell_of r < base_of (own_of s) + length ws
  unfolding filling module_filling routine_filling own_of base_of cell_of InRoom
  cell-old (the_module routines) ws (of_module k) l h = omega (arith, h)
  cell-old (the_module routines) ws (of_routine k) l h = absurd (omega (arith, h))
  cell-old (a_routine m) ws (of_module k) l h = omega (arith, h)
  cell-old (a_routine m) ws (of_routine k) l h = omega (arith, h)

  -- limits
  pub cells-end : (s : Site) (n : ℕ) → n ≤ (filling W s).limit → base_of (own_of s) + n ≤ 1088
  unfolding filling module_filling routine_filling own_of base_of
  cells-end (the_module routines) n h = omega arith
  cells-end (a_routine m) n h = omega arith

  pub limit-most : (s : Site) → (filling W s).limit ≤ module_word_limit
  unfolding filling module_filling routine_filling
  limit-most (the_module routines) = omega arith
  limit-most (a_routine m) = omega arith

  most-more : (s : Site) (ws vs : List ℤ) → length ws + length vs ≤ (filling W s).limit → length ((filling W s).memory_with ws).module-words ≤ module_word_limit
      → length ((filling W s).memory_with (ws ++ vs)).module-words ≤ module_word_limit
  unfolding filling module_filling routine_filling
  most-more (the_module routines) ws vs h l = omega (arith, length-append ws vs)
  most-more (a_routine m) ws vs h l = l

  window_more : (s : Site) (ws vs : List ℤ) → length ws + length vs ≤ (filling W s).limit → length ((filling W s).memory_with ws).routine-words ≤ 64
      → length ((filling W s).memory_with (ws ++ vs)).routine-words ≤ 64
  unfolding filling module_filling routine_filling
  window_more (the_module routines) ws vs h l = l
  window_more (a_routine m) ws vs h l = omega (arith, length-append ws vs)

  -- so many words are used
  pub used-most : (s : Site) (ws : List ℤ) → length ((filling W s).memory_with ws).module-words ≤ module_word_limit → length ((filling W s).memory_with ws).routine-words ≤ 64 → length ws ≤ (filling W s).limit
  unfolding filling module_filling routine_filling
  used-most (the_module routines) ws h l = h
  used-most (a_routine m) ws h l = l

  placed-more : (s : Site) (ws vs : List ℤ) (a : Meaning) → Placed ((filling W s).memory_with ws) a → Placed ((filling W s).memory_with (ws ++ vs)) a
  unfolding Placed
  placed-more s ws vs a = holds (held_by a) more (λ k h. h)
    where
      more : (w : HeldSlots) → InPlace ((filling W s).memory_with ws) w → InPlace ((filling W s).memory_with (ws ++ vs)) w
      more w p = record {
        room = among-more s ws vs w.first w.size p.room;
        some = p.some;
        ranged = λ e. subst InNum (sym (load-more s ws vs w.first (room-one _ _ w.first w.size p.some p.room))) (p.ranged e);
      }

-- ---- the table, where no cell of it changes
pub means-same : (routine : ℕ → ℕ) (W : List Word) (S : Scopes) (X Y : List ℕ) → ((k : ℕ) → first_meaning ≤ k → get_or Y k 0 ≡ get_or X k 0) → Means routine W S X → Means routine W S Y
means-same routine W S X Y h t = record {
  means = λ i n. ap (meaning_in routine) (h (first_meaning + number_of W i) (omega arith)) ∙ t.means i n;
  guards = λ i n. ap protects_cell (h (first_meaning + number_of W i) (omega arith)) ∙ t.guards i n;
}

-- ---- one name more
module _ (W : List Word) (routine : ℕ → ℕ) (s : Site) (D : Data) (values mid after code code' : List ℕ) (i cell : ℕ) (a : Meaning) (vs : List ℤ) (x : ℕ) (f : Filled W routine s D values) where
  pub filled_on : IsName W i → cannot_declare (map text_of D.names) (spelled W i) ≡ false → number_at (cells_of code) i ≡ number_of W i
      → names.Declared code values i cell code' mid → protects_cell cell ≡ false → meaning_in routine cell ≡ a
      → Fills mid after (base_of (own_of s) + length D.words) (length vs) x → ((j : ℕ) → j < length vs → get_or vs j (pos 0) ≡ to_z w32 x)
      → length D.words + length vs ≤ (filling W s).limit → owned (own_of s) a ≡ true → Placed ((filling W s).memory_with (D.words ++ vs)) a → (fs : List Fault)
      → Filled W routine s (record { names = declare (spelled W i) a D.names; words = D.words ++ vs; faults = fs }) after
  filled_on name free number d plain says fills starts fits mine here fs =
      let text = spelled W i in
      let N = D.names in
      let M = (filling W s).memory_with (D.words ++ vs) in
      let S = (filling W s).scopes_with N in
      let T = (filling W s).scopes_with (declare text a N) in
      let hides : Hides S T text a = site-hides W s N text a free in
      let row : ℕ = first_meaning + number_at (cells_of code) i in
      let room : row * 4 + 4 ≤ length values = omega (arith, f.table) in
      let long : length after ≡ length values = fills.long ∙ put-length d.table room in
      let end : base_of (own_of s) + length D.words + length vs ≤ 1088 = omega (arith, cells-end W s (length D.words + length vs) fits) in
      let table : Means routine W T (cells_of mid) =
      declare-means routine W S T i name code values code' mid cell d number f.table (subst (Hides S T text) (sym says) hides) (may-declare (map text_of N) text free) plain f.means in
      let word-mid : (k : ℕ) → k < first_meaning → get_or (cells_of mid) k 0 ≡ get_or (cells_of values) k 0 = λ k l. put_other d.table room k (λ e. omega arith) in
      record {
        table = omega (arith, f.table, long);
        means = means-same routine W T (cells_of mid) (cells_of after) (λ k l. fills.above k (omega (arith, end))) table;
        owns = record {
          is = λ u p. test (equal_texts text u)
              (λ t. let e : text ≡ u = same-texts text u t in
              subst (λ (v : Text). is_among (map text_of (declare text a N)) v ≡ owned (own_of s) (meaning T v)) e
              (ap (λ (l : Names). is_among (map text_of l) text) (declared-front text a N free) ∙ among-here text (map text_of N) ∙ sym mine ∙ sym (ap (owned (own_of s)) hides.here)))
              (λ t. ap (λ (l : Names). is_among (map text_of l) u) (declared-front text a N free) ∙ among-further text u (map text_of N) t ∙ f.owns.is u p
              ∙ sym (ap (owned (own_of s)) (hides.elsewhere u (λ e. differing text u t (sym e)))));
        };
        placed = λ u. test (equal_texts text u)
            (λ t. let e : text ≡ u = same-texts text u t in subst (λ (v : Text). Placed M (meaning T v)) e (subst (Placed M) (sym hides.here) here))
            (λ t. subst (Placed M) (sym (hides.elsewhere u (λ e. differing text u t (sym e)))) (placed-more W s D.words vs (meaning S u) (f.placed u)));
        cells = λ r h. by-new W s D.words vs r h
            (λ o. ap (to_z w32) (fills.below (cell_of r) (cell-old W s D.words r f.most o) ∙ word-mid (cell_of r) (omega (arith, cell-old W s D.words r f.most o, end)))
            ∙ f.cells r o ∙ sym (load-more W s D.words vs r o))
            (λ j l e.
            let c : cell_of r ≡ base_of (own_of s) + length D.words + j = ap cell_of e ∙ cell-new W s (length D.words + j) ∙ omega arith in
            ap (λ (k : ℕ). to_z w32 (get_or (cells_of after) k 0)) c ∙ ap (to_z w32) (fills.here j l) ∙ sym (starts j l) ∙ sym (load-new W s D.words vs j) ∙ sym (ap (load M) e));
        most = most-more W s D.words vs fits f.most;
        window = window_more W s D.words vs fits f.window;
        errno = fills.above 1263 (omega (arith, end)) ∙ word-mid 1263 (omega arith) ∙ f.errno;
        small = f.small;
      }

-- ---- limits
pub crossing : (limit used own : ℕ) → used ≤ limit → limit < used + own → crosses limit used own ≡ true
unfolding crosses
crossing limit used own h g = rw (le-ltb limit used h) (lt-ltb limit (used + own) g)

pub not-crossing : (limit used own : ℕ) → used + own ≤ limit → crosses limit used own ≡ false
unfolding crosses
not-crossing limit used own g = rw (le-ltb limit used (omega arith)) (le-ltb limit (used + own) g)

-- ---- a routine's site
pub own-routine : (m : Module) → 1 ≡ own_of (a_routine m)
unfolding own_of
own-routine m = refl

pub limit-routine : (W : List Word) (m : Module) → 64 ≡ (filling W (a_routine m)).limit
unfolding filling routine_filling
limit-routine W m = refl
