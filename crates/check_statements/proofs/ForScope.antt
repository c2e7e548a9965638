-- A FOR's list is entered: its name means the FOR's word, and then again what it meant.
use Rattle.paper.specs.Declarations.{module_word_limit}
use Rattle.layout.specs.Parts.{link_part}
use mathlib.Core.Path.{◌≡◌, refl, sym, ap, subst, ◌∙◌}
use mathlib.Core.Bool.{false}
use mathlib.Core.List.{List, [], ◌∷◌, map}
use Prim.Native.Nat.{ℕ, zero, suc, ◌+◌, ◌*◌, ◌/◌, ◌%◌, ◌<◌, ◌≤◌}
use native.Mathlib.Omega.{arith}
use lib.ListN.{length, get_or, set}
use mir.Syntax.{w32}
use mir.Val.{to_z}
use Rattle.laws.proofs.Tests.{test, apart, false-true}
use Rattle.store_cells.specs.Cells.{cells_of}
use Rattle.store_cells.proofs.Kept.{put-length, put_other}
use Rattle.paper.specs.Sorts.{equal_texts}
use Rattle.paper.specs.Terms.{Ref, of_module, of_routine}
use Rattle.paper.specs.Names.{Meaning, loop, the_routine, Text, Names, text_of, Scopes, spelled, is_among, meaning, hides_own, enter}
use Rattle.code.specs.Cells.{op_in, head_at, tail_at, link_at, first_window}
use Rattle.check_names.specs.Numbers.{number_of, IsName}
use Rattle.check_names.specs.Meanings.{cell_with, meaning_with, meaning_in, is_protected, protects_cell, Hides, first_meaning}
use Rattle.check_names.specs.Promises.{number_at, Declared, Left, number_limit, store_bytes}
use Rattle.check_names.proofs.Spellings.{same-texts, differing}
use Rattle.check_names.proofs.Tables.{meaning-with, declare-means, enter-hides}
use Rattle.store_writing.proofs.Rewriting.{rewritten-head, rewritten-tail}
use Rattle.check_expressions.specs.Known.{InRoom, held_by, Within}
use Rattle.check_expressions.specs.Owned.{owned, Owns}
use Rattle.check_expressions.proofs.NamesHeld.{holds}
use Rattle.check_constants.specs.Answers.{cell_of, Fine}
use Rattle.check_around.specs.declared.Setting.{Setting}
use Rattle.check_around.specs.Around.{Around}
use Rattle.check_compounds.specs.Here.{Outside, Here}
use Rattle.check_statements.specs.Answers.{SameValues}
use Rattle.check_compounds.proofs.Frames.{within_more, fine_more, unread-behind, calls-behind}
use Rattle.layout.specs.Kinds.{a_loop}

-- ---- a cell that is set and then set back
restored : (X : List ℕ) (c m : ℕ) → set (set X c m) c (get_or X c 0) ≡ X
restored [] c m = refl
restored (x ∷ X) zero m = refl
restored (x ∷ X) (suc c) m = ap (λ (r : List ℕ). x ∷ r) (restored X c m)

-- ---- a FOR's name hides nothing of its routine: names of that are told by what they mean inside too
module _ (S : Scopes) (text : Text) (r : Ref) where
  entered-own : (enter text r S).own ≡ S.own
  unfolding enter
  entered-own = refl

  no-data : owned 1 (loop r) ≡ false
  unfolding owned
  no-data = refl

  none-of-own : hides_own S text ≡ false → is_among (map text_of S.own) text ≡ false
  unfolding hides_own
  none-of-own h = h

  pub enter-owns : is_protected text ≡ false → hides_own S text ≡ false → Owns 1 S.own S → Owns 1 (enter text r S).own (enter text r S)
  enter-owns free apart o =
      let h = enter-hides S text r free in
      record {
        is = λ u p.
            ap (λ (N : Names). is_among (map text_of N) u) entered-own
            ∙ test (equal_texts u text)
            (λ e. let q = same-texts u text e in ap (is_among (map text_of S.own)) q ∙ none-of-own apart ∙ sym (ap (owned 1) (ap (meaning (enter text r S)) q ∙ h.here) ∙ no-data))
            (λ f. o.is u p ∙ sym (ap (owned 1) (h.elsewhere u (differing u text f))));
      }

-- ---- the cell of a FOR's name
pub loop-within : (used x y : ℕ) → used < y → Within x y (loop (of_routine used))
unfolding Within InRoom
loop-within used x y h = omega arith

pub loop-means : (routine : ℕ → ℕ) (m used : ℕ) → m ≡ cell_with a_loop 0 1 used → meaning_in routine m ≡ loop (of_routine used)
unfolding meaning_with
loop-means routine m used e =
    let c : m ≡ cell_with a_loop 0 1 used = omega arith in
    ap (meaning_in routine) c ∙ meaning-with routine 4 0 1 used (omega arith) (omega arith) (omega arith)

pub loop-plain : (m used : ℕ) → m ≡ cell_with a_loop 0 1 used → protects_cell m ≡ false
loop-plain m used e = let o : op_in m ≡ 17 = omega arith in rw o

module _ {text values : List ℕ} (a : Around text values) (one two values' : List ℕ) (used i m : ℕ) (em : m ≡ cell_with a_loop 0 1 used) (name : IsName a.known.W i) (free : is_protected (spelled a.known.W i) ≡ false)
    (unhidden : hides_own a.known.S (spelled a.known.W i) ≡ false) (number : number_at (cells_of one) i ≡ number_of a.known.W i) (room : i * 8 + 8 ≤ length one) (dec : Declared one values i m two values') where
  pub hides : Hides a.known.S (enter (spelled a.known.W i) (of_routine used) a.known.S) (spelled a.known.W i) (loop (of_routine used))
  hides = enter-hides a.known.S (spelled a.known.W i) (of_routine used) free

  low : number_at (cells_of one) i < number_limit
  low = omega arith

  pub longer : length values' ≡ length values
  longer = put-length dec.table (omega (arith, low, a.known.table))

  -- what holds of what a text meant, and of the loop's word, holds of what it means now
  pub by-text : (Q : Meaning → Type 0) (t : Text) → Q (loop (of_routine used)) → Q (meaning a.known.S t) → Q (meaning (enter (spelled a.known.W i) (of_routine used) a.known.S) t)
  by-text Q t here there =
      test (equal_texts t (spelled a.known.W i))
      (λ e. subst Q (sym (ap (meaning (enter (spelled a.known.W i) (of_routine used) a.known.S)) (same-texts t (spelled a.known.W i) e) ∙ hides.here)) here)
      (λ f. subst Q (sym (hides.elsewhere t (differing t (spelled a.known.W i) f))) there)

  pub no-routine : (k : ℕ) → loop (of_routine used) ≡ the_routine k → k < length a.R
  no-routine k z = apart (cc)

  abbrev pub inner : used < a.known.n → Around text values'
  inner n = record {
    known = record {
      W = a.known.W;
      S = enter (spelled a.known.W i) (of_routine used) a.known.S;
      routine = a.known.routine;
      m = a.known.m;
      n = a.known.n;
      most = a.known.most;
      table = subst (λ (l : ℕ). store_bytes ≤ l) (sym longer) a.known.table;
      means = declare-means a.known.routine a.known.W a.known.S (enter (spelled a.known.W i) (of_routine used) a.known.S) i name one values two values' m dec number a.known.table
          (subst (Hides a.known.S (enter (spelled a.known.W i) (of_routine used) a.known.S) (spelled a.known.W i)) (sym (loop-means a.known.routine m used em)) hides) free (loop-plain m used em) a.known.means;
      within = λ j q. by-text (Within a.known.m a.known.n) (spelled a.known.W j) (loop-within used a.known.m a.known.n n) (a.known.within j q);
      small = a.known.small;
    };
    R = a.R;
    K = a.K;
    M = a.M;
    numbers = a.numbers;
    callable = λ j k q e. by-text (λ (x : Meaning). x ≡ the_routine k → k < length a.R) (spelled a.known.W j) (no-routine k) (a.callable j k q) e;
    owns = enter-owns a.known.S (spelled a.known.W i) (of_routine used) free unhidden a.owns;
    quoted = a.quoted;
    sorts = a.sorts;
  }

  -- ---- constants are worth what they were: their words lie before the table
  data-cell : (x y : ℕ) (r : Ref) → InRoom x y r 1 → x ≤ module_word_limit → y ≤ 64 → get_or (cells_of values') (cell_of r) 0 ≡ get_or (cells_of values) (cell_of r) 0
  unfolding InRoom cell_of
  data-cell x y (of_module c) h q r = put_other dec.table (omega (arith, low, a.known.table)) c (λ e. omega arith)
  data-cell x y (of_routine c) h q r = put_other dec.table (omega (arith, low, a.known.table)) (first_window + c) (λ e. omega arith)

  fine-on : (x y : ℕ) (z : Meaning) → x ≤ module_word_limit → y ≤ 64 → Fine x y (cells_of values) a.M z → Fine x y (cells_of values') a.M z
  unfolding Fine
  fine-on x y z q r =
      holds (held_by z) (λ w v e. record { room = (v e).room; is = ap (to_z w32) (data-cell x y w.first (v e).room q r) ∙ (v e).is; ranged = (v e).ranged }) (λ k g. g)

  loop-fine : (x y : ℕ) (X : List ℕ) → Fine x y X a.M (loop (of_routine used))
  unfolding Fine
  loop-fine x y X e = false-true e

  -- ---- the words of the list
  pub enters : (n : used < a.known.n) (code : List ℕ) (k : Setting) (at to x y : ℕ) {p q : ℕ} → Here a code k used at to → used < 64 → Outside (cells_of code) (cells_of two) p q → length two ≡ length code
      → at ≤ p → q ≤ to + 1 → at ≤ x → q ≤ x → y ≤ to → Here (inner n) two k (used + 1) x y
  enters n code k at to x y h few o long l1 l2 l3 l4 l5 =
      let c = calls-behind a o long x y h.calls l1 l2 l3 l5 in
      record {
        tells = h.tells;
        few = omega arith;
        within = λ j q. by-text (Within a.known.m (used + 1)) (spelled a.known.W j) (loop-within used a.known.m (used + 1) (omega arith)) (within_more _ used (used + 1) _ (omega arith) (h.within j q));
        fine = λ t. by-text (Fine a.known.m (used + 1) (cells_of values') a.M) t (loop-fine a.known.m (used + 1) (cells_of values'))
            (fine_more a.known.m used (used + 1) (cells_of values') a.M _ (omega arith) (fine-on a.known.m used _ a.known.most (omega arith) (h.fine t)));
        number = subst (λ (v : ℕ). v < 2147483648) (sym (put_other dec.table (omega (arith, low, a.known.table)) 1263 (λ e. omega arith))) h.number;
        unread = unread-behind a.known.W code two o long x y h.unread l3 l4 l5;
        calls = record { heads = c.heads; room = c.room };
      }

  -- ---- the name is left
  module _ (three values'' values''' : List ℕ) (head : head_at (cells_of three) i ≡ head_at (cells_of two) i) (tail : tail_at (cells_of three) i ≡ tail_at (cells_of two) i) (same : SameValues values' values'') where
    link-is : link_at (cells_of three) i ≡ number_at (cells_of one) i
    link-is = ap (λ (v : ℕ). v / link_part) (tail ∙ rewritten-tail dec.word room) ∙ part (tail_at (cells_of one) i) (number_at (cells_of one) i)
      where
        part : (t n : ℕ) → (t % link_part + link_part * n) / link_part ≡ n
        part t n = omega arith

    pub leaves-links : (link_at (cells_of three) i < number_limit) × (store_bytes ≤ length values'')
    leaves-links = (omega (arith, link-is), omega (arith, same.long, longer, a.known.table))

    pub leaves : Left three values'' i values''' → SameValues values values'''
    leaves l =
        let cell : head_at (cells_of three) i ≡ get_or (cells_of values) (first_meaning + number_at (cells_of one) i) 0 = head ∙ rewritten-head dec.word room in
        record {
          words = l.words ∙ ap (λ (X : List ℕ). set X (first_meaning + link_at (cells_of three) i) (head_at (cells_of three) i)) (same.words ∙ dec.table.words)
              ∙ ap (λ (v : ℕ). set (set (cells_of values) (first_meaning + number_at (cells_of one) i) m) (first_meaning + v) (head_at (cells_of three) i)) link-is
              ∙ ap (set (set (cells_of values) (first_meaning + number_at (cells_of one) i) m) (first_meaning + number_at (cells_of one) i)) cell
              ∙ restored (cells_of values) (first_meaning + number_at (cells_of one) i) m;
          long = put-length l (omega (arith, link-is, low, same.long, longer, a.known.table)) ∙ same.long ∙ longer;
        }
