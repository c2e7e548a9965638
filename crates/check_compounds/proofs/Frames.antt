-- What a change of some words leaves as it was, and what is known of the words behind them.
use mathlib.Core.Path.{◌≡◌, refl, sym, ap, ◌∙◌}
use mathlib.Core.List.{List}
use Prim.Native.Nat.{ℕ, ◌+◌, ◌*◌, ◌%◌, ◌<◌, ◌≤◌}
use native.Mathlib.Omega.{arith}
use lib.ListN.{length}
use Rattle.store_cells.specs.Cells.{cells_of}
use Rattle.paper.specs.Words.{Word}
use Rattle.paper.specs.Trees.{Expr, Statements}
use Rattle.paper.specs.Names.{Scopes, Meaning}
use Rattle.code.specs.Cells.{op_in, value_in, place_in, link_in, head_at, tail_at, op_at, value_at, place_at, link_at}
use Rattle.check_expressions.specs.Known.{Fresh, held_by, Within}
use Rattle.check_expressions.proofs.NamesHeld.{holds, room-more}
use Rattle.store_writing.specs.Promises.{Kept, Linked}
use Rattle.store_writing.proofs.Keeping.{cell_below, cell-above}
use Rattle.check_constants.specs.Answers.{Fine}
use Rattle.check_links.specs.Raw.{Ground, SameWords, RawWord, RawTerm, RawBound, RawList}
use Rattle.check_links.proofs.Framing.{same-cells, same-moves, list-frame}
use Rattle.check_links.proofs.Moving.{term-moves, bound-moves}
use Rattle.check_around.specs.declared.Setting.{Setting}
use Rattle.check_around.specs.Around.{Around, Unread, Calls}
use Rattle.check_compounds.specs.Here.{Outside, Here}
use Rattle.store_writing.specs.Promises.{Rewritten}
use Rattle.store_writing.proofs.Rewriting.{rewritten-other}

-- ---- cells outside some words
pub outside-same : (C : List ℕ) (a b : ℕ) → Outside C C a b
outside-same C a b = record { below = λ i h. refl; above = λ i h. refl }

pub outside_wider : {C D : List ℕ} {a b : ℕ} (x y : ℕ) → Outside C D a b → x ≤ a → b ≤ y → Outside C D x y
outside_wider x y o h g = record { below = λ i l. o.below i (omega arith); above = λ i l. o.above i (omega arith) }

pub outside-on : {C D E : List ℕ} {a b : ℕ} → Outside C D a b → Outside D E a b → Outside C E a b
outside-on p q = record { below = λ i h. q.below i h ∙ p.below i h; above = λ i h. q.above i h ∙ p.above i h }

pub kept-outside : {before after : List ℕ} {a b : ℕ} → Kept before after a b → Outside (cells_of before) (cells_of after) a b
kept-outside k = record { below = cell_below k; above = cell-above k }

-- words before and behind
pub same-before : {C D : List ℕ} {a b : ℕ} (x y : ℕ) → Outside C D a b → y ≤ a → SameWords C D x y
same-before {C} {D} x y o h = same-cells C D x y (λ k l u. sym (o.below k (omega arith)))

pub same-behind : {C D : List ℕ} {a b : ℕ} (x y : ℕ) → Outside C D a b → b ≤ x → SameWords C D x y
same-behind {C} {D} x y o h = same-cells C D x y (λ k l u. sym (o.above k (omega arith)))

pub same-on : {C D E : List ℕ} {x y : ℕ} → SameWords C D x y → SameWords D E x y → SameWords C E x y
same-on p q = record { heads = λ i l h. p.heads i l h ∙ q.heads i l h; tails = λ i l h. p.tails i l h ∙ q.tails i l h }

-- one word
module _ {C D : List ℕ} {a b : ℕ} (o : Outside C D a b) where
  pub head-before : (i : ℕ) → i < a → head_at D i ≡ head_at C i
  head-before i h = o.below (i * 2) (omega arith)

  pub head-behind : (i : ℕ) → b ≤ i → head_at D i ≡ head_at C i
  head-behind i h = o.above (i * 2) (omega arith)

  pub tail-before : (i : ℕ) → i < a → tail_at D i ≡ tail_at C i
  tail-before i h = o.below (i * 2 + 1) (omega arith)

  pub tail-behind : (i : ℕ) → b ≤ i → tail_at D i ≡ tail_at C i
  tail-behind i h = o.above (i * 2 + 1) (omega arith)

-- ---- words that the check has not come to
module _ (W : List Word) (before after : List ℕ) {a b : ℕ} (o : Outside (cells_of before) (cells_of after) a b) (long : length after ≡ length before) where
  fresh-behind : (i : ℕ) → b ≤ i → Fresh W (cells_of before) i → Fresh W (cells_of after) i
  fresh-behind i h f =
      let e = head-behind o i h in
      record {
        sort = ap op_in e ∙ f.sort;
        value = λ q. ap value_in e ∙ f.value q;
        number = λ q. rw e (f.number q);
      }

  pub unread-behind : {at to : ℕ} (x y : ℕ) → Unread W before at to → at ≤ x → b ≤ x → y ≤ to → Unread W after x y
  unread-behind x y u h g k = record {
    loaded = record {
      words = λ i l m. fresh-behind i (omega arith) (u.loaded.words i (omega arith) (omega arith));
      last = omega (arith, u.loaded.last);
      room = omega (arith, u.loaded.room, long);
      whole = ap (λ (x : ℕ). x % 8) long ∙ u.loaded.whole;
    };
    strings = λ i l m q. ap value_in (head-behind o i (omega arith)) ∙ u.strings i (omega arith) (omega arith) q;
    places = λ i l m. ap place_in (tail-behind o i (omega arith)) ∙ u.places i (omega arith) (omega arith);
  }

pub calls-behind : {text values before after : List ℕ} {a b at to : ℕ} (g : Around text values) → Outside (cells_of before) (cells_of after) a b → length after ≡ length before
    → (x y : ℕ) → Calls g before at to → at ≤ a → b ≤ to + 1 → at ≤ x → y ≤ to → Calls g after x y
calls-behind g o long x y c h k l m = record {
  heads = λ D p. c.heads D (record {
    below = λ i q. p.below i (omega arith) ∙ head-before o i (omega arith);
    above = λ i q. p.above i (omega arith) ∙ head-behind o i (omega arith);
  });
  room = omega (arith, c.room, long);
}

-- ---- more words of the routine are taken
pub within_more : (m n p : ℕ) (x : Meaning) → n ≤ p → Within m n x → Within m p x
unfolding Within
within_more m n p x h = holds (held_by x) (λ w. room-more m n p w.first w.size h) (λ k g. g)

pub fine_more : (m n p : ℕ) (X : List ℕ) (M : Rattle.paper.specs.Terms.Memory) (x : Meaning) → n ≤ p → Fine m n X M x → Fine m p X M x
unfolding Fine
fine_more m n p X M x h = holds (held_by x) (λ w v e. record { room = room-more m n p w.first 1 h (v e).room; is = (v e).is; ranged = (v e).ranged }) (λ k g. g)

-- ---- further on
-- The words up to b have been written, and the routine has used p words: what is known of the words from x up to y.
pub here-from : {text values : List ℕ} (g : Around text values) (before after : List ℕ) (k : Setting) (n at to : ℕ) {a b : ℕ} (p x y : ℕ) → Here g before k n at to → Outside (cells_of before) (cells_of after) a b → length after ≡ length before
    → n ≤ p → p ≤ 64 → at ≤ x → b ≤ x → y ≤ to → Calls g after x y → Here g after k p x y
here-from g before after k n at to p x y h o long few-more few q r s c = record {
  tells = h.tells;
  few = few;
  within = λ i z. within_more _ _ p _ few-more (h.within i z);
  fine = λ t. fine_more _ _ p _ _ _ few-more (h.fine t);
  number = h.number;
  unread = unread-behind _ before after o long x y h.unread q r s;
  calls = c;
}

-- the same for words from a up to b that are among those from `at` up to `to`
pub here_on : {text values : List ℕ} (g : Around text values) (before after : List ℕ) (k : Setting) (n at to : ℕ) {a b : ℕ} (p x y : ℕ) → Here g before k n at to → Outside (cells_of before) (cells_of after) a b → length after ≡ length before
    → n ≤ p → p ≤ 64 → at ≤ a → b ≤ to + 1 → at ≤ x → b ≤ x → y ≤ to → Here g after k p x y
here_on g before after k n at to p x y h o long few-more few l m q r s = here-from g before after k n at to p x y h o long few-more few q r s (calls-behind g o long x y h.calls l m q s)

-- fewer words
pub here-part : {text values : List ℕ} (g : Around text values) (code : List ℕ) (k : Setting) (n at to x y : ℕ) → Here g code k n at to → at ≤ x → x ≤ to → y ≤ to → Here g code k n x y
here-part g code k n at to x y h q r s =
    here_on g code code k n at to n x y h (outside-same (cells_of code) x x) refl (omega arith) h.few q (omega arith) q (omega arith) s

-- ---- what has been written stays
pub term-same : (g : Ground) (n : ℕ) (C D : List ℕ) (S : Scopes) (e : Expr) (a b : ℕ) → SameWords C D a b → RawTerm g n C S e a b → RawTerm g n D S e a b
term-same g n C D S e a b s t = term-moves g n n (omega arith) C D a b 0 0 (same-moves C D a b 0 s) S e a b (omega arith) (omega arith) t

pub bound-same : (g : Ground) (n : ℕ) (C D : List ℕ) (S : Scopes) (e : Expr) (w z : ℕ) → SameWords C D w z → RawBound g n C S e w z → RawBound g n D S e w z
bound-same g n C D S e w z s t = bound-moves g n n (omega arith) C D w z 0 0 (same-moves C D w z 0 s) S e w z (omega arith) (omega arith) t

pub list_same : (g : Ground) (n : ℕ) (C D : List ℕ) (l : Statements) (S : Scopes) (used a b : ℕ) → SameWords C D a b → RawList g n C l S used a b → RawList g n D l S used a b
list_same g n C D l S used a b s x = list-frame g n n (omega arith) C D a b s l S used a b (omega arith) (omega arith) x

-- one word
module _ {C D : List ℕ} {a b : ℕ} (s : SameWords C D a b) (i : ℕ) (l : a ≤ i) (h : i < b) where
  pub op_same : (x : ℕ) → op_at C i ≡ x → op_at D i ≡ x
  op_same x e = sym (ap op_in (s.heads i l h)) ∙ e

  pub value_same : (x : ℕ) → value_at C i ≡ x → value_at D i ≡ x
  value_same x e = sym (ap value_in (s.heads i l h)) ∙ e

  pub place_same : (x : ℕ) → place_at C i ≡ x → place_at D i ≡ x
  place_same x e = sym (ap place_in (s.tails i l h)) ∙ e

  pub link-same : (x : ℕ) → link_at C i ≡ x → link_at D i ≡ x
  link-same x e = sym (ap link_in (s.tails i l h)) ∙ e

  pub word_same : (op out : ℕ) → RawWord C op i out → RawWord D op i out
  word_same op out w = record { is = op_same op w.is; leaves = link-same out w.leaves }

-- the word that is written
module _ {before after : List ℕ} {i op value link : ℕ} (k : Linked before after i op value link) where
  pub linked-outside : Outside (cells_of before) (cells_of after) i (i + 1)
  linked-outside = kept-outside k.kept

  pub linked-word : RawWord (cells_of after) op i link
  linked-word = record { is = k.op-is; leaves = k.link-is }

pub rewritten-outside : {before after : List ℕ} {i head tail : ℕ} → Rewritten before after i head tail → i * 8 + 8 ≤ length before → Outside (cells_of before) (cells_of after) i (i + 1)
rewritten-outside {i = i} r h = record { below = λ k l. rewritten-other r h k (λ e. omega arith) (λ e. omega arith); above = λ k l. rewritten-other r h k (λ e. omega arith) (λ e. omega arith) }
