-- What stays as it was, put together; and what of the words of a text stays known.
use Rattle.check_names.specs.Promises.{store_bytes, number_limit}
use Rattle.layout.specs.Parts.{link_part, spelled_part}
use mathlib.Core.Path.{◌≡◌, refl, sym, ap, ap₂, subst, ◌∙◌}
use mathlib.Core.Bool.{true}
use mathlib.Core.List.{List, map}
use Prim.Native.Nat.{ℕ, ◌+◌, ◌-◌, ◌*◌, ◌/◌, ◌%◌, ◌<◌, ◌≤◌}
use native.Mathlib.Omega.{arith}
use lib.ListN.{length, take, drop, get_or}
use lib.Seq.{take-take, drop-drop, get_or-take, get_or-drop}
use Rattle.laws.proofs.Tests.{test, by-same, false-true}
use Rattle.paper.specs.Sorts.{folded}
use Rattle.paper.specs.Words.{Word}
use Rattle.paper.specs.Expressions.{is_type, starts_routine}
use Rattle.store_cells.specs.Cells.{cells_of, Put}
use Rattle.store_cells.proofs.Laws.{words_take, words-drop}
use Rattle.store_cells.proofs.Kept.{put-length, put-take, put-drop, put_same, put_other}
use Rattle.code.specs.Cells.{op_in, value_in, head_at, tail_at, op_at, value_at}
use Rattle.check_names.specs.Numbers.{IsName}
use Rattle.check_names.proofs.Spellings.{name-inside}
use Rattle.check_heads.specs.Stores.{Kept, is_valued, Marked, Valued, Lain, Spells}

-- ---- cells outside
module _ {before after : List ℕ} {from to : ℕ} (k : Kept before after from to) where
  pub cell_below : (i : ℕ) → i < from → get_or (cells_of after) i 0 ≡ get_or (cells_of before) i 0
  cell_below i h =
      let t : take from (cells_of after) ≡ take from (cells_of before) = sym (words_take from after) ∙ ap cells_of k.below ∙ words_take from before in
      sym (get_or-take from (cells_of after) i 0 h) ∙ ap (λ (l : List ℕ). get_or l i 0) t ∙ get_or-take from (cells_of before) i 0 h

  pub cell-above : (i : ℕ) → to ≤ i → get_or (cells_of after) i 0 ≡ get_or (cells_of before) i 0
  cell-above i h =
      let t : drop to (cells_of after) ≡ drop to (cells_of before) = sym (words-drop to after) ∙ ap cells_of k.above ∙ words-drop to before in
      let s : to + (i - to) ≡ i = omega arith in
      sym (ap (λ (n : ℕ). get_or (cells_of after) n 0) s) ∙ sym (get_or-drop to (cells_of after) (i - to) 0)
      ∙ ap (λ (l : List ℕ). get_or l (i - to) 0) t
      ∙ get_or-drop to (cells_of before) (i - to) 0 ∙ ap (λ (n : ℕ). get_or (cells_of before) n 0) s

  pub kept-wider : (a b : ℕ) → a ≤ from → to ≤ b → Kept before after a b
  kept-wider a b h g =
      let s : to * 4 + (b * 4 - to * 4) ≡ b * 4 = omega arith in
      record {
        below = sym (take-take (a * 4) (from * 4) after (omega arith)) ∙ ap (take (a * 4)) k.below ∙ take-take (a * 4) (from * 4) before (omega arith);
        above = sym (ap (λ (n : ℕ). drop n after) s) ∙ sym (drop-drop (b * 4 - to * 4) (to * 4) after)
            ∙ ap (drop (b * 4 - to * 4)) k.above
            ∙ drop-drop (b * 4 - to * 4) (to * 4) before ∙ ap (λ (n : ℕ). drop n before) s;
        long = k.long;
      }

pub kept_same : (l : List ℕ) (a b : ℕ) → Kept l l a b
kept_same l a b = record { below = refl; above = refl; long = refl }

pub kept_on : {x y z : List ℕ} {a b : ℕ} → Kept x y a b → Kept y z a b → Kept x z a b
kept_on p q = record { below = q.below ∙ p.below; above = q.above ∙ p.above; long = q.long ∙ p.long }

pub put-kept : {before after : List ℕ} {i v : ℕ} (a b : ℕ) → Put before after i v → i * 4 + 4 ≤ length before → a ≤ i → i < b → Kept before after a b
put-kept a b p h l u = record { below = put-take p h (a * 4) (omega arith); above = put-drop p h (b * 4) (omega arith); long = put-length p h }

-- ---- marks
pub marked-same : (code : List ℕ) (a b : ℕ) → Marked code code a b
marked-same code a b = record { kept = kept_same code (a * 2) (b * 2); ops = λ i. refl; heads = λ i h. refl; tails = λ i. refl }

pub marked-on : {x y z : List ℕ} {a b : ℕ} → Marked x y a b → Marked y z a b → Marked x z a b
marked-on p q = record {
  kept = kept_on p.kept q.kept;
  ops = λ i. q.ops i ∙ p.ops i;
  heads = λ i h. q.heads i (ap is_valued (p.ops i) ∙ h) ∙ p.heads i h;
  tails = λ i. q.tails i ∙ p.tails i;
}

module _ {before after : List ℕ} {from to : ℕ} (p : Marked before after from to) where
  pub marked-wider : (a b : ℕ) → a ≤ from → to ≤ b → Marked before after a b
  marked-wider a b h g = record { kept = kept-wider p.kept (a * 2) (b * 2) (omega arith) (omega arith); ops = p.ops; heads = p.heads; tails = p.tails }

  pub head-below : (i : ℕ) → i < from → head_at (cells_of after) i ≡ head_at (cells_of before) i
  head-below i h = cell_below p.kept (i * 2) (omega arith)

  pub head-above : (i : ℕ) → to ≤ i → head_at (cells_of after) i ≡ head_at (cells_of before) i
  head-above i h = cell-above p.kept (i * 2) (omega arith)

  -- the words are still known
  name-head : (W : List Word) → Lain W before → (i : ℕ) → IsName W i → head_at (cells_of after) i ≡ head_at (cells_of before) i
  unfolding is_valued is_type starts_routine
  name-head W l i n = p.heads i (ap is_valued (l.sorts i (name-inside W i n) ∙ n))

  pub lain-kept : (W : List Word) → Lain W before → Lain W after
  lain-kept W l = record {
    sorts = λ i h. p.ops i ∙ l.sorts i h;
    numbers = λ i n. ap (λ (x : ℕ). x / 256 % number_limit) (name-head W l i n) ∙ l.numbers i n;
    most = l.most;
    room = subst (λ (n : ℕ). store_bytes ≤ n) (sym p.kept.long) l.room;
  }

  pub spells-kept : (text : List ℕ) (W : List Word) → Lain W before → Spells text W before → Spells text W after
  spells-kept text W l s = record {
    inside = λ i n. subst (λ (x : ℕ). x % link_part + head_at (cells_of after) i / 256 / spelled_part ≤ length text) (sym (p.tails i))
        (subst (λ (x : ℕ). tail_at (cells_of before) i % link_part + x / 256 / spelled_part ≤ length text) (sym (name-head W l i n)) (s.inside i n));
    is = λ i n. ap₂ (λ (x y : ℕ). map folded (take (y / 256 / spelled_part) (drop (x % link_part) text))) (p.tails i) (name-head W l i n) ∙ s.is i n;
  }

-- ---- a value is given
module _ {before after : List ℕ} (i v : ℕ) (p : Valued before after i v) (room : i * 8 + 8 ≤ length before) where
  head-is : head_at (cells_of after) i ≡ op_at (cells_of before) i + 256 * v
  head-is = put_same p (omega arith)

  pub valued-value : value_at (cells_of after) i ≡ v
  valued-value = ap value_in head-is ∙ high (head_at (cells_of before) i) v
    where
      high : (w v : ℕ) → (w % 256 + 256 * v) / 256 ≡ v
      high w v = omega arith

  pub valued-op : op_at (cells_of after) i ≡ op_at (cells_of before) i
  valued-op = ap op_in head-is ∙ low (head_at (cells_of before) i) v
    where
      low : (w v : ℕ) → (w % 256 + 256 * v) % 256 ≡ w % 256
      low w v = omega arith

  pub valued-other : (j : ℕ) → (j ≡ i → ⊥) → head_at (cells_of after) j ≡ head_at (cells_of before) j
  valued-other j d = put_other p (omega arith) (j * 2) (λ e. d (omega arith))

  pub valued-marked : is_valued (op_at (cells_of before) i) ≡ true → Marked before after i (i + 1)
  valued-marked h = record {
    kept = put-kept (i * 2) ((i + 1) * 2) p (omega arith) (omega arith) (omega arith);
    ops = λ j. by-same j i (λ e. rw e valued-op) (λ d. ap op_in (valued-other j d));
    heads = λ j z. by-same j i (λ e. false-true (sym z ∙ ap (λ (k : ℕ). is_valued (op_at (cells_of before) k)) e ∙ h)) (λ d. valued-other j d);
    tails = λ j. put_other p (omega arith) (j * 2 + 1) (λ e. omega arith);
  }

-- a type, or what a routine begins with
pub valued-type : (s : ℕ) → is_type s ≡ true → is_valued s ≡ true
unfolding is_valued
valued-type s h = rw h

pub valued-routine : (s : ℕ) → starts_routine s ≡ true → is_valued s ≡ true
unfolding is_valued
valued-routine s h = test (is_type s) (λ t. rw t) (λ t. rw t h)
