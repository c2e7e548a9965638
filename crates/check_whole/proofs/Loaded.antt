-- What the walk over names and types takes from the loading.
use mathlib.Core.Path.{◌≡◌, refl, ap, ◌∙◌}
use mathlib.Core.Bool.{false}
use mathlib.Core.List.{List}
use Prim.Native.Nat.{ℕ, ◌+◌, ◌-◌, ◌*◌, ◌%◌, ◌<◌, ◌≤◌}
use native.Mathlib.Omega.{arith}
use lib.ListN.{length, get_or, take, drop, get_or-eq_default}
use Rattle.laws.proofs.Tests.{by_less}
use Rattle.paper.specs.Sorts.{NAME, NUMBER, STRING, ENDMODULE}
use Rattle.paper.specs.Words.{Word}
use Rattle.paper.specs.Trees.{Module}
use Rattle.paper.specs.Expressions.{is_type, starts_routine}
use Rattle.paper.specs.Names.{no_word, nth, sort_in}
use Rattle.store_cells.specs.Cells.{cells_of}
use Rattle.code.specs.Cells.{head_at, op_at, value_at, value_in, place_in, op_in}
use Rattle.code.specs.Steps.{a_target}
use Rattle.grammar.specs.Form.{Parses, Stands}
use Rattle.grammar.proofs.Reading.{formed-parses}
use Rattle.check_load.specs.Layout.{words_in, head_value}
use Rattle.check_load.proofs.Bounds.{reading-good, reading-most}
use Rattle.check_load.proofs.Results.{loads-sorts, loads-numbers}
use Rattle.check_expressions.specs.Known.{Fresh, largest}
use Rattle.check_heads.specs.Stores.{Marked, is_valued}
use Rattle.check_heads.specs.Reads as heads
use Rattle.check_around.specs.Around.{Quoted, Unread}
use Rattle.check_whole.specs.Walks.{Laid, Formed}
use Rattle.layout.specs.Parts.{spelled_part, value_part}

-- ---- words
module _ (text : List ℕ) where
  abbrev W : List Word
  W = words_in text

  behind : (i : ℕ) → length W ≤ i → sort_in W i ≡ 0
  unfolding sort_in nth no_word
  behind i h = ap (λ (w : Word). w.sort) (get_or-eq_default W no_word h)

  -- sorts are lower than the ops of steps
  pub sorts-low : (i : ℕ) → sort_in W i < a_target
  unfolding sort_in
  sorts-low i = by_less i (length W) (λ h. (reading-good text i h).sizes.sorts) (λ h. omega (arith, behind i h))

  inside : (i s : ℕ) → 0 < s → sort_in W i ≡ s → i < length W
  inside i s h e = by_less i (length W) (λ l. l) (λ l. absurd (omega (arith, behind i l)))

  pub strings-quoted : (i : ℕ) → sort_in W i ≡ STRING → Quoted text (nth W i)
  unfolding sort_in
  strings-quoted i e =
      let h = inside i STRING (omega arith) e in
      let g = reading-good text i h in
      let z : (nth W i).place - 0 ≡ (nth W i).place = omega arith in
      record { covers = g.lies.is ∙ ap (λ (k : ℕ). take (length (nth W i).covers) (drop k text)) z; inside = omega (arith, g.lies.inside); least = g.sizes.strings e; most = g.sizes.string-most e }

  pub numbers-small : (i : ℕ) → sort_in W i ≡ NUMBER → (nth W i).value ≤ largest
  numbers-small i e = (reading-good text i (inside i NUMBER (omega arith) e)).sizes.values

  -- All words are those of the module.
  pub module-words : (m : Module) (f : Stands (sort_in W) (Parses (sort_in W)) m) → length W ≡ f.form.end + 1
  unfolding sort_in
  module-words m f =
      let a = inside f.form.end ENDMODULE (omega arith) f.form.closes in
      by_less f.words (length W) (λ h. absurd (omega (arith, real f.words h, f.form.nothing))) (λ h. omega (arith, f.form.after))
    where
      real : (i : ℕ) → i < length W → 0 < sort_in W i
      real i h = (reading-good text i h).sizes.real

-- ---- cells
-- words whose values are not changed by what is read of the heads
plain-number : is_valued NUMBER ≡ false
unfolding is_valued is_type starts_routine
plain-number = refl

plain-string : is_valued STRING ≡ false
unfolding is_valued is_type starts_routine
plain-string = refl

plain-name : is_valued NAME ≡ false
unfolding is_valued is_type starts_routine
plain-name = refl

module _ (text code values : List ℕ) (words : ℕ) (l : Laid text code values words) where
  -- a word that is no name has its value, and a string its length
  value_of : (i : ℕ) → i < length (words_in text) → sort_in (words_in text) i ≡ NUMBER → value_at (cells_of code) i ≡ (nth (words_in text) i).value
  unfolding head_value
  value_of i h e =
      ap value_in (l.loads.heads i h ∙ ap (λ (x : ℕ). x + value_part * head_value (words_in text) i) e)
      ∙ high 2 (head_value (words_in text) i) (omega arith) ∙ rw e
    where
      high : (sort v : ℕ) → sort < value_part → value_in (sort + value_part * v) ≡ v
      high sort v b = omega arith

  length-of : (i : ℕ) → i < length (words_in text) → sort_in (words_in text) i ≡ STRING → value_at (cells_of code) i ≡ length (nth (words_in text) i).covers
  unfolding head_value
  length-of i h e =
      ap value_in (l.loads.heads i h ∙ ap (λ (x : ℕ). x + value_part * head_value (words_in text) i) e)
      ∙ high 3 (head_value (words_in text) i) (omega arith) ∙ rw e
    where
      high : (sort v : ℕ) → sort < value_part → value_in (sort + value_part * v) ≡ v
      high sort v b = omega arith

  module _ (code' : List ℕ) (from upto : ℕ) (k : Marked code code' from upto) where
    sort-of : (i : ℕ) → i < length (words_in text) → op_at (cells_of code) i ≡ sort_in (words_in text) i
    sort-of i h = loads-sorts text l.code₀ l.values₀ l.answer code values l.loads i h

    same_head : (i s : ℕ) → i < length (words_in text) → sort_in (words_in text) i ≡ s → is_valued s ≡ false → head_at (cells_of code') i ≡ head_at (cells_of code) i
    same_head i s h e q = k.heads i (ap is_valued (sort-of i h ∙ e) ∙ q)

    fresh-word : (i : ℕ) → i < length (words_in text) → Fresh (words_in text) (cells_of code') i
    fresh-word i h = record {
      sort = k.ops i ∙ sort-of i h;
      value = λ e. ap value_in (same_head i NUMBER h e plain-number) ∙ value_of i h e;
      number = λ n. ap (λ (x : ℕ). value_in x % spelled_part) (same_head i NAME h n plain-name) ∙ loads-numbers text l.code₀ l.values₀ l.answer code values l.loads i n;
    }

    pub unread-marked : (at to : ℕ) → to < length (words_in text) → Unread (words_in text) code' at to
    unread-marked at to h = record {
      loaded = record {
        words = λ i a b. fresh-word i (omega arith);
        last = omega (arith, reading-most text);
        room = omega (arith, reading-most text, k.kept.long, l.code-room);
        whole = ap (λ (x : ℕ). x % 8) (k.kept.long ∙ l.code-room);
      };
      strings = λ i a b e. ap value_in (same_head i STRING (omega arith) e plain-string) ∙ length-of i (omega arith) e;
      places = λ i a b. ap place_in (k.tails i) ∙ l.loads.places i (omega arith);
    }

-- Later words are as they were.
pub unread-kept : (W : List Word) (code code' : List ℕ) (at low to : ℕ) → at ≤ low → ((k : ℕ) → low * 2 ≤ k → get_or (cells_of code') k 0 ≡ get_or (cells_of code) k 0) → length code' ≡ length code
    → Unread W code at to → Unread W code' low to
unread-kept W code code' at low to h same e u = record {
  loaded = record {
    words = λ i a b.
        let f = u.loaded.words i (omega arith) b in
        record {
          sort = ap op_in (same (i * 2) (omega arith)) ∙ f.sort;
          value = λ q. ap value_in (same (i * 2) (omega arith)) ∙ f.value q;
          number = λ q. ap (λ (x : ℕ). value_in x % spelled_part) (same (i * 2) (omega arith)) ∙ f.number q;
        };
    last = u.loaded.last;
    room = omega (arith, u.loaded.room);
    whole = ap (λ (x : ℕ). x % 8) e ∙ u.loaded.whole;
  };
  strings = λ i a b q. ap value_in (same (i * 2) (omega arith)) ∙ u.strings i (omega arith) b q;
  places = λ i a b. ap place_in (same (i * 2 + 1) (omega arith)) ∙ u.places i (omega arith) b;
}

-- fewer words
pub unread-less : (W : List Word) (code : List ℕ) (at to end : ℕ) → to ≤ end → Unread W code at end → Unread W code at to
unread-less W code at to end h u = record {
  loaded = record { words = λ i a b. u.loaded.words i a (omega arith); last = omega (arith, u.loaded.last); room = omega (arith, u.loaded.room); whole = u.loaded.whole };
  strings = λ i a b q. u.strings i a (omega arith) q;
  places = λ i a b. u.places i a (omega arith);
}

-- ---- the heads are read next
module _ (text code values : List ℕ) (words : ℕ) (f : Formed text code values words) where
  unfoldable pub heads-begin : heads.Begins text code values
  heads-begin = record {
    m = f.m;
    stands = formed-parses (sort_in (words_in text)) f.m f.form;
    heads = f.laid.loads.heads;
    places = f.laid.loads.places;
    zeros = f.laid.loads.zeros;
    table = f.laid.loads.table;
    code-room = omega (arith, f.laid.code-room);
    values-room = omega (arith, f.laid.values-room);
  }
