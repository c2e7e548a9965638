-- One declaration: what it asks of the crates below, and what it makes known.
use mathlib.Core.Path.{◌≡◌, refl, sym, ap, subst, ◌∙◌}
use mathlib.Core.Bool.{true}
use mathlib.Core.List.{List, ◌++◌, map}
use Prim.Native.Nat.{ℕ, suc, ◌+◌, ◌-◌, ◌*◌, ◌%◌, ◌<◌, ◌≤◌}
use native.Mathlib.Omega.{arith}
use lib.ListN.{length, get_or, replicate, length-append, length-replicate, get_or-replicate}
use lib.IntN.{ℤ, pos, ◌-ℤ◌}
use mir.Syntax.{w32}
use mir.Val.{to_z}
use Rattle.laws.proofs.Tests.{by-same}
use Rattle.paper.specs.Words.{Word}
use Rattle.paper.specs.Terms.{Ref, Memory}
use Rattle.paper.specs.Trees.{Expr, Content, variable_data, initial_data, array_data, constant_data}
use Rattle.paper.specs.Expressions.{nestings, level_of}
use Rattle.paper.specs.Names.{DataType, Meaning, variable, array, constant, type_of, text_of, sort_in, spelled, meaning, declare}
use Rattle.paper.specs.Types.{size_of}
use Rattle.paper.specs.Declarations.{Data, Filling, declare_name, declare_content}
use Rattle.store_cells.specs.Cells.{cells_of}
use Rattle.code.specs.Cells.{op_in, value_in, op_at, place_at}
use Rattle.code.specs.Spans.{bias}
use Rattle.code.specs.Steps.{constant_at}
use Rattle.layout.specs.Parts.{kind_part}
use Rattle.climb.proofs.Operands.{deeper}
use Rattle.check_names.specs.Numbers.{number_of}
use Rattle.check_names.specs.Meanings.{cell_with, type_with, meaning_in}
use Rattle.check_names.specs.Promises.{number_limit, number_at}
use Rattle.check_names.proofs.Tables.{declare-keeps}
use Rattle.store_writing.proofs.Rewriting.{rewritten-other}
use Rattle.grammar.specs.Form.{Parses}
use Rattle.grammar.proofs.Places.{content-grows}
use Rattle.faults.specs.Added.{content_slots}
use Rattle.faults.proofs.Expressions.{grows}
use Rattle.check_expressions.specs.Known.{Loaded, HeldSlots, held_by, Within, Known}
use Rattle.check_expressions.proofs.NamesHeld.{holds, room-one}
use Rattle.check_expressions.proofs.Starts.{loaded-part}
use Rattle.check_constants.specs.Answers.{Worth, Fine, Asks}
use Rattle.check_sites.specs.Sites.{Site, filling, own_of, scopes_of, memory_of, InPlace, Placed, owned, Filled}
use Rattle.check_sites.specs.Walks.{Changed, outer_of, KeepsName}
use Rattle.check_datum.specs.Answers.{Begins, Free, after, Written}
use Rattle.check_sites.specs.Parts.{base_of, Fills, Makes}
use Rattle.check_datum.specs.Parts.{Starts}
use Rattle.check_sites.proofs.TwoSites.{own-small, filled_on}
use Rattle.check_sites.proofs.WordsKept.{keeps_same, not-among, keeps-outer, data-plain}

-- ---- what expressions know
pub placed-within : (M : Memory) (a : Meaning) → Placed M a → Within (length M.module-words) (length M.routine-words) a
unfolding Placed Within
placed-within M a = holds (held_by a) (λ w p. p.room) (λ k h. h)

module _ (W : List Word) (routine : ℕ → ℕ) (s : Site) (D : Data) (values : List ℕ) (f : Filled W routine s D values) where
  pub placed-fine : (a : Meaning) → Placed (memory_of W s D) a → Fine (length (memory_of W s D).module-words) (length (memory_of W s D).routine-words) (cells_of values) (memory_of W s D) a
  unfolding Placed Fine
  placed-fine a = holds (held_by a) fine (λ k h. h)
    where
      fine : (w : HeldSlots) → InPlace (memory_of W s D) w → w.fixed ≡ true
          → Worth (length (memory_of W s D).module-words) (length (memory_of W s D).routine-words) (cells_of values) (memory_of W s D) w.first
      fine w p e =
          let room = room-one _ _ w.first w.size p.some p.room in
          record { room = room; is = f.cells w.first room; ranged = p.ranged e }

  abbrev pub known_of : Known values
  known_of = record {
    W = W;
    S = scopes_of W s D;
    routine = routine;
    m = length (memory_of W s D).module-words;
    n = length (memory_of W s D).routine-words;
    most = f.most;
    table = f.table;
    means = f.means;
    within = λ i n. placed-within (memory_of W s D) (meaning (scopes_of W s D) (spelled W i)) (f.placed (spelled W i));
    small = f.small;
  }

  -- a constant expression stands at a word
  abbrev pub asks_of : (code : List ℕ) (i to at n : ℕ) (e : Expr) → Loaded W code i to → Parses (sort_in W) (suc nestings) at e n → level_of (sort_in W n) ≡ 0 → i ≤ at → n ≤ to → Asks code values at
  asks_of code i to at n e l h none lo hi = record {
    stands = record {
      known = known_of;
      d = suc nestings - 1;
      e = e;
      to = n;
      tops = omega arith;
      deep = omega arith;
      is = (deeper (sort_in W) (suc nestings) at (e, n) h).is;
      ends = λ g. absurd (omega (arith, none, g));
      loaded = loaded-part W code i to at n l lo hi;
    };
    M = memory_of W s D;
    window = f.window;
    fine = λ text. placed-fine (meaning (scopes_of W s D) text) (f.placed text);
    number = omega (arith, f.errno);
  }

-- ---- what a declaration makes of a scope
module _ (W : List Word) (F : Filling) where
  unfoldable pub content_meaning : DataType → Content → Data → Ref → Meaning
  content_meaning t variable_data D r = variable t r
  content_meaning t (initial_data e) D r = variable t r
  content_meaning t (array_data e) D r = array t r (size_of W (F.scopes_with D.names) (F.memory_with D.words) e)
  content_meaning t (constant_data e) D r = constant t r

  pub content-shape : (t : DataType) (i : ℕ) (c : Content) (D : Data) → declare_content W F t i c D
      ≡ record { names = declare (spelled W i) (content_meaning t c D (F.ref (length D.words))) D.names; words = D.words ++ content_slots W F c D; faults = (declare_content W F t i c D).faults }
  unfolding declare_content declare_name content_meaning content_slots
  content-shape t i variable_data D = refl
  content-shape t i (initial_data e) D = refl
  content-shape t i (array_data e) D = refl
  content-shape t i (constant_data e) D = refl

  pub content-used : (t : DataType) (i : ℕ) (c : Content) (D : Data) → length (declare_content W F t i c D).words ≡ length D.words + length (content_slots W F c D)
  content-used t i c D = ap (λ (E : Data). length E.words) (content-shape t i c D) ∙ length-append D.words (content_slots W F c D)

-- what the code store says between the check of the expression and the declaration of the name: `n` is at or before the word after the declaration
pub record Around (code mid : List ℕ) (i to : ℕ) : Type 0 where
  pub below : (k : ℕ) → k < (i + 3) * 2 → get_or (cells_of mid) k 0 ≡ get_or (cells_of code) k 0
  pub above : (k : ℕ) → to * 2 ≤ k → get_or (cells_of mid) k 0 ≡ get_or (cells_of code) k 0
  pub long : length mid ≡ length code

module _ {code values : List ℕ} {own limit used i : ℕ} (b : Begins code values own limit used i) (free : Free b) where
  W : List Word
  W = b.W

  far : i + 4 ≤ b.to
  far = let g = content-grows (sort_in b.W) (Parses (sort_in b.W)) (grows b.W) b.stands.content in omega (arith, g, b.stands.after)

  abbrev F : Filling
  F = filling b.W b.s

  abbrev vs : List ℤ
  vs = content_slots b.W F b.x.content b.D

  abbrev means-now : Meaning
  means-now = content_meaning b.W F (type_of b.x.type) b.x.content b.D (F.ref (length b.D.words))

  module _ (mid code₂ code' values₂ values' : List ℕ) (kind value count word held : ℕ) (v : ℤ) (around : Around code mid i b.to)
      (made : Makes mid values code₂ values₂ (i + 2) kind own value) (started : Starts code₂ values₂ code' values' own used count word held i) where
    room : (i + 2) * 8 + 8 ≤ length mid
    room = let r = b.loaded.room in omega (arith, r, far, around.long)

    number : number_at (cells_of mid) (i + 2) ≡ number_of b.W (i + 2)
    number = ap (λ (h : ℕ). value_in h % number_limit) (around.below ((i + 2) * 2) (omega arith)) ∙ (b.loaded.words (i + 2) (omega arith) (omega (arith, far))).number b.stands.name

    type-is : type_with made.bool ≡ type_of b.x.type
    type-is =
        let e : i + 2 - 1 ≡ i + 1 = omega arith in
        made.type.is ∙ ap type_of (ap (op_at (cells_of mid)) e ∙ ap op_in (around.below ((i + 1) * 2) (omega arith)) ∙ (b.loaded.words (i + 1) (omega arith) (omega (arith, far))).sort ∙ sym b.stands.type)

    start-same : (k : ℕ) → (k ≡ i * 2 → ⊥) → (k ≡ i * 2 + 1 → ⊥) → get_or (cells_of code') k 0 ≡ get_or (cells_of code₂) k 0
    start-same k d e = by-same own 1 (λ o. (started.own-datum o).others k d e) (λ o. ap (λ (l : List ℕ). get_or (cells_of l) k 0) (started.untouched o))

    name-same : (k : ℕ) → (k ≡ (i + 2) * 2 → ⊥) → (k ≡ (i + 2) * 2 + 1 → ⊥) → get_or (cells_of code₂) k 0 ≡ get_or (cells_of mid) k 0
    name-same k d e = rewritten-other made.declared.word room k d e

    pub name-keeps : KeepsName b.routine b.W b.s (cells_of code') (i + 2)
    name-keeps =
        let k = declare-keeps b.routine b.W (scopes_of b.W b.s b.D) (scopes_of b.W b.s b.D) (i + 2) b.stands.name mid values code₂ values₂ _ room made.declared number b.filled.means in
        let o = keeps-outer b.routine b.W b.s b.D.names (cells_of code₂) (i + 2) (not-among (map text_of b.D.names) (spelled b.W (i + 2)) free) k in
        record {
          near = let l = b.loaded.last in omega (arith, far, l);
          name = b.stands.name;
          keeps = keeps_same b.routine b.W (outer_of b.W b.s) (cells_of code₂) (cells_of code') (i + 2)
              (start-same ((i + 2) * 2) (λ e. omega arith) (λ e. omega arith)) (start-same ((i + 2) * 2 + 1) (λ e. omega arith) (λ e. omega arith)) o;
        }

    pub words-changed : Changed (cells_of code) (cells_of code') i b.to
    words-changed = record {
      below = λ k l. start-same k (λ e. omega arith) (λ e. omega arith) ∙ name-same k (λ e. omega arith) (λ e. omega arith) ∙ around.below k (omega arith);
      above = λ k l. start-same k (λ e. omega (arith, far)) (λ e. omega (arith, far)) ∙ name-same k (λ e. omega (arith, far)) (λ e. omega (arith, far)) ∙ around.above k l;
    }

    module _ (words : vs ≡ replicate count v) (held-is : pos held -ℤ pos bias ≡ v) where
      pub words-written : own ≡ 1 → Written (cells_of code') i b.D (after b)
      unfolding constant_at
      words-written o =
          let d = started.own-datum o in
          let z : constant_at (cells_of code') i ≡ v = ap (λ (h : ℕ). pos h -ℤ pos bias) d.value-is ∙ held-is in
          record {
            op-is = d.op-is;
            words_are = ap (λ (E : Data). E.words) (content-shape b.W F (type_of b.x.type) b.x.name b.x.content b.D) ∙ ap (λ (l : List ℤ). b.D.words ++ l) words
                ∙ ap (λ (n : ℕ). b.D.words ++ replicate n v) (sym d.place_is) ∙ ap (λ (y : ℤ). b.D.words ++ replicate (place_at (cells_of code') i) y) (sym z);
          }

      pub now-filled : kind < 4 → ((bool : ℕ) → bool < 2 → type_with bool ≡ type_of b.x.type → meaning_in b.routine (cell_with kind bool own value) ≡ means-now)
          → to_z w32 word ≡ v → length b.D.words + count ≤ F.limit → owned (own_of b.s) means-now ≡ true → Placed (F.memory_with (b.D.words ++ vs)) means-now
          → Filled b.W b.routine b.s (after b) values'
      now-filled low says word-is fits mine placed =
          let long : length vs ≡ count = ap length words ∙ length-replicate count v in
          let small : own < 2 = omega (arith, own-small b.W b.s, b.own_is) in
          let from : base_of own + used ≡ base_of (own_of b.s) + length b.D.words = ap (λ (k : ℕ). k + used) (ap base_of b.own_is) ∙ ap (λ (k : ℕ). base_of (own_of b.s) + k) b.used-is in
          let fills : Fills values₂ values' (base_of (own_of b.s) + length b.D.words) (length vs) word =
          subst (λ (k : ℕ). Fills values₂ values' k (length vs) word) from (subst (λ (k : ℕ). Fills values₂ values' (base_of own + used) k word) (sym long) started.fills) in
          let g = filled_on b.W b.routine b.s b.D values values₂ values' mid code₂ (i + 2) (cell_with kind made.bool own value) means-now vs word b.filled
          b.stands.name free number made.declared (data-plain (kind * kind_part) made.bool own value (omega (arith, low)) made.type.small small) (says made.bool made.type.small type-is) fills
          (λ j l. ap (λ (k : List ℤ). get_or k j (pos 0)) words ∙ get_or-replicate count j v (pos 0) (omega (arith, l, long)) ∙ sym word-is)
          (omega (arith, fits, long)) mine placed (declare_content b.W F (type_of b.x.type) (i + 2) b.x.content b.D).faults in
          let e : declare_content b.W F (type_of b.x.type) (i + 2) b.x.content b.D ≡ after b = ap (λ (k : ℕ). declare_content b.W F (type_of b.x.type) k b.x.content b.D) (sym b.stands.named) in
          subst (λ (E : Data). Filled b.W b.routine b.s E values') (sym (content-shape b.W F (type_of b.x.type) (i + 2) b.x.content b.D) ∙ e) g
