-- The values of a CASE are linked to its list.
use Rattle.layout.specs.Parts.{link_part}
use mathlib.Core.Path.{◌≡◌, refl, sym, ap, subst, ◌∙◌}
use mathlib.Core.Bool.{false}
use mathlib.Core.List.{List, [], ◌∷◌}
use Prim.Native.Nat.{ℕ, ◌+◌, ◌-◌, ◌*◌, ◌/◌, ◌%◌, ◌<◌, ◌≤◌}
use native.Mathlib.Omega.{arith}
use lib.ListN.{length}
use lib.IntN.{pos, ◌-ℤ◌}
use Rattle.laws.proofs.Tests.{by-same}
use Rattle.store_cells.specs.Cells.{cells_of, Got}
use Rattle.paper.specs.Words.{Word, word_limit}
use Rattle.paper.specs.Terms.{Memory}
use Rattle.paper.specs.Trees.{Expr}
use Rattle.paper.specs.Names.{Scopes}
use Rattle.code.specs.Cells.{op_in, value_in, place_in, link_in, head_at, op_at, place_at, link_at}
use Rattle.code.specs.Spans.{bias}
use Rattle.code.specs.Steps.{constant_at}
use Rattle.store_writing.specs.Promises.{tail_with, Rewritten}
use Rattle.store_writing.proofs.Rewriting.{rewritten-length, rewritten-head, rewritten-tail}
use Rattle.check_links.specs.Raw.{Ground, SameWords, RawValues, RawConstants}
use Rattle.check_compounds.specs.Here.{Outside}
use Rattle.check_compounds.specs.Parts.{Chain, CaseChain, Chained, ValuesLinked}
use Rattle.check_compounds.proofs.Frames.{outside-same, outside_wider, outside-on, same-before, same-behind, same-on, head-before, head-behind, tail-before, tail-behind}
use Rattle.check_compounds.proofs.Frames.{rewritten-outside}
use Rattle.check_compounds.proofs.CaseValuesStay.{chain_same}

same-constant : (C D : List ℕ) (i : ℕ) → head_at D i ≡ head_at C i → constant_at D i ≡ constant_at C i
unfolding constant_at
same-constant C D i e = ap (λ (h : ℕ). pos (value_in h) -ℤ pos bias) e

-- what is to be shown in the end, of all values
pub record Whole (g : Ground) (n : ℕ) (S : Scopes) (es : List Expr) (before C : List ℕ) (colon next c : ℕ) : Type 0 where
  pub op : op_at C c ≡ op_at before c
  pub place : place_at C c ≡ colon + 1
  pub values : RawConstants g n C S es (colon + 1) next c
  pub behind : SameWords before C (c + 1) (c + 2)

-- The value at w comes next; the list fs is left behind it.
pub record Linking (g : Ground) (n : ℕ) (S : Scopes) (es : List Expr) (before now : List ℕ) (colon next c w : ℕ) : Type 0 where
  pub fs : List Expr
  pub chain : Chain g.W S g.M now fs colon w
  pub apart : (c + 1 ≡ w) → ⊥
  pub low : c ≤ w
  pub high : w < colon
  pub on : (C : List ℕ) → Outside now C w colon → head_at C w ≡ head_at now w → place_at C w ≡ colon + 1 → SameWords now C (c + 1) (c + 2) → RawValues g n C S fs (colon + 1) next w → Whole g n S es before C colon next c

pub record Linkings (before now : List ℕ) (colon next c w : ℕ) : Type 0 where
  pub is : (g : Ground) (n : ℕ) (S : Scopes) (es : List Expr) → CaseChain g.W S g.M (cells_of before) es colon c → Linking g n S es (cells_of before) (cells_of now) colon next c w
  pub outside : Outside (cells_of before) (cells_of now) c colon
  pub long : length now ≡ length before

-- a value that leads to the colon is the last one
nothing_left : (g : Ground) (n : ℕ) (S : Scopes) (now after : List ℕ) (colon next w : ℕ) (fs : List Expr) → link_at now w ≡ colon → Chain g.W S g.M now fs colon w → link_at after w ≡ next
    → RawValues g n after S fs (colon + 1) next w
unfolding Chain RawValues
nothing_left g n S now after colon next w [] l x q = q
nothing_left g n S now after colon next w (e ∷ fs) l x q = absurd (omega (arith, l, x.leaves, x.before))

same_head : (C D : List ℕ) (i j : ℕ) → head_at D i ≡ head_at C j → constant_at D i ≡ constant_at C j
unfolding constant_at
same_head C D i j e = ap (λ (h : ℕ). pos (value_in h) -ℤ pos bias) e

begins : (before : List ℕ) (colon next c : ℕ) → c + 1 < colon → (g : Ground) (n : ℕ) (S : Scopes) (es : List Expr) → CaseChain g.W S g.M (cells_of before) es colon c → Linking g n S es (cells_of before) (cells_of before) colon next c c
unfolding CaseChain RawConstants
begins before colon next c h g n S [] x = absurd x
begins before colon next c h g n S (e ∷ fs) x = record {
  fs = fs;
  chain = x.2;
  apart = λ q. omega arith;
  low = omega arith;
  high = omega arith;
  on = λ C o hd p b rv. record { op = ap op_in hd; place = p; values = (same-constant (cells_of before) C c hd ∙ x.1, rv); behind = b };
}

pub link-begins : (before : List ℕ) (colon next c : ℕ) → Chained before colon c → Linkings before before colon next c c
link-begins before colon next c p = record {
  is = λ g n S es x. begins before colon next c p.before g n S es x;
  outside = outside-same (cells_of before) c colon;
  long = refl;
}

-- some walk over these values
ground : List Word → Memory → Ground
ground W M = record { m = 0; function = false; text = []; R = []; W = W; M = M; offset = λ (i : ℕ). i }

module _ (before : List ℕ) (colon next c : ℕ) (now : List ℕ) (w : ℕ) (inv : Linkings before now colon next c w) where
  some : (p : Chained before colon c) → Linking (ground p.W p.M) 0 p.S p.es (cells_of before) (cells_of now) colon next c w
  unfolding ground
  some p = inv.is (ground p.W p.M) 0 p.S p.es p.is

  pub link-room : Chained before colon c → (w < word_limit) × (w * 8 + 8 ≤ length now)
  link-room p = (omega (arith, (some p).high, p.last), omega (arith, (some p).high, p.last, p.room, inv.long))

  pub link-long : length now ≡ length before
  link-long = inv.long

  module _ (h t m : ℕ) (eh : Got now (w * 2) h) (et : Got now (w * 2 + 1) t) (em : m ≡ t / link_part) where
    link-is : link_at (cells_of now) w ≡ m
    link-is = sym (em ∙ ap (λ (v : ℕ). v / link_part) et)

    falls : (W : List Word) (S : Scopes) (M : Memory) (C : List ℕ) (fs : List Expr) → link_at C w ≡ m → (m ≡ colon → ⊥) → Chain W S M C fs colon w → colon - m < colon - w
    unfolding Chain
    falls W S M C [] l f x = absurd (f (sym l ∙ x))
    falls W S M C (e ∷ fs) l f x = omega (arith, l, x.leaves, x.on, x.before)

    below : (W : List Word) (S : Scopes) (M : Memory) (C : List ℕ) (fs : List Expr) → link_at C w ≡ m → (m ≡ colon → ⊥) → Chain W S M C fs colon w → m < colon
    unfolding Chain
    below W S M C [] l f x = absurd (f (sym l ∙ x))
    below W S M C (e ∷ fs) l f x = omega (arith, l, x.leaves, x.before)

    -- ---- the last value
    module _ (last : m ≡ colon) (after : List ℕ) (r : Rewritten now after w h (tail_with (colon + 1) next)) where
      ends : (p : Chained before colon c) (g : Ground) (n : ℕ) (S : Scopes) (es : List Expr) → CaseChain g.W S g.M (cells_of before) es colon c → Whole g n S es (cells_of before) (cells_of after) colon next c
      ends p g n S es x =
          let k = inv.is g n S es x in
          let room = (link-room p).1 in
          let o = rewritten-outside r room in
          let small : colon + 1 < link_part = omega (arith, p.last) in
          k.on (cells_of after) (outside_wider w colon o (omega arith) (omega (arith, k.high))) (rewritten-head r room ∙ eh) (ap place_in (rewritten-tail r room) ∙ place-part (colon + 1) next small)
          (behind-kept k o) (nothing k.fs k.chain (ap link_in (rewritten-tail r room) ∙ link-part (colon + 1) next small))
        where
          place-part : (a b : ℕ) → a < link_part → (a + link_part * b) % link_part ≡ a
          place-part a b q = omega arith

          link-part : (a b : ℕ) → a < link_part → (a + link_part * b) / link_part ≡ b
          link-part a b q = omega arith

          behind-kept : (k : Linking g n S es (cells_of before) (cells_of now) colon next c w) → Outside (cells_of now) (cells_of after) w (w + 1) → SameWords (cells_of now) (cells_of after) (c + 1) (c + 2)
          behind-kept k o = by-same w c (λ q. same-behind (c + 1) (c + 2) o (omega arith)) (λ q. same-before (c + 1) (c + 2) o (omega (arith, q, k.low, k.apart)))

          nothing : (fs : List Expr) → Chain g.W S g.M (cells_of now) fs colon w → link_at (cells_of after) w ≡ next → RawValues g n (cells_of after) S fs (colon + 1) next w
          nothing fs ch q = nothing_left g n S (cells_of now) (cells_of after) colon next w fs (link-is ∙ last) ch q

      pub link-ends : Chained before colon c → ValuesLinked before after colon next c
      unfolding ground
      link-ends p =
          let z = ends p (ground p.W p.M) 0 p.S p.es p.is in
          let room = (link-room p).1 in
          record {
            op = z.op;
            place = z.place;
            values = λ g n S es x. (ends p g n S es x).values;
            behind = z.behind;
            outside = outside-on inv.outside (outside_wider c colon (rewritten-outside r room) (some p).low (omega (arith, (some p).high)));
            long = rewritten-length r room ∙ inv.long;
          }

    -- ---- another one follows
    pub link-next : Chained before colon c → (m ≡ colon → ⊥) → m < colon
    unfolding ground
    link-next p f = below p.W p.S p.M (cells_of now) (some p).fs link-is f (some p).chain

    module _ (more : m ≡ colon → ⊥) (p : Chained before colon c) (after : List ℕ) (r : Rewritten now after w h (tail_with (colon + 1) m)) where
      on-with : (g : Ground) (n : ℕ) (S : Scopes) (es : List Expr) (k : Linking g n S es (cells_of before) (cells_of now) colon next c w) (fs : List Expr) → fs ≡ k.fs → Chain g.W S g.M (cells_of now) fs colon w
          → Linking g n S es (cells_of before) (cells_of after) colon next c m
      unfolding Chain RawValues
      on-with g n S es k [] e ch = absurd (more (sym link-is ∙ ch))
      on-with g n S es k (e2 ∷ fs) e ch =
          let room = (link-room p).1 in
          let o = rewritten-outside r room in
          let small : colon + 1 < link_part = omega (arith, p.last) in
          let v : m ≡ ch.v = sym link-is ∙ ch.leaves in
          let vo = ch.on in
          let vb = ch.before in
          record {
            fs = fs;
            chain = subst (Chain g.W S g.M (cells_of after) fs colon) (sym v)
                (chain_same g.W S g.M (cells_of now) (cells_of after) colon (w + 1) (same-behind (w + 1) colon o (omega arith)) fs ch.v (ap link_in (sym (tail-behind o ch.v (omega arith)))) (omega arith) ch.rest);
            apart = λ q. omega (arith, v, q, k.low);
            low = omega (arith, v, k.low);
            high = omega (arith, v);
            on = λ C oc hc pc bc rv.
                let here-tail = tail-before oc w (omega (arith, v)) ∙ rewritten-tail r room in
                let here-head = head-before oc w (omega (arith, v)) ∙ rewritten-head r room ∙ eh in
                let v-head = hc ∙ ap (head_at (cells_of after)) v ∙ head-behind o ch.v (omega arith) in
                k.on C (outside-on (outside_wider w colon o (omega arith) (omega (arith, k.high))) (outside_wider w colon oc (omega (arith, v)) (omega arith))) here-head (ap place_in here-tail ∙ place-part (colon + 1) m small)
                (same-on (by-same w c (λ q. same-behind (c + 1) (c + 2) o (omega arith)) (λ q. same-before (c + 1) (c + 2) o (omega (arith, q, k.low, k.apart)))) bc)
                (subst (λ (l : List Expr). RawValues g n C S l (colon + 1) next w) e
                (record {
                  v = m;
                  leaves = ap link_in here-tail ∙ link-part (colon + 1) m small;
                  on = omega (arith, v);
                  before = omega (arith, v);
                  op = ap op_in v-head ∙ ch.op;
                  constant = same_head (cells_of now) C m ch.v v-head ∙ ch.constant;
                  place = pc;
                  rest = rv;
                }));
          }
        where
          place-part : (a b : ℕ) → a < link_part → (a + link_part * b) % link_part ≡ a
          place-part a b q = omega arith

          link-part : (a b : ℕ) → a < link_part → (a + link_part * b) / link_part ≡ b
          link-part a b q = omega arith

      pub link-goes : Linkings before after colon next c m
      link-goes =
          let room = (link-room p).1 in
          record {
            is = λ g n S es x. let k = inv.is g n S es x in on-with g n S es k k.fs refl k.chain;
            outside = outside-on inv.outside (outside_wider c colon (rewritten-outside r room) (some p).low (omega (arith, (some p).high)));
            long = rewritten-length r room ∙ inv.long;
          }

      pub link-less : colon - m < colon - w
      unfolding ground
      link-less = forward (some p).fs (some p).chain
        where
          forward : (fs : List Expr) → Chain p.W p.S p.M (cells_of now) fs colon w → colon - m < colon - w
          forward fs ch = falls p.W p.S p.M (cells_of now) fs link-is more ch
