-- The values of a CASE stay while other words are written.
use mathlib.Core.Path.{◌≡◌, refl, sym, ap, ◌∙◌}
use mathlib.Core.List.{List, [], ◌∷◌}
use Prim.Native.Nat.{ℕ, ◌+◌, ◌<◌, ◌≤◌}
use native.Mathlib.Omega.{arith}
use lib.IntN.{pos, ◌-ℤ◌}
use Rattle.paper.specs.Words.{Word}
use Rattle.paper.specs.Terms.{Memory}
use Rattle.paper.specs.Trees.{Expr}
use Rattle.paper.specs.Names.{Scopes}
use Rattle.code.specs.Cells.{link_in, op_at, link_at}
use Rattle.code.specs.Spans.{bias}
use Rattle.code.specs.Steps.{constant_at, a_case}
use Rattle.check_links.specs.Raw.{Ground, SameWords, RawValues, RawConstants}
use Rattle.check_compounds.specs.Parts.{Chain, CaseChain}
use Rattle.check_compounds.proofs.Frames.{op_same, value_same, place_same, link-same}

pub constant-same : {C D : List ℕ} {a b : ℕ} (s : SameWords C D a b) (i : ℕ) → a ≤ i → i < b → constant_at D i ≡ constant_at C i
unfolding constant_at
constant-same s i l h = ap (λ (k : ℕ). pos k -ℤ pos bias) (value_same s i l h _ refl)

module _ (W : List Word) (S : Scopes) (M : Memory) (C D : List ℕ) (colon low : ℕ) (same : SameWords C D low colon) where
  pub chain_same : (es : List Expr) (w : ℕ) → link_at C w ≡ link_at D w → low ≤ w + 2 → Chain W S M C es colon w → Chain W S M D es colon w
  unfolding Chain
  chain_same [] w l h x = sym l ∙ x
  chain_same (e ∷ es) w l h x =
      let lv : low ≤ x.v = omega (arith, x.on) in
      record {
        v = x.v;
        leaves = sym l ∙ x.leaves;
        on = x.on;
        before = x.before;
        op = op_same same x.v lv x.before _ x.op;
        constant = constant-same same x.v lv x.before ∙ x.constant;
        rest = chain_same es x.v (ap link_in (same.tails x.v lv x.before)) (omega arith) x.rest;
      }

  pub case-chain-same : (es : List Expr) (c : ℕ) → SameWords C D c (c + 1) → low ≤ c + 2 → CaseChain W S M C es colon c → CaseChain W S M D es colon c
  unfolding CaseChain
  case-chain-same [] c s h x = x
  case-chain-same (e ∷ es) c s h x =
      (op_same s c (omega arith) (omega arith) _ x.0, constant-same s c (omega arith) (omega arith) ∙ x.1, chain_same es c (ap link_in (s.tails c (omega arith) (omega arith))) h x.2)

pub case-chain-op : (W : List Word) (S : Scopes) (M : Memory) (C : List ℕ) (es : List Expr) (colon c : ℕ) → CaseChain W S M C es colon c → op_at C c ≡ a_case
unfolding CaseChain
case-chain-op W S M C [] colon c x = absurd x
case-chain-op W S M C (e ∷ es) colon c x = x.0

module _ (g : Ground) (n : ℕ) (C D : List ℕ) (low high : ℕ) (same : SameWords C D low high) (S : Scopes) (first next : ℕ) (inside : first ≤ high) where
  pub values_same : (es : List Expr) (w : ℕ) → low ≤ w → w < high → RawValues g n C S es first next w → RawValues g n D S es first next w
  unfolding RawValues
  values_same [] w l h x = link-same same w l h next x
  values_same (e ∷ es) w l h x =
      let lv : low ≤ x.v = omega (arith, x.on) in
      let hv : x.v < high = omega (arith, x.before) in
      record {
        v = x.v;
        leaves = link-same same w l h x.v x.leaves;
        on = x.on;
        before = x.before;
        op = op_same same x.v lv hv _ x.op;
        constant = constant-same same x.v lv hv ∙ x.constant;
        place = place_same same x.v lv hv first x.place;
        rest = values_same es x.v lv hv x.rest;
      }

  pub constants-same : (es : List Expr) (w : ℕ) → low ≤ w → w < high → RawConstants g n C S es first next w → RawConstants g n D S es first next w
  unfolding RawConstants
  constants-same [] w l h x = x
  constants-same (e ∷ es) w l h x = (constant-same same w l h ∙ x.0, values_same es w l h x.1)
