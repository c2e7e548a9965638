-- What a span says of its parts. One theorem, `kept`, says that the words outside do not matter, nor fuel and nesting that are left over, nor more words of data.
use mathlib.Core.Path.{◌≡◌, refl, sym, ap, ap₂, subst, ◌∙◌}
use mathlib.Core.Bool.{true, false}
use mathlib.Core.List.{List}
use mathlib.Core.Option.{Option, some}
use Prim.Native.Nat.{ℕ, zero, suc, ◌+◌, ◌-◌, ◌<◌, ◌≤◌}
use native.Mathlib.Omega.{arith}
use lib.Dec.{eqb}
use borrow.Author.Tests.{eq-eqb, ne_eqb, le-leb, lt-leb}
use Rattle.laws.proofs.Tests.{by-same, by_most}
use Rattle.paper.specs.Terms.{Term, binary}
use Rattle.code.specs.Cells.{op_in, value_in, head_at, op_at, value_at, link_at}
use Rattle.code.specs.Spans.{a_span, right_in, operator_in, leaf_term, within, operand_of, operand_term, right_end, right_term, chain, span_term, term_within, term_in}
use Rattle.code.proofs.Options.{none-some, same_some, went, goes}
use Rattle.code.proofs.Operands.{leaf-more, element-more, of-any, to-leaf, to-element, to-nested, to-prefix}

-- ---- the right side of an operator
module _ (C : List ℕ) (i : ℕ) where
  pub end-span : right_in (op_at C i) ≡ a_span → right_end C i ≡ link_at C i
  unfolding right_end
  end-span h = rw (eq-eqb (right_in (op_at C i)) a_span h, right_end)

  pub end-leaf : (right_in (op_at C i) ≡ a_span → ⊥) → right_end C i ≡ i + 2
  unfolding right_end
  end-leaf h = rw (ne_eqb (right_in (op_at C i)) a_span h, right_end)

  module _ (m n : ℕ) (inner : ℕ → ℕ → Option Term) where
    pub right-span : right_in (op_at C i) ≡ a_span → right_term m n C inner i ≡ inner (i + 1) (link_at C i)
    unfolding right_term
    right-span h = rw (eq-eqb (right_in (op_at C i)) a_span h, right_term)

    pub right-leaf : (right_in (op_at C i) ≡ a_span → ⊥) → right_term m n C inner i ≡ leaf_term m n (right_in (op_at C i)) (value_at C i)
    unfolding right_term
    right-leaf h = rw (ne_eqb (right_in (op_at C i)) a_span h, right_term)

-- ---- a chain
module _ (m n : ℕ) (C : List ℕ) (inner : ℕ → ℕ → Option Term) where
  pub chain-done : (f : ℕ) (t : Term) (i to : ℕ) (u : Term) → i ≡ to → chain m n C inner f t i to ≡ some u → t ≡ u
  unfolding chain
  chain-done zero t i to u h e = same_some t u (rw (eq-eqb i to h, chain) at e)
  chain-done (suc f) t i to u h e = same_some t u (rw (eq-eqb i to h, chain) at e)

  pub record Step (f : ℕ) (t : Term) (i to : ℕ) (T : Term) : Type 0 where
    pub p : ℕ
    pub more : f ≡ suc p
    pub u : Term
    pub on : right_end C i ≤ to
    pub right : right_term m n C inner i ≡ some u
    pub rest : chain m n C inner p (binary (operator_in (op_at C i)) t u) (right_end C i) to ≡ some T

  pub chain-step : (f : ℕ) (t : Term) (i to : ℕ) (u : Term) → (i ≡ to → ⊥) → chain m n C inner f t i to ≡ some u → Step f t i to u
  unfolding chain
  chain-step zero t i to u h e = none-some u (rw (ne_eqb i to h, chain) at e)
  chain-step (suc f) t i to u h e =
      by_most (right_end C i) to
      (λ k.
      let g = went (right_term m n C inner i) (λ v. chain m n C inner f (binary (operator_in (op_at C i)) t v) (right_end C i) to) u
      (rw (le-leb (right_end C i) to k) at (rw (ne_eqb i to h, chain) at e)) in
      record { p = f; more = refl; u = g.a; on = k; right = g.first; rest = g.next })
      (λ k. none-some u (rw (lt-leb (right_end C i) to k) at (rw (ne_eqb i to h, chain) at e)))

  pub chain-stop : (f : ℕ) (t : Term) (i to : ℕ) → i ≡ to → chain m n C inner f t i to ≡ some t
  unfolding chain
  chain-stop zero t i to h = rw (eq-eqb i to h, chain)
  chain-stop (suc f) t i to h = rw (eq-eqb i to h, chain)

  pub chain-go : (f : ℕ) (t : Term) (i to : ℕ) (u : Term) → (i ≡ to → ⊥) → right_end C i ≤ to → right_term m n C inner i ≡ some u
      → chain m n C inner (suc f) t i to ≡ chain m n C inner f (binary (operator_in (op_at C i)) t u) (right_end C i) to
  unfolding chain
  chain-go f t i to u h k e =
      rw (ne_eqb i to h, chain) (rw (le-leb (right_end C i) to k)
      (goes (right_term m n C inner i) (λ v. chain m n C inner f (binary (operator_in (op_at C i)) t v) (right_end C i) to) u e))

  -- ---- places grow
  module _ (grow : (a b : ℕ) (t : Term) → inner a b ≡ some t → a < b) where
    pub right-moves : (i : ℕ) (u : Term) → right_term m n C inner i ≡ some u → i + 1 < right_end C i
    right-moves i u e =
        by-same (right_in (op_at C i)) a_span
        (λ h. omega (arith, end-span C i h, grow (i + 1) (link_at C i) u (sym (right-span C i m n inner h) ∙ e)))
        (λ h. omega (arith, end-leaf C i h))

    pub chain-on : (f : ℕ) (t : Term) (i to : ℕ) (u : Term) → chain m n C inner f t i to ≡ some u → i ≤ to
    chain-on f t i to u e =
        by-same i to (λ h. omega arith) (λ h. let s = chain-step f t i to u h e in omega (arith, s.on, right-moves i s.u s.right))

module _ (m n : ℕ) (C : List ℕ) (inner : ℕ → ℕ → ℕ → Option Term) (grow : (d a b : ℕ) (t : Term) → inner d a b ≡ some t → a < b) where
  within-moves : (d a b : ℕ) (t : Term) → within inner d a b ≡ some t → a < b
  unfolding within
  within-moves zero a b t e = none-some t e
  within-moves (suc d) a b t e = grow d a b t e

  pub operand-moves : (d at : ℕ) (x : Term × ℕ) → operand_term m n C inner d at ≡ some x → at < x.1
  operand-moves d at x e =
      of-any m n (head_at C at) (link_at C at) (within inner d) (inner d) at x e
      (λ h g. omega (arith, g.end))
      (λ h k g. omega (arith, g.end, within-moves d (at + 2) (link_at C at) g.t g.inside))
      (λ h g. omega (arith, g.end, within-moves d (at + 1) (link_at C at) x.0 g.inside))
      (λ h g. omega (arith, g.end, grow d (at + 1) (link_at C at) g.t g.inside))

pub grows : (m n : ℕ) (C : List ℕ) (f d a b : ℕ) (t : Term) → span_term m n C f d a b ≡ some t → a < b
unfolding span_term
grows m n C zero d a b t e = none-some t e
grows m n C (suc f) d a b t e =
    let g = went (operand_term m n C (span_term m n C f) d a) (λ x. chain m n C (span_term m n C f d) f x.0 x.1 b) t e in
    let o = operand-moves m n C (span_term m n C f) (grows m n C f) d a g.a g.first in
    let c = chain-on m n C (span_term m n C f d) (grows m n C f d) f g.a.0 g.a.1 b t g.next in
    omega arith

-- ---- what does not matter
-- Two stores say the same of the words from low up to high. A word's place is not asked.
pub record Agree (C D : List ℕ) (low high : ℕ) : Type 0 where
  pub heads : (i : ℕ) → low ≤ i → i < high → head_at C i ≡ head_at D i
  pub links : (i : ℕ) → low ≤ i → i < high → link_at C i ≡ link_at D i

pub agree_same : (C : List ℕ) (low high : ℕ) → Agree C C low high
agree_same C low high = record { heads = λ i l h. refl; links = λ i l h. refl }

module _ (m n p q : ℕ) (hm : m ≤ p) (hn : n ≤ q) (C D : List ℕ) (low high : ℕ) (ag : Agree C D low high) where
  end_kept : (i : ℕ) → low ≤ i → i < high → right_end C i ≡ right_end D i
  unfolding right_end
  end_kept i l h =
      ap₂ (λ (w k : ℕ). elim (eqb (right_in (op_in w)) a_span) [ true ↦ k | false ↦ i + 2 ]) (ag.heads i l h) (ag.links i l h)

  module _ (in1 in2 : ℕ → ℕ → ℕ → Option Term) (grow : (d a b : ℕ) (t : Term) → in1 d a b ≡ some t → a < b) (k : ℕ)
      (keep : (d e a b : ℕ) (t : Term) → d ≤ e → low ≤ a → b ≤ high → b - a ≤ k → in1 d a b ≡ some t → in2 e a b ≡ some t) where
    within-kept : (d e a b : ℕ) (t : Term) → d ≤ e → low ≤ a → b ≤ high → b - a ≤ k → within in1 d a b ≡ some t → within in2 e a b ≡ some t
    unfolding within
    within-kept zero e a b t de lo hi r z = none-some t z
    within-kept (suc d) zero a b t de lo hi r z = absurd (omega arith)
    within-kept (suc d) (suc e) a b t de lo hi r z = keep d e a b t (omega arith) lo hi r z

    module _ (d e : ℕ) (de : d ≤ e) where
      operand-kept : (at : ℕ) (x : Term × ℕ) → low ≤ at → x.1 ≤ high → x.1 ≤ at + suc k → operand_term m n C in1 d at ≡ some x → operand_term p q D in2 e at ≡ some x
      operand-kept at x lo hi r z =
          let o = operand-moves m n C in1 grow d at x z in
          let w = head_at C at in
          let l = link_at C at in
          let s : operand_of p q w l (within in2 e) (in2 e) at ≡ operand_term p q D in2 e at = ap₂ (λ (v j : ℕ). operand_of p q v j (within in2 e) (in2 e) at) (ag.heads at lo (omega arith)) (ag.links at lo (omega arith)) in
          sym s ∙ of-any m n w l (within in1 d) (in1 d) at x z
          (λ h g. to-leaf p q w l (within in2 e) (in2 e) at x h (record { is = leaf-more m n p q hm hn (op_in w) (value_in w) x.0 g.is; end = g.end }))
          (λ h j g. to-element p q w l (within in2 e) (in2 e) at x h j (record {
            t = g.t;
            inside = within-kept d e (at + 2) l g.t de (omega arith) (omega (arith, g.end)) (omega (arith, g.end)) g.inside;
            is = element-more m n p q hm hn (op_in w) (value_in w) g.t x.0 g.is;
            end = g.end;
          }))
          (λ h g. to-nested p q w l (within in2 e) (in2 e) at x h (record { inside = within-kept d e (at + 1) l x.0 de (omega arith) (omega (arith, g.end)) (omega (arith, g.end)) g.inside; end = g.end }))
          (λ h g. to-prefix p q w l (within in2 e) (in2 e) at x h (record {
            t = g.t;
            inside = keep d e (at + 1) l g.t de (omega arith) (omega (arith, g.end)) (omega (arith, g.end)) g.inside;
            is = g.is;
            end = g.end;
          }))

      right_kept : (i : ℕ) (u : Term) → low ≤ i → right_end C i ≤ high → right_end C i ≤ i + suc k → right_term m n C (in1 d) i ≡ some u → right_term p q D (in2 e) i ≡ some u
      right_kept i u lo hi r z =
          let o = right-moves m n C (in1 d) (grow d) i u z in
          let hd : head_at C i ≡ head_at D i = ag.heads i lo (omega arith) in
          let lk : link_at C i ≡ link_at D i = ag.links i lo (omega arith) in
          let cl : right_in (op_at C i) ≡ right_in (op_at D i) = ap (λ (w : ℕ). right_in (op_in w)) hd in
          by-same (right_in (op_at C i)) a_span
          (λ h.
          let s = end-span C i h in
          right-span D i p q (in2 e) (sym cl ∙ h) ∙ ap (in2 e (i + 1)) (sym lk)
          ∙ keep d e (i + 1) (link_at C i) u de (omega arith) (omega arith) (omega arith) (sym (right-span C i m n (in1 d) h) ∙ z))
          (λ h.
          right-leaf D i p q (in2 e) (λ y. h (cl ∙ y))
          ∙ ap (λ (w : ℕ). leaf_term p q (right_in (op_in w)) (value_in w)) (sym hd)
          ∙ leaf-more m n p q hm hn (right_in (op_at C i)) (value_at C i) u (sym (right-leaf C i m n (in1 d) h) ∙ z))

      chain-kept : (f g : ℕ) (t : Term) (i to : ℕ) (u : Term) → low ≤ i → to ≤ high → to - i ≤ g → to - i ≤ k
          → chain m n C (in1 d) f t i to ≡ some u → chain p q D (in2 e) g t i to ≡ some u
      chain-kept zero g t i to u lo hi r s z =
          by-same i to
          (λ h. chain-stop p q D (in2 e) g t i to h ∙ ap some (chain-done m n C (in1 d) zero t i to u h z))
          (λ h. let y = chain-step m n C (in1 d) zero t i to u h z in absurd (omega (arith, y.more)))
      chain-kept (suc f) zero t i to u lo hi r s z =
          by-same i to
          (λ h. chain-stop p q D (in2 e) zero t i to h ∙ ap some (chain-done m n C (in1 d) (suc f) t i to u h z))
          (λ h. let y = chain-step m n C (in1 d) (suc f) t i to u h z in absurd (omega (arith, y.on, right-moves m n C (in1 d) (grow d) i y.u y.right)))
      chain-kept (suc f) (suc g) t i to u lo hi r s z =
          by-same i to
          (λ h. chain-stop p q D (in2 e) (suc g) t i to h ∙ ap some (chain-done m n C (in1 d) (suc f) t i to u h z))
          (λ h.
          let y = chain-step m n C (in1 d) (suc f) t i to u h z in
          let o = right-moves m n C (in1 d) (grow d) i y.u y.right in
          let fp : y.p ≡ f = omega (arith, y.more) in
          let hd : head_at C i ≡ head_at D i = ag.heads i lo (omega (arith, y.on)) in
          let re : right_end C i ≡ right_end D i = end_kept i lo (omega (arith, y.on)) in
          chain-go p q D (in2 e) g t i to y.u h (omega (arith, y.on)) (right_kept i y.u lo (omega (arith, y.on)) (omega (arith, y.on)) y.right)
          ∙ sym (ap₂ (λ (w j : ℕ). chain p q D (in2 e) g (binary (operator_in (op_in w)) t y.u) j to) hd re)
          ∙ chain-kept f g (binary (operator_in (op_at C i)) t y.u) (right_end C i) to u (omega arith) hi (omega (arith, y.on)) (omega (arith, y.on))
          (subst (λ (j : ℕ). chain m n C (in1 d) j (binary (operator_in (op_at C i)) t y.u) (right_end C i) to ≡ some u) fp y.rest))

  pub kept : (f g d e a b : ℕ) (t : Term) → d ≤ e → low ≤ a → b ≤ high → b - a ≤ g → span_term m n C f d a b ≡ some t → span_term p q D g e a b ≡ some t
  unfolding span_term
  kept zero g d e a b t de lo hi r z = none-some t z
  kept (suc f) zero d e a b t de lo hi r z = let s = grows m n C (suc f) d a b t z in absurd (omega arith)
  kept (suc f) (suc g) d e a b t de lo hi r z =
      let s = went (operand_term m n C (span_term m n C f) d a) (λ x. chain m n C (span_term m n C f d) f x.0 x.1 b) t z in
      let o = operand-moves m n C (span_term m n C f) (grows m n C f) d a s.a s.first in
      let c = chain-on m n C (span_term m n C f d) (grows m n C f d) f s.a.0 s.a.1 b t s.next in
      let keep = kept f g in
      goes (operand_term p q D (span_term p q D g) e a) (λ x. chain p q D (span_term p q D g e) g x.0 x.1 b) s.a
      (operand-kept (span_term m n C f) (span_term p q D g) (grows m n C f) g keep d e de a s.a lo (omega arith) (omega arith) s.first)
      ∙ chain-kept (span_term m n C f) (span_term p q D g) (grows m n C f) g keep d e de f g s.a.0 s.a.1 b t (omega arith) hi (omega arith) (omega arith) s.next

-- ---- the one fuel
pub record Begun (m n : ℕ) (C : List ℕ) (d from to : ℕ) (t : Term) : Type 0 where
  pub x : Term × ℕ
  pub first : operand_term m n C (term_within m n C) d from ≡ some x
  pub after : from < x.1
  pub on : x.1 ≤ to
  pub g : ℕ
  pub rest : chain m n C (term_within m n C d) g x.0 x.1 to ≡ some t

module _ (m n : ℕ) (C : List ℕ) where
  -- a term's words are from `from` up to `to`, and there is at least one
  pub term-grows : (d a b : ℕ) (t : Term) → term_within m n C d a b ≡ some t → a < b
  unfolding term_within
  term-grows d a b t e = grows m n C (b - a) d a b t e

  pub span-grows : (a b : ℕ) (t : Term) → term_in m n C a b ≡ some t → a < b
  span-grows a b t e = term-grows _ a b t e

  -- whatever fuel and nesting read a term, and any that are enough
  pub any_fuel : (f d e a b : ℕ) (t : Term) → d ≤ e → span_term m n C f d a b ≡ some t → term_within m n C e a b ≡ some t
  unfolding term_within
  any_fuel f d e a b t h z = kept m n m n (omega arith) (omega arith) C C a b (agree_same C a b) f (b - a) d e a b t h (omega arith) (omega arith) (omega arith) z

  pub enough : (f d e a b : ℕ) (t : Term) → d ≤ e → b - a ≤ f → term_within m n C d a b ≡ some t → span_term m n C f e a b ≡ some t
  unfolding term_within
  enough f d e a b t h r z = kept m n m n (omega arith) (omega arith) C C a b (agree_same C a b) (b - a) f d e a b t h (omega arith) (omega arith) r z

  -- the parts of a span, read with two inners that say the same
  module _ (in1 in2 : ℕ → ℕ → ℕ → Option Term) (grow : (d a b : ℕ) (t : Term) → in1 d a b ≡ some t → a < b) (d from to : ℕ)
      (keep : (d e a b : ℕ) (t : Term) → d ≤ e → from ≤ a → b ≤ to → b - a ≤ to → in1 d a b ≡ some t → in2 e a b ≡ some t) where
    operand-as : (x : Term × ℕ) → x.1 ≤ to → operand_term m n C in1 d from ≡ some x → operand_term m n C in2 d from ≡ some x
    operand-as x h e = operand-kept m n m n (omega arith) (omega arith) C C from to (agree_same C from to) in1 in2 grow to keep d d (omega arith) from x (omega arith) h (omega arith) e

    chain-as : (f : ℕ) (x : Term × ℕ) (t : Term) → from ≤ x.1 → chain m n C (in1 d) f x.0 x.1 to ≡ some t → chain m n C (in2 d) to x.0 x.1 to ≡ some t
    chain-as f x t h e =
        chain-kept m n m n (omega arith) (omega arith) C C from to (agree_same C from to) in1 in2 grow to keep d d (omega arith) f to x.0 x.1 to t h (omega arith) (omega arith) (omega arith) e

  begun-with : (f d from to : ℕ) (t : Term) → span_term m n C f d from to ≡ some t → Begun m n C d from to t
  unfolding span_term
  begun-with zero d from to t e = none-some t e
  begun-with (suc f) d from to t e =
      let s = went (operand_term m n C (span_term m n C f) d from) (λ x. chain m n C (span_term m n C f d) f x.0 x.1 to) t e in
      let o = operand-moves m n C (span_term m n C f) (grows m n C f) d from s.a s.first in
      let c = chain-on m n C (span_term m n C f d) (grows m n C f d) f s.a.0 s.a.1 to t s.next in
      record {
        x = s.a;
        after = o;
        on = c;
        g = to;
        first = operand-as (span_term m n C f) (term_within m n C) (grows m n C f) d from to (λ p q a b u h l k j z. any_fuel f p q a b u h z) s.a c s.first;
        rest = chain-as (span_term m n C f) (term_within m n C) (grows m n C f) d from to (λ p q a b u h l k j z. any_fuel f p q a b u h z) f s.a t (omega arith) s.next;
      }

  pub begun : (d from to : ℕ) (t : Term) → term_within m n C d from to ≡ some t → Begun m n C d from to t
  unfolding term_within
  begun d from to t e = begun-with (to - from) d from to t e

  pub ended : (d from to g : ℕ) (x : Term × ℕ) (t : Term) → operand_term m n C (term_within m n C) d from ≡ some x → chain m n C (term_within m n C d) g x.0 x.1 to ≡ some t
      → term_within m n C d from to ≡ some t
  unfolding span_term
  ended d from to g x t e c =
      let o = operand-moves m n C (term_within m n C) term-grows d from x e in
      let k = chain-on m n C (term_within m n C d) (term-grows d) g x.0 x.1 to t c in
      any_fuel (suc to) d d from to t (omega arith)
      (goes (operand_term m n C (span_term m n C to) d from) (λ y. chain m n C (span_term m n C to d) to y.0 y.1 to) x
      (operand-as (term_within m n C) (span_term m n C to) term-grows d from to (λ p q a b u h l k j z. enough to p q a b u h j z) x k e)
      ∙ chain-as (term_within m n C) (span_term m n C to) term-grows d from to (λ p q a b u h l k j z. enough to p q a b u h j z) g x t (omega arith) c)

  -- a span of one word is a leaf
  pub single : (d at to : ℕ) (t : Term) → to ≡ at + 1 → term_within m n C d at to ≡ some t → leaf_term m n (op_at C at) (value_at C at) ≡ some t
  single d at to t h e =
      let b = begun d at to t e in
      let moves = within-moves m n C (term_within m n C) term-grows d in
      of-any m n (head_at C at) (link_at C at) (within (term_within m n C) d) (term_within m n C d) at b.x b.first
      (λ k g. g.is ∙ ap some (chain-done m n C (term_within m n C d) b.g b.x.0 b.x.1 to t (omega (arith, g.end)) b.rest))
      (λ k j g. absurd (omega (arith, g.end, b.on, moves (at + 2) (link_at C at) g.t g.inside)))
      (λ k g. absurd (omega (arith, g.end, b.on, moves (at + 1) (link_at C at) b.x.0 g.inside)))
      (λ k g. absurd (omega (arith, g.end, b.on, term-grows d (at + 1) (link_at C at) g.t g.inside)))

  -- ---- an operator more, at mid
  module _ (d mid : ℕ) (b : Term) (s : right_term m n C (term_within m n C d) mid ≡ some b) where
    longer : mid + 1 < right_end C mid
    longer = right-moves m n C (term_within m n C d) (term-grows d) mid b s

    chain-last : (f : ℕ) (t : Term) (i : ℕ) (a : Term) → i ≡ mid → chain m n C (term_within m n C d) f t i mid ≡ some a
        → chain m n C (term_within m n C d) (suc f) t i (right_end C mid) ≡ some (binary (operator_in (op_at C mid)) a b)
    chain-last f t i a q e =
        let o = longer in
        ap (λ (j : ℕ). chain m n C (term_within m n C d) (suc f) t j (right_end C mid)) q
        ∙ chain-go m n C (term_within m n C d) f t mid (right_end C mid) b (λ z. omega arith) (omega arith) s
        ∙ ap (λ (v : Term). chain m n C (term_within m n C d) f (binary (operator_in (op_at C mid)) v b) (right_end C mid) (right_end C mid)) (chain-done m n C (term_within m n C d) f t i mid a q e)
        ∙ chain-stop m n C (term_within m n C d) f (binary (operator_in (op_at C mid)) a b) (right_end C mid) (right_end C mid) refl

    chain_more : (f : ℕ) (t : Term) (i : ℕ) (a : Term) → chain m n C (term_within m n C d) f t i mid ≡ some a
        → chain m n C (term_within m n C d) (suc f) t i (right_end C mid) ≡ some (binary (operator_in (op_at C mid)) a b)
    chain_more zero t i a e =
        by-same i mid (λ h. chain-last zero t i a h e) (λ h. let y = chain-step m n C (term_within m n C d) zero t i mid a h e in absurd (omega (arith, y.more)))
    chain_more (suc f) t i a e =
        by-same i mid (λ h. chain-last (suc f) t i a h e) (λ h.
        let y = chain-step m n C (term_within m n C d) (suc f) t i mid a h e in
        let o = right-moves m n C (term_within m n C d) (term-grows d) i y.u y.right in
        let r = longer in
        let p : y.p ≡ f = omega (arith, y.more) in
        chain-go m n C (term_within m n C d) (suc f) t i (right_end C mid) y.u (λ z. omega (arith, y.on)) (omega (arith, y.on)) y.right
        ∙ chain_more f (binary (operator_in (op_at C i)) t y.u) (right_end C i) a
        (subst (λ (j : ℕ). chain m n C (term_within m n C d) j (binary (operator_in (op_at C i)) t y.u) (right_end C i) mid ≡ some a) p y.rest))

    pub composed : (from : ℕ) (a : Term) → term_within m n C d from mid ≡ some a → term_within m n C d from (right_end C mid) ≡ some (binary (operator_in (op_at C mid)) a b)
    composed from a e =
        let h = begun d from mid a e in
        ended d from (right_end C mid) (suc h.g) h.x (binary (operator_in (op_at C mid)) a b) h.first (chain_more h.g h.x.0 h.x.1 a h.rest)
