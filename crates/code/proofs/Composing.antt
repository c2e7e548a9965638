-- The laws for whoever writes the cells: how a term that stands in a span grows, from one word on, and what may be written elsewhere meanwhile.
use mathlib.Core.Path.{◌≡◌, refl, sym, ap, ◌∙◌}
use mathlib.Core.List.{List}
use mathlib.Core.Option.{some}
use Prim.Native.Nat.{ℕ, suc, ◌+◌, ◌-◌, ◌*◌, ◌/◌, ◌%◌, ◌<◌, ◌≤◌}
use native.Mathlib.Omega.{arith}
use lib.ListN.{get_or, set}
use lib.Seq.{get_or-set_other}
use Rattle.paper.specs.Terms.{Term, unary, binary}
use Rattle.code.specs.Cells.{link_in, head_at, op_at, value_at, link_at}
use Rattle.code.specs.Spans.{a_call_slot, a_call_element, a_parenthesis, a_span, right_in, operator_in, operator_of, op_of, prefix_in, leaf_term, element_term, within, operand_term, term_within, term_in}
use Rattle.code.proofs.Operands.{to-leaf, to-element, to-nested, to-prefix}
use Rattle.code.proofs.Spanning.{Agree, end-span, end-leaf, right-span, right-leaf, chain-stop, kept, ended, composed, agree_same}

module _ (m n : ℕ) (C : List ℕ) (d : ℕ) where
  alone : (from to : ℕ) (t : Term) → operand_term m n C (term_within m n C) d from ≡ some (t, to) → term_within m n C d from to ≡ some t
  alone from to t e = ended m n C d from to 0 (t, to) t e (chain-stop m n C (term_within m n C d) 0 t to to refl)

  -- a word alone
  pub leaf-span : (i : ℕ) (t : Term) → op_at C i ≤ a_call_slot → leaf_term m n (op_at C i) (value_at C i) ≡ some t → term_within m n C d i (i + 1) ≡ some t
  leaf-span i t h e = alone i (i + 1) t (to-leaf m n (head_at C i) (link_at C i) (within (term_within m n C) d) (term_within m n C d) i (t, i + 1) h (record { is = e; end = refl }))

  -- NOT or a sign at i, before what stands up to r
  pub prefix-span : (i r : ℕ) (t : Term) → a_parenthesis < op_at C i → link_at C i ≡ r → term_within m n C d (i + 1) r ≡ some t → term_within m n C d i r ≡ some (unary (prefix_in (op_at C i)) t)
  prefix-span i r t h l e =
      alone i r (unary (prefix_in (op_at C i)) t)
      (to-prefix m n (head_at C i) (link_at C i) (within (term_within m n C) d) (term_within m n C d) i (unary (prefix_in (op_at C i)) t, r) h
      (record { t = t; inside = ap (term_within m n C d (i + 1)) l ∙ e; is = refl; end = sym l }))

  -- An operator at i behind a term, with its right side up to r: the operator takes all that stands before it in the span for its left side, as a - b - c asks.
  -- A right side that binds tighter, as b * c in a + b * c, is a span of its own before the operator joins it.
  pub joined-span : (from i r : ℕ) (a b : Term) → right_in (op_at C i) ≡ a_span → link_at C i ≡ r → term_within m n C d from i ≡ some a → term_within m n C d (i + 1) r ≡ some b
      → term_within m n C d from r ≡ some (binary (operator_in (op_at C i)) a b)
  joined-span from i r a b h l e f =
      ap (term_within m n C d from) (sym (end-span C i h ∙ l))
      ∙ composed m n C d i b (right-span C i m n (term_within m n C d) h ∙ ap (term_within m n C d (i + 1)) l ∙ f) from a e

  -- the same where the right side is the next word alone, and the operator has its value
  pub joined-leaf : (from i : ℕ) (a b : Term) → (right_in (op_at C i) ≡ a_span → ⊥) → term_within m n C d from i ≡ some a → leaf_term m n (right_in (op_at C i)) (value_at C i) ≡ some b
      → term_within m n C d from (i + 2) ≡ some (binary (operator_in (op_at C i)) a b)
  joined-leaf from i a b h e f =
      ap (term_within m n C d from) (sym (end-leaf C i h))
      ∙ composed m n C d i b (right-leaf C i m n (term_within m n C d) h ∙ f) from a e

-- what stands in parentheses or braces nests one less
module _ (m n : ℕ) (C : List ℕ) (d : ℕ) where
  within-one : (from to : ℕ) → within (term_within m n C) (suc d) from to ≡ term_within m n C d from to
  unfolding within
  within-one from to = refl

  -- ( at i, its ) at r
  pub nested-span : (i r : ℕ) (t : Term) → op_at C i ≡ a_parenthesis → link_at C i ≡ r → term_within m n C d (i + 1) r ≡ some t → term_within m n C (suc d) i (r + 1) ≡ some t
  nested-span i r t h l e =
      alone m n C (suc d) i (r + 1) t
      (to-nested m n (head_at C i) (link_at C i) (within (term_within m n C) (suc d)) (term_within m n C (suc d)) i (t, r + 1) h
      (record { inside = within-one (i + 1) (link_at C i) ∙ ap (term_within m n C d (i + 1)) l ∙ e; end = omega arith }))

  -- an array's name at i, { behind it, its } at r
  pub element-span : (i r : ℕ) (t u : Term) → a_call_slot < op_at C i → op_at C i ≤ a_call_element → link_at C i ≡ r → term_within m n C d (i + 2) r ≡ some t
      → element_term m n (op_at C i) (value_at C i) t ≡ some u → term_within m n C (suc d) i (r + 1) ≡ some u
  element-span i r t u h k l e g =
      alone m n C (suc d) i (r + 1) u
      (to-element m n (head_at C i) (link_at C i) (within (term_within m n C) (suc d)) (term_within m n C (suc d)) i (u, r + 1) h k
      (record { t = t; inside = within-one (i + 2) (link_at C i) ∙ ap (term_within m n C d (i + 2)) l ∙ e; is = g; end = omega arith }))

-- what an operator's op says
module _ (number right : ℕ) (hk : number < 16) (hr : right < 4) where
  pub number-of-op : op_of number right % 16 ≡ number
  number-of-op = omega arith

  pub right-of-op : right_in (op_of number right) ≡ right
  right-of-op =
      let q : op_of number right / 16 ≡ 4 + right = omega arith in
      rw q (omega arith)

  pub operator-of-op : operator_in (op_of number right) ≡ operator_of number
  operator-of-op = ap operator_of number-of-op

-- Neither cells outside the span nor the places of its words matter, and more words of data do no harm.
pub within-framed : (d m n p q : ℕ) (C D : List ℕ) (from to : ℕ) (t : Term) → m ≤ p → n ≤ q → Agree C D from to → term_within m n C d from to ≡ some t → term_within p q D d from to ≡ some t
unfolding term_within
within-framed d m n p q C D from to t hm hn ag e = kept m n p q hm hn C D from to ag (to - from) (to - from) d d from to t (omega arith) (omega arith) (omega arith) (omega arith) e

pub framed : (m n p q : ℕ) (C D : List ℕ) (from to : ℕ) (t : Term) → m ≤ p → n ≤ q → Agree C D from to → term_in m n C from to ≡ some t → term_in p q D from to ≡ some t
framed m n p q C D from to t hm hn ag e = within-framed _ m n p q C D from to t hm hn ag e

pub frame : (d m n : ℕ) (C D : List ℕ) (from to : ℕ) (t : Term) → ((k : ℕ) → from * 2 ≤ k → k < to * 2 → get_or C k 0 ≡ get_or D k 0) → term_within m n C d from to ≡ some t → term_within m n D d from to ≡ some t
frame d m n C D from to t h e =
    within-framed d m n m n C D from to t (omega arith) (omega arith)
    (record { heads = λ i a b. h (i * 2) (omega arith) (omega arith); links = λ i a b. ap (λ (v : ℕ). v / 65536) (h (i * 2 + 1) (omega arith) (omega arith)) }) e

pub more-words : (d m n p q : ℕ) (C : List ℕ) (from to : ℕ) (t : Term) → m ≤ p → n ≤ q → term_within m n C d from to ≡ some t → term_within p q C d from to ≡ some t
more-words d m n p q C from to t hm hn e = within-framed d m n p q C C from to t hm hn (agree_same C from to) e

-- ---- one word written
-- D is C but for word i.
pub record Rewritten (C D : List ℕ) (i : ℕ) : Type 0 where
  pub heads : (k : ℕ) → (k ≡ i → ⊥) → head_at C k ≡ head_at D k
  pub links : (k : ℕ) → (k ≡ i → ⊥) → link_at C k ≡ link_at D k

pub head-rewritten : (C : List ℕ) (i w : ℕ) → Rewritten C (set C (i * 2) w) i
head-rewritten C i w = record {
  heads = λ k d. sym (get_or-set_other C (i * 2) (k * 2) w 0 (λ z. d (omega arith)));
  links = λ k d. ap link_in (sym (get_or-set_other C (i * 2) (k * 2 + 1) w 0 (λ z. omega arith)));
}

pub tail-rewritten : (C : List ℕ) (i w : ℕ) → Rewritten C (set C (i * 2 + 1) w) i
tail-rewritten C i w = record {
  heads = λ k d. sym (get_or-set_other C (i * 2 + 1) (k * 2) w 0 (λ z. omega arith));
  links = λ k d. ap link_in (sym (get_or-set_other C (i * 2 + 1) (k * 2 + 1) w 0 (λ z. d (omega arith))));
}

pub rewritten-on : (C D E : List ℕ) (i : ℕ) → Rewritten C D i → Rewritten D E i → Rewritten C E i
rewritten-on C D E i p q = record { heads = λ k d. p.heads k d ∙ q.heads k d; links = λ k d. p.links k d ∙ q.links k d }

-- a term that stands before the word, or behind it, still stands
module _ (d m n : ℕ) (C D : List ℕ) (i : ℕ) (rew : Rewritten C D i) where
  pub stands-before : (from to : ℕ) (t : Term) → to ≤ i → term_within m n C d from to ≡ some t → term_within m n D d from to ≡ some t
  stands-before from to t h e =
      within-framed d m n m n C D from to t (omega arith) (omega arith) (record { heads = λ k a b. rew.heads k (λ z. omega arith); links = λ k a b. rew.links k (λ z. omega arith) }) e

  pub stands-behind : (from to : ℕ) (t : Term) → i < from → term_within m n C d from to ≡ some t → term_within m n D d from to ≡ some t
  stands-behind from to t h e =
      within-framed d m n m n C D from to t (omega arith) (omega arith) (record { heads = λ k a b. rew.heads k (λ z. omega arith); links = λ k a b. rew.links k (λ z. omega arith) }) e

  -- the operator's word is what was written: the term before it and the one behind it, read before, are joined
  pub written-span : (from r : ℕ) (a b : Term) → right_in (op_at D i) ≡ a_span → link_at D i ≡ r → term_within m n C d from i ≡ some a → term_within m n C d (i + 1) r ≡ some b
      → term_within m n D d from r ≡ some (binary (operator_in (op_at D i)) a b)
  written-span from r a b h l e f = joined-span m n D d from i r a b h l (stands-before from i a (omega arith) e) (stands-behind (i + 1) r b (omega arith) f)

  pub written-leaf : (from : ℕ) (a b : Term) → (right_in (op_at D i) ≡ a_span → ⊥) → term_within m n C d from i ≡ some a → leaf_term m n (right_in (op_at D i)) (value_at D i) ≡ some b
      → term_within m n D d from (i + 2) ≡ some (binary (operator_in (op_at D i)) a b)
  written-leaf from a b h e f = joined-leaf m n D d from i a b h (stands-before from i a (omega arith) e) f
