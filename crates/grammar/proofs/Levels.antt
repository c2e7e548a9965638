-- An expression that the grammar derives is what the parser reads, where the word behind it goes on no expression; and what the parser reads is derived.
use mathlib.Core.Path.{◌≡◌, refl, sym, ap, subst, ◌∙◌}
use mathlib.Core.Bool.{true, false, ◌||◌}
use mathlib.Core.Logic.{◌⊎◌, inl, inr}
use Prim.Native.Nat.{ℕ, zero, suc, ◌+◌, ◌-◌, ◌<◌, ◌≤◌}
use native.Mathlib.Omega.{arith}
use lib.Dec.{eqb}
use borrow.Author.Tests.{eqb-true, eq-eqb, ne_eqb}
use Rattle.laws.proofs.Tests.{false-true}
use Rattle.paper.specs.Sorts.{NAME, NUMBER, TRUE, FALSE, NOT, plus, minus_sign, open_paren, close_paren, open_brace, close_brace}
use Rattle.paper.specs.Trees.{Expr, signed, joined}
use Rattle.paper.specs.Expressions.{Parser, got, parts, products, sums, relations, conjunctions, disjunctions, level_of, stands_before, is_literal, in_parentheses, indexed, named, operand, chain, prefixed, level, expr_in}
use Rattle.grammar.specs.Grammar.{DisjunctionAt, a-conjunction, negated, or-xor, ConjunctionAt, a-relation, and, RelationAt, a_sum, compared, SumAt, a-product, with-sign, plus-minus, ProductAt, an-operand, times-div-mod, OperandAt, a-literal, a-name, an-element, in-parentheses, NestsTo}
use Rattle.grammar.proofs.Steps.{Comes, too-deep, too_long, done, and_then, bind-got, if-true, if-false, when_true, when_false, either_true, expect-on}

-- ---- words
-- A word behind an expression: it goes on none of the levels up to j.
pub record Ends (j s : ℕ) : Type 0 where
  pub brace : ¬ (s ≡ open_brace)
  pub loose : (i : ℕ) → 0 < i → i ≤ j → level_of s ≡ i → ⊥

ends-lower : (i j s : ℕ) → i ≤ j → Ends j s → Ends i s
ends-lower i j s h k = record { brace = k.brace; loose = λ l p q. k.loose l p (omega arith) }

-- an operator goes on no tighter level
operator-ends : (j s : ℕ) → level_of s ≡ suc j → Ends j s
unfolding level_of
operator-ends j s h = record { brace = λ b. let z : 0 ≡ suc j = sym (ap level_of b) ∙ h in absurd (omega arith); loose = λ i p q e. omega (arith, sym h ∙ e) }

-- what is behind a whole expression
pub plain-ends : (s : ℕ) → level_of s ≡ 0 → ¬ (s ≡ open_brace) → Ends disjunctions s
plain-ends s h b = record { brace = b; loose = λ i p q e. omega (arith, sym h ∙ e) }

pub closing-ends : (s : ℕ) {t : ℕ} → t ≡ s → level_of s ≡ 0 → ¬ (s ≡ open_brace) → Ends disjunctions t
closing-ends s {t} e h b = plain-ends t (ap level_of e ∙ h) (λ z. b (sym e ∙ z))

-- a first word that is no sign
record Opens (s : ℕ) : Type 0 where
  no-not : ¬ (s ≡ NOT)
  no_plus : ¬ (s ≡ plus)
  no_minus : ¬ (s ≡ minus_sign)

opens_as : (s t : ℕ) → s ≡ t → ¬ (t ≡ NOT) → ¬ (t ≡ plus) → ¬ (t ≡ minus_sign) → Opens s
opens_as s t e a b c = record { no-not = λ h. a (sym e ∙ h); no_plus = λ h. b (sym e ∙ h); no_minus = λ h. c (sym e ∙ h) }

literal-opens : (s : ℕ) → is_literal s ≡ true → Opens s
unfolding is_literal
literal-opens s h =
    either_true (eqb s NUMBER || eqb s TRUE) (eqb s FALSE) h
    (λ k. either_true (eqb s NUMBER) (eqb s TRUE) k (λ t. opens_as s NUMBER (eqb-true _ _ t) (λ z. omega arith) (λ z. omega arith) (λ z. omega arith)) (λ t. opens_as s TRUE (eqb-true _ _ t) (λ z. omega arith) (λ z. omega arith) (λ z. omega arith)))
    (λ t. opens_as s FALSE (eqb-true _ _ t) (λ z. omega arith) (λ z. omega arith) (λ z. omega arith))

not-paren-name : (s : ℕ) → is_literal s ≡ true → (s ≡ open_paren → ⊥) × (s ≡ NAME → ⊥)
unfolding is_literal
not-paren-name s h = (λ e. false-true (ap is_literal (sym e) ∙ h), λ e. false-true (ap is_literal (sym e) ∙ h))

module _ (W : ℕ → ℕ) where
  operand-opens : {e : Expr} {at to : ℕ} → OperandAt W e at to → Opens (W at)
  operand-opens (a-literal i l z) = literal-opens _ l
  operand-opens (a-name i n z) = opens_as _ _ n (λ z. omega arith) (λ z. omega arith) (λ z. omega arith)
  operand-opens (an-element i n b k c z) = opens_as _ _ n (λ z. omega arith) (λ z. omega arith) (λ z. omega arith)
  operand-opens (in-parentheses i o k c z) = opens_as _ _ o (λ z. omega arith) (λ z. omega arith) (λ z. omega arith)

  product-opens : {e : Expr} {at to : ℕ} → ProductAt W e at to → Opens (W at)
  product-opens (an-operand k) = operand-opens k
  product-opens (times-div-mod h o k) = product-opens h

  sum-opens : {e : Expr} {at to : ℕ} → SumAt W e at to → ¬ (W at ≡ NOT)
  sum-opens (a-product k) = (product-opens k).no-not
  sum-opens (with-sign i (inl s) k) = λ z. omega (arith, sym s ∙ z)
  sum-opens (with-sign i (inr s) k) = λ z. omega (arith, sym s ∙ z)
  sum-opens (plus-minus h o k) = sum-opens h

  relation-opens : {e : Expr} {at to : ℕ} → RelationAt W e at to → ¬ (W at ≡ NOT)
  relation-opens (a_sum k) = sum-opens k
  relation-opens (compared h o k) = sum-opens h

  conjunction-opens : {e : Expr} {at to : ℕ} → ConjunctionAt W e at to → ¬ (W at ≡ NOT)
  conjunction-opens (a-relation k) = relation-opens k
  conjunction-opens (and h o k) = conjunction-opens h

  -- ---- spans
  mutual
    pub disjunction-grows : {e : Expr} {at to : ℕ} → DisjunctionAt W e at to → at < to
    disjunction-grows (a-conjunction k) = conjunction-grows k
    disjunction-grows (negated i n k) = omega (arith, conjunction-grows k)
    disjunction-grows (or-xor h o k) = omega (arith, disjunction-grows h, conjunction-grows k)

    conjunction-grows : {e : Expr} {at to : ℕ} → ConjunctionAt W e at to → at < to
    conjunction-grows (a-relation k) = relation-grows k
    conjunction-grows (and h o k) = omega (arith, conjunction-grows h, relation-grows k)

    relation-grows : {e : Expr} {at to : ℕ} → RelationAt W e at to → at < to
    relation-grows (a_sum k) = sum-grows k
    relation-grows (compared h o k) = omega (arith, sum-grows h, sum-grows k)

    sum-grows : {e : Expr} {at to : ℕ} → SumAt W e at to → at < to
    sum-grows (a-product k) = product-grows k
    sum-grows (with-sign i n k) = omega (arith, product-grows k)
    sum-grows (plus-minus h o k) = omega (arith, sum-grows h, product-grows k)

    product-grows : {e : Expr} {at to : ℕ} → ProductAt W e at to → at < to
    product-grows (an-operand k) = operand-grows k
    product-grows (times-div-mod h o k) = omega (arith, product-grows h, operand-grows k)

    operand-grows : {e : Expr} {at to : ℕ} → OperandAt W e at to → at < to
    operand-grows (a-literal i l z) = omega arith
    operand-grows (a-name i n z) = omega arith
    operand-grows (an-element i n b k c z) = omega (arith, disjunction-grows k)
    operand-grows (in-parentheses i o k c z) = omega (arith, disjunction-grows k)

  module _ (D : Type 0) (T : ℕ → Type 0) (top : ℕ) (long : (j : ℕ) → parts ≤ j → j ≤ top → T j) where
    -- ---- one level of the parser
    module _ (inner : Parser Expr) (j : ℕ) where
      -- what is left to read of the chain of level j + 1 that begins at `at`, after e
      record Left (e : Expr) (at to : ℕ) : Type 0 where
        p : ℕ
        room : parts + at ≤ p + to
        left : Comes D T (level W inner (suc j) at) (chain W p (suc j) (level W inner j) e to)

      alone-left : (e : Expr) (at to : ℕ) → stands_before (suc j) (W at) ≡ false → at < to → Comes D T (level W inner j at) (got (e, to)) → Left e at to
      unfolding level prefixed
      alone-left e at to b g h =
          record { p = parts; room = omega arith; left = bind-got (prefixed W (suc j) (level W inner j) at) _ (e, to) (when_false (stands_before (suc j) (W at)) _ _ b h) done }

      covered-left : (e : Expr) (at to : ℕ) → stands_before (suc j) (W at) ≡ true → at + 1 < to → Comes D T (level W inner j (at + 1)) (got (e, to)) → Left (signed at e) at to
      unfolding level prefixed
      covered-left e at to b g h =
          record {
            p = parts;
            room = omega arith;
            left = bind-got (prefixed W (suc j) (level W inner j) at) _ (signed at e, to) (when_true (stands_before (suc j) (W at)) _ _ b (bind-got (level W inner j (at + 1)) _ (e, to) h done)) done;
          }

      joined-left : (a b : Expr) (at n to : ℕ) → Left a at n → level_of (W n) ≡ suc j → ¬ (suc j ≡ relations) → n + 1 < to → to ≤ top → Comes D T (level W inner j (n + 1)) (got (b, to)) → Left (joined n a b) at to
      unfolding chain
      joined-left a b at n to k o f g w h = by k.p k.room k.left
        where
          by : (p : ℕ) → parts + at ≤ p + n → Comes D T (level W inner (suc j) at) (chain W p (suc j) (level W inner j) a n) → Left (joined n a b) at to
          by zero r l = record { p = parts; room = omega arith; left = and_then l (too_long n (long n (omega arith) (omega arith)) refl) }
          by (suc p) r l =
              record {
                p = p;
                room = omega arith;
                left = and_then l (when_true (eqb (level_of (W n)) (suc j)) _ _ (eq-eqb _ _ o) (bind-got (level W inner j (n + 1)) _ (b, to) h (when_false (eqb (suc j) relations) _ _ (ne_eqb _ _ f) done)));
              }

      left-done : (e : Expr) (at to : ℕ) → Left e at to → ¬ (level_of (W to) ≡ suc j) → to ≤ top → Comes D T (level W inner (suc j) at) (got (e, to))
      unfolding chain
      left-done e at to k f w = by k.p k.room k.left
        where
          by : (p : ℕ) → parts + at ≤ p + to → Comes D T (level W inner (suc j) at) (chain W p (suc j) (level W inner j) e to) → Comes D T (level W inner (suc j) at) (got (e, to))
          by zero r l = and_then l (too_long to (long to (omega arith) w) refl)
          by (suc p) r l = and_then l (when_false (eqb (level_of (W to)) (suc j)) _ _ (ne_eqb _ _ f) done)

    -- "one relation at most"
    compared-reads : (inner : Parser Expr) (a b : Expr) (at n to : ℕ) → Left inner sums a at n → level_of (W n) ≡ relations → n ≤ top → Comes D T (level W inner sums (n + 1)) (got (b, to)) → Comes D T (level W inner relations at) (got (joined n a b, to))
    unfolding chain
    compared-reads inner a b at n to k o w h = by k.p k.room k.left
      where
        by : (p : ℕ) → parts + at ≤ p + n → Comes D T (level W inner relations at) (chain W p relations (level W inner sums) a n) → Comes D T (level W inner relations at) (got (joined n a b, to))
        by zero r l = and_then l (too_long n (long n (omega arith) w) refl)
        by (suc p) r l = and_then l (when_true (eqb (level_of (W n)) relations) _ _ (eq-eqb _ _ o) (bind-got (level W inner sums (n + 1)) _ (b, to) h done))

    -- ---- what is derived is read
    chain-done : (d j : ℕ) {e : Expr} {at to : ℕ} → Left (expr_in W d) j e at to → to ≤ top → Ends (suc j) (W to) → Comes D T (level W (expr_in W d) (suc j) at) (got (e, to))
    chain-done d j {e} {at} {to} k w f = left-done (expr_in W d) j e at to k (f.loose (suc j) (omega arith) (omega arith)) w

    -- it nests no deeper, or D lets it
    abbrev Fits : Expr → ℕ → Type 0
    Fits e d = D ⊎ NestsTo e d

    first_of : {X Y : Type 0} → D ⊎ (X × Y) → D ⊎ X
    first_of (inl d) = inl d
    first_of (inr h) = inr h.0

    second-of : {X Y : Type 0} → D ⊎ (X × Y) → D ⊎ Y
    second-of (inl d) = inl d
    second-of (inr h) = inr h.1

    whole-done : (d : ℕ) {X : Type 0} {e : Expr} {at to : ℕ} → D ⊎ ((0 < d) × X) → Left (expr_in W (d - 1)) conjunctions e at to → to ≤ top → Ends disjunctions (W to) → Comes D T (expr_in W d at) (got (e, to))
    unfolding expr_in
    whole-done zero {at = at} (inl x) k w f = too-deep (at - 1) x refl
    whole-done zero (inr l) k w f = absurd (omega (arith, l.0))
    whole-done (suc n) {e = e} {at = at} {to = to} l k w f =
        let z : suc n - 1 ≡ n = omega arith in
        chain-done n conjunctions (subst (λ (i : ℕ). Left (expr_in W i) conjunctions e at to) z k) w f

    brace-ends : {i : ℕ} → W i ≡ close_brace → Ends disjunctions (W i)
    unfolding level_of
    brace-ends c = closing-ends close_brace c refl (λ z. omega arith)

    paren-ends : {i : ℕ} → W i ≡ close_paren → Ends disjunctions (W i)
    unfolding level_of
    paren-ends c = closing-ends close_paren c refl (λ z. omega arith)

    mutual
      unfolding NestsTo level stands_before operand named indexed in_parentheses

      disjunction-left : (d : ℕ) {e : Expr} {at to : ℕ} → DisjunctionAt W e at to → Fits e d → to ≤ top → Ends conjunctions (W to) → Left (expr_in W d) conjunctions e at to
      disjunction-left d {e} {at} {to} (a-conjunction k) l w f = alone-left (expr_in W d) 4 e at to (ne_eqb _ _ (conjunction-opens k)) (conjunction-grows k) (chain-done d 3 (conjunction-left d k l w (ends-lower 3 4 _ (omega arith) f)) w f)
      disjunction-left d {at = at} {to = to} (negated {e = e} i o k) l w f = rw i (covered-left (expr_in W d) 4 e at to (eq-eqb _ _ o) (conjunction-grows k) (chain-done d 3 (conjunction-left d k l w (ends-lower 3 4 _ (omega arith) f)) w f))
      disjunction-left d {at = at} {to = to} (or-xor {a = a} {b = b} {n = n} h o k) l w f =
          joined-left (expr_in W d) 4 a b at n to (disjunction-left d h (first_of l) (omega (arith, conjunction-grows k)) (operator-ends 4 _ o)) o (λ z. omega arith) (conjunction-grows k) w (chain-done d 3 (conjunction-left d k (second-of l) w (ends-lower 3 4 _ (omega arith) f)) w f)

      conjunction-left : (d : ℕ) {e : Expr} {at to : ℕ} → ConjunctionAt W e at to → Fits e d → to ≤ top → Ends relations (W to) → Left (expr_in W d) relations e at to
      conjunction-left d {e} {at} {to} (a-relation k) l w f = alone-left (expr_in W d) 3 e at to refl (relation-grows k) (relation-reads d k l w f)
      conjunction-left d {at = at} {to = to} (and {a = a} {b = b} {n = n} h o k) l w f =
          joined-left (expr_in W d) 3 a b at n to (conjunction-left d h (first_of l) (omega (arith, relation-grows k)) (operator-ends 3 _ o)) o (λ z. omega arith) (relation-grows k) w (relation-reads d k (second-of l) w f)

      relation-reads : (d : ℕ) {e : Expr} {at to : ℕ} → RelationAt W e at to → Fits e d → to ≤ top → Ends relations (W to) → Comes D T (level W (expr_in W d) relations at) (got (e, to))
      relation-reads d {e} {at} {to} (a_sum k) l w f =
          let g = ends-lower 2 3 _ (omega arith) f in
          chain-done d 2 (alone-left (expr_in W d) 2 e at to refl (sum-grows k) (chain-done d 1 (sum_left d k l w (ends-lower 1 2 _ (omega arith) g)) w g)) w f
      relation-reads d {at = at} {to = to} (compared {a = a} {b = b} {n = n} h o k) l w f =
          let v : n ≤ top = omega (arith, sum-grows k) in
          let g = operator-ends 2 _ o in
          let q = ends-lower 2 3 _ (omega arith) f in
          compared-reads (expr_in W d) a b at n to (alone-left (expr_in W d) 2 a at n refl (sum-grows h) (chain-done d 1 (sum_left d h (first_of l) v (ends-lower 1 2 _ (omega arith) g)) v g)) o v (chain-done d 1 (sum_left d k (second-of l) w (ends-lower 1 2 _ (omega arith) q)) w q)

      sum_left : (d : ℕ) {e : Expr} {at to : ℕ} → SumAt W e at to → Fits e d → to ≤ top → Ends products (W to) → Left (expr_in W d) products e at to
      sum_left d {e} {at} {to} (a-product k) l w f =
          alone-left (expr_in W d) 1 e at to (rw (ne_eqb _ _ (product-opens k).no_plus) (ne_eqb _ _ (product-opens k).no_minus)) (product-grows k) (chain-done d 0 (product-left d k l w (ends-lower 0 1 _ (omega arith) f)) w f)
      sum_left d {at = at} {to = to} (with-sign {e = e} i (inl o) k) l w f = rw i (covered-left (expr_in W d) 1 e at to (rw o) (product-grows k) (chain-done d 0 (product-left d k l w (ends-lower 0 1 _ (omega arith) f)) w f))
      sum_left d {at = at} {to = to} (with-sign {e = e} i (inr o) k) l w f = rw i (covered-left (expr_in W d) 1 e at to (rw o) (product-grows k) (chain-done d 0 (product-left d k l w (ends-lower 0 1 _ (omega arith) f)) w f))
      sum_left d {at = at} {to = to} (plus-minus {a = a} {b = b} {n = n} h o k) l w f =
          joined-left (expr_in W d) 1 a b at n to (sum_left d h (first_of l) (omega (arith, product-grows k)) (operator-ends 1 _ o)) o (λ z. omega arith) (product-grows k) w (chain-done d 0 (product-left d k (second-of l) w (ends-lower 0 1 _ (omega arith) f)) w f)

      product-left : (d : ℕ) {e : Expr} {at to : ℕ} → ProductAt W e at to → Fits e d → to ≤ top → Ends 0 (W to) → Left (expr_in W d) 0 e at to
      product-left d {e} {at} {to} (an-operand k) l w f = alone-left (expr_in W d) 0 e at to refl (operand-grows k) (operand-reads d k l w f)
      product-left d {at = at} {to = to} (times-div-mod {a = a} {b = b} {n = n} h o k) l w f =
          joined-left (expr_in W d) 0 a b at n to (product-left d h (first_of l) (omega (arith, operand-grows k)) (operator-ends 0 _ o)) o (λ z. omega arith) (operand-grows k) w (operand-reads d k (second-of l) w f)

      operand-reads : (d : ℕ) {e : Expr} {at to : ℕ} → OperandAt W e at to → Fits e d → to ≤ top → Ends 0 (W to) → Comes D T (level W (expr_in W d) 0 at) (got (e, to))
      operand-reads d {at = at} {to = to} (a-literal i l z) n w f =
          let q = not-paren-name _ l in
          if-false (eqb (W at) open_paren) _ _ (ne_eqb _ _ q.0) (if-false (eqb (W at) NAME) _ _ (ne_eqb _ _ q.1) (if-true (is_literal (W at)) _ _ l (rw (i, z) done)))
      operand-reads d {at = at} {to = to} (a-name i o z) n w f =
          if-false (eqb (W at) open_paren) _ _ (rw o) (if-true (eqb (W at) NAME) _ _ (eq-eqb _ _ o) (if-false (eqb (W (at + 1)) open_brace) _ _ (ne_eqb _ _ (λ b. f.brace (ap W z ∙ b))) (rw (i, z) done)))
      operand-reads d {at = at} {to = to} (an-element {e = e} {n = n} i o b k c z) l w f =
          if-false (eqb (W at) open_paren) _ _ (rw o) (if-true (eqb (W at) NAME) _ _ (eq-eqb _ _ o) (if-true (eqb (W (at + 1)) open_brace) _ _ (eq-eqb _ _ b) (
          bind-got (expr_in W d (at + 2)) _ (e, n) (let g = brace-ends c in whole-done d l (disjunction-left (d - 1) k (second-of l) (omega arith) (ends-lower 4 5 _ (omega arith) g)) (omega arith) g) (
          expect-on W close_brace n (n + 1) _ refl c (rw (i, z) done)))))
      operand-reads d {at = at} {to = to} (in-parentheses {e = e} {n = n} i o k c z) l w f =
          if-true (eqb (W at) open_paren) _ _ (eq-eqb _ _ o) (
          bind-got (expr_in W d (at + 1)) _ (e, n) (let g = paren-ends c in whole-done d l (disjunction-left (d - 1) k (second-of l) (omega arith) (ends-lower 4 5 _ (omega arith) g)) (omega arith) g) (
          expect-on W close_paren n (n + 1) _ refl c (rw (i, z) done)))

    -- what the grammar derives, within the limits if D is nothing
    pub derived-reads : (d at : ℕ) (e : Expr) (to : ℕ) → DisjunctionAt W e at to → D ⊎ ((0 < d) × NestsTo e (d - 1)) → to ≤ top → Ends disjunctions (W to) → Comes D T (expr_in W d at) (got (e, to))
    derived-reads d at e to h l w f = whole-done d l (disjunction-left (d - 1) h (second-of l) w (ends-lower 4 5 _ (omega arith) f)) w f
