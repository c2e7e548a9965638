-- What the parser reads as an expression is derived, within the limits.
use mathlib.Core.Path.{◌≡◌, refl}
use mathlib.Core.Bool.{true}
use mathlib.Core.Logic.{◌⊎◌, inl, inr}
use Prim.Native.Nat.{ℕ, zero, suc, ◌+◌, ◌-◌, ◌<◌}
use native.Mathlib.Omega.{arith}
use lib.Dec.{eqb}
use borrow.Author.Tests.{eqb-true}
use Rattle.laws.proofs.Tests.{false-true}
use Rattle.paper.specs.Sorts.{NAME, plus, minus_sign, open_paren, close_paren, open_brace, close_brace}
use Rattle.paper.specs.Trees.{Expr, signed, joined}
use Rattle.paper.specs.Expressions.{Parsed, Parser, parts, products, sums, relations, conjunctions, disjunctions, level_of, stands_before, is_literal, in_parentheses, indexed, named, operand, chain, prefixed, level, expr_in}
use Rattle.grammar.specs.Form.{Parses}
use Rattle.grammar.specs.Grammar.{DisjunctionAt, a-conjunction, negated, or-xor, ConjunctionAt, a-relation, and, RelationAt, a_sum, compared, SumAt, a-product, with-sign, plus-minus, ProductAt}
use Rattle.grammar.specs.Grammar.{an-operand, times-div-mod, OperandAt, a-literal, a-name, an-element, in-parentheses, NestsTo, Derives}
use Rattle.grammar.proofs.Steps.{either_true}
use Rattle.grammar.proofs.Reading.{Gives, gives-got, weaker, then-gives, chosen-gives, forked-gives, expect-then}

module _ (W : ℕ → ℕ) where
  -- what is read from `at` on stands so
  abbrev Reads : (Expr → (at to : ℕ) → Type 0) → (at : ℕ) → Parsed (Expr × ℕ) → Type 0
  Reads F at p = Gives (λ x. F x.0 at x.1) p

  -- ---- one level: `Whole` is made of `Part`
  module _ (inner : Parser Expr) (j : ℕ) (Part Whole : Expr → (at to : ℕ) → Type 0) (parts-read : (at : ℕ) → Reads Part at (level W inner j at)) where
    chain-reads : ((a b : Expr) (at n to : ℕ) → Whole a at n → level_of (W n) ≡ suc j → Part b (n + 1) to → Whole (joined n a b) at to)
        → (p : ℕ) (e : Expr) (at n : ℕ) → Whole e at n → Reads Whole at (chain W p (suc j) (level W inner j) e n)
    unfolding chain
    chain-reads joins zero e at n h = tt
    chain-reads joins (suc p) e at n h =
        forked-gives (λ x. Whole x.0 at x.1) (eqb (level_of (W n)) (suc j)) _ _
        (λ t. then-gives (λ x. Part x.0 (n + 1) x.1) _ _ _ (parts-read (n + 1)) (λ u k.
        let q = joins e u.0 at n u.1 h (eqb-true _ _ t) k in
        forked-gives (λ x. Whole x.0 at x.1) (eqb (suc j) relations) _ _ (λ _. q) (λ _. chain-reads joins p (joined n e u.0) at u.1 q)))
        (λ t. h)

    prefixed-reads : ((e : Expr) (at to : ℕ) → Part e at to → Whole e at to) → ((e : Expr) (at to : ℕ) → stands_before (suc j) (W at) ≡ true → Part e (at + 1) to → Whole (signed at e) at to)
        → (at : ℕ) → Reads Whole at (prefixed W (suc j) (level W inner j) at)
    unfolding prefixed
    prefixed-reads alone covers at =
        forked-gives (λ x. Whole x.0 at x.1) (stands_before (suc j) (W at)) _ _
        (λ t. then-gives (λ x. Part x.0 (at + 1) x.1) _ _ _ (parts-read (at + 1)) (λ u k. covers u.0 at u.1 t k))
        (λ t. weaker (λ x. Part x.0 at x.1) _ (level W inner j at) (λ x k. alone x.0 at x.1 k) (parts-read at))

    level-reads : ((e : Expr) (at to : ℕ) → Part e at to → Whole e at to) → ((e : Expr) (at to : ℕ) → stands_before (suc j) (W at) ≡ true → Part e (at + 1) to → Whole (signed at e) at to)
        → ((a b : Expr) (at n to : ℕ) → Whole a at n → level_of (W n) ≡ suc j → Part b (n + 1) to → Whole (joined n a b) at to) → (at : ℕ) → Reads Whole at (level W inner (suc j) at)
    unfolding level
    level-reads alone covers joins at = then-gives (λ x. Whole x.0 at x.1) _ _ _ (prefixed-reads alone covers at) (λ u k. chain-reads joins parts u.0 at u.1 k)

  -- ---- with what nests inside
  module _ (d : ℕ) where
    abbrev In : (Expr → (at to : ℕ) → Type 0) → Expr → (at to : ℕ) → Type 0
    In F e at to = F e at to × NestsTo e d

    module _ (inner : Parser Expr) (inside : (at : ℕ) → Gives (λ x. DisjunctionAt W x.0 at x.1 × (0 < d) × NestsTo x.0 (d - 1)) (inner at)) where
      operand_read : (at : ℕ) → Reads (In (OperandAt W)) at (level W inner 0 at)
      unfolding level operand in_parentheses indexed named NestsTo
      operand_read at =
          chosen-gives _ (eqb (W at) open_paren) _ _
          (λ t. then-gives (λ x. DisjunctionAt W x.0 (at + 1) x.1 × (0 < d) × NestsTo x.0 (d - 1)) _ _ _ (inside (at + 1)) (λ u k.
          expect-then W _ close_paren u.1 (u.1 + 1) _ refl (λ c. (in-parentheses refl (eqb-true _ _ t) k.0 c refl, (k.1, k.2)))))
          (λ _. chosen-gives _ (eqb (W at) NAME) _ _
          (λ t. chosen-gives _ (eqb (W (at + 1)) open_brace) _ _
          (λ b. then-gives (λ x. DisjunctionAt W x.0 (at + 2) x.1 × (0 < d) × NestsTo x.0 (d - 1)) _ _ _ (inside (at + 2)) (λ u k.
          expect-then W _ close_brace u.1 (u.1 + 1) _ refl (λ c. (an-element refl (eqb-true _ _ t) (eqb-true _ _ b) k.0 c refl, (k.1, k.2)))))
          (λ _. (a-name refl (eqb-true _ _ t) refl, tt)))
          (λ _. chosen-gives _ (is_literal (W at)) _ _ (λ t. (a-literal refl t refl, tt)) (λ _. tt)))

      product-read : (at : ℕ) → Reads (In (ProductAt W)) at (level W inner products at)
      unfolding NestsTo stands_before
      product-read = level-reads inner 0 (In (OperandAt W)) (In (ProductAt W)) operand_read (λ e at to k. (an-operand k.0, k.1)) (λ e at to t k. false-true t) (λ a b at n to h o k. (times-div-mod h.0 o k.0, (h.1, k.1)))

      sign-is : (s : ℕ) → stands_before sums s ≡ true → (s ≡ plus) ⊎ (s ≡ minus_sign)
      unfolding stands_before
      sign-is s t = either_true (eqb s plus) (eqb s minus_sign) t (λ q. inl (eqb-true _ _ q)) (λ q. inr (eqb-true _ _ q))

      sum-read : (at : ℕ) → Reads (In (SumAt W)) at (level W inner sums at)
      unfolding NestsTo
      sum-read =
          level-reads inner 1 (In (ProductAt W)) (In (SumAt W)) product-read (λ e at to k. (a-product k.0, k.1)) (λ e at to t k. (with-sign refl (sign-is (W at) t) k.0, k.1))
          (λ a b at n to h o k. (plus-minus h.0 o k.0, (h.1, k.1)))

      relation-chain : (p : ℕ) (e : Expr) (at n : ℕ) → In (SumAt W) e at n → Reads (In (RelationAt W)) at (chain W p relations (level W inner sums) e n)
      unfolding NestsTo chain
      relation-chain zero e at n h = tt
      relation-chain (suc p) e at n h =
          forked-gives (λ x. In (RelationAt W) x.0 at x.1) (eqb (level_of (W n)) relations) _ _
          (λ t. then-gives (λ x. In (SumAt W) x.0 (n + 1) x.1) _ _ _ (sum-read (n + 1)) (λ v q. (compared h.0 (eqb-true _ _ t) q.0, (h.1, q.1))))
          (λ t. (a_sum h.0, h.1))

      relation-read : (at : ℕ) → Reads (In (RelationAt W)) at (level W inner relations at)
      unfolding stands_before level
      relation-read at =
          then-gives (λ x. In (SumAt W) x.0 at x.1) _ _ _ (prefixed-reads inner 2 (In (SumAt W)) (In (SumAt W)) sum-read (λ e at to k. k) (λ e at to t k. false-true t) at) (λ u k. relation-chain parts u.0 at u.1 k)

      conjunction-read : (at : ℕ) → Reads (In (ConjunctionAt W)) at (level W inner conjunctions at)
      unfolding NestsTo stands_before
      conjunction-read = level-reads inner 3 (In (RelationAt W)) (In (ConjunctionAt W)) relation-read (λ e at to k. (a-relation k.0, k.1)) (λ e at to t k. false-true t) (λ a b at n to h o k. (and h.0 o k.0, (h.1, k.1)))

      disjunction-read : (at : ℕ) → Reads (In (DisjunctionAt W)) at (level W inner disjunctions at)
      unfolding NestsTo stands_before
      disjunction-read =
          level-reads inner 4 (In (ConjunctionAt W)) (In (DisjunctionAt W)) conjunction-read (λ e at to k. (a-conjunction k.0, k.1)) (λ e at to t k. (negated refl (eqb-true _ _ t) k.0, k.1))
          (λ a b at n to h o k. (or-xor h.0 o k.0, (h.1, k.1)))

  expression-read : (d at : ℕ) → Gives (λ x. DisjunctionAt W x.0 at x.1 × (0 < d) × NestsTo x.0 (d - 1)) (expr_in W d at)
  unfolding expr_in
  expression-read zero at = tt
  expression-read (suc d) at =
      let z : suc d - 1 ≡ d = omega arith in
      weaker (λ x. In d (DisjunctionAt W) x.0 at x.1) _ (level W (expr_in W d) disjunctions at) (λ x k. (k.0, omega arith, rw z k.1)) (disjunction-read d (expr_in W d) (expression-read d) at)

  pub parses-derives : (d at : ℕ) (e : Expr) (to : ℕ) → Parses W d at e to → Derives W d at e to
  parses-derives d at e to h =
      let k = gives-got (λ x. DisjunctionAt W x.0 at x.1 × (0 < d) × NestsTo x.0 (d - 1)) (expr_in W d at) (e, to) (expression-read d at) h in
      record { derived = k.0; deep = k.1; nests = k.2 }
