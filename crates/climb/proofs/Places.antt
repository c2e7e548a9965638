-- What is read stands from where the reading begins up to where it ends.
use mathlib.Core.Path.{◌≡◌, refl, sym, ap, subst, ◌∙◌}
use mathlib.Core.Bool.{Bool, true, false}
use Prim.Native.Nat.{ℕ, zero, suc, ◌+◌, ◌-◌, ◌<◌, ◌≤◌}
use native.Mathlib.Omega.{arith}
use lib.Dec.{eqb}
use borrow.Author.Tests.{eqb-true, eqb-false}
use Rattle.laws.proofs.Tests.{test}
use Rattle.paper.specs.Trees.{Expr, leaf, element, nested, signed, joined, first}
use Rattle.paper.specs.Sorts.{NAME, open_paren, open_brace, NOT, plus, minus_sign}
use Rattle.paper.specs.Expressions.{Parsed, got, no, ◌>>=◌, parts, relations, disjunctions, chain, prefixed, level, level_of, stands_before, is_literal, operand, expr_in}
use Rattle.climb.specs.Rise.{chained, rise, behind, begin}
use Rattle.climb.specs.Places.{Spans}
use Rattle.climb.proofs.Climb.{got-no, went, after, chain-on, chain-stop, from-got, rise-got}
use Rattle.climb.proofs.Operands.{got_same, op-paren, op-element, op-name, op-literal, op-none}

-- ---- trees
pub spans-grow : (e : Expr) (a b : ℕ) → Spans e a b → a < b
unfolding Spans
spans-grow (leaf i) a b s = omega (arith, s.1)
spans-grow (element i e) a b s = omega (arith, spans-grow e (a + 2) (b - 1) s.1)
spans-grow (nested i e) a b s = omega (arith, spans-grow e (a + 1) (b - 1) s.1)
spans-grow (signed i e) a b s = omega (arith, spans-grow e (a + 1) b s.1)
spans-grow (joined i l r) a b s = omega (arith, spans-grow l a i s.0, spans-grow r (i + 1) b s.1)

pub spans-first : (e : Expr) (a b : ℕ) → Spans e a b → first e ≡ a
unfolding Spans first
spans-first (leaf i) a b s = s.0
spans-first (element i e) a b s = s.0
spans-first (nested i e) a b s = s.0
spans-first (signed i e) a b s = s.0
spans-first (joined i l r) a b s = spans-first l a i s.0

-- what is read, with its word after it
abbrev pub Stretch : ℕ → Expr × ℕ → Type 0
Stretch at x = Spans x.0 at x.1

-- what is read from i on, behind a tree that begins at `at`
pub record Grown (at i : ℕ) (x : Expr × ℕ) : Type 0 where
  pub spans : Stretch at x
  pub on : i ≤ x.1

-- ---- readings
module _ (W : ℕ → ℕ) where
  module _ (k : ℕ) (sub : ℕ → Parsed (Expr × ℕ)) (on : (at : ℕ) (x : Expr × ℕ) → sub at ≡ got x → Stretch at x) where
    chain-spans : (p : ℕ) (e : Expr) (at i : ℕ) (x : Expr × ℕ) → Spans e at i → chain W p k sub e i ≡ got x → Grown at i x
    unfolding chain after Spans
    chain-spans zero e at i x s h = got-no 8 i x h
    chain-spans (suc p) e at i x s h =
        test (eqb (level_of (W i)) k)
        (λ t. let g = went (sub (i + 1)) (after W k sub p e i) x (sym (chain-on W k sub p e i (eqb-true (level_of (W i)) k t)) ∙ h) in
        let r = on (i + 1) g.a g.first in
        let m = spans-grow g.a.0 (i + 1) g.a.1 r in
        test (eqb k relations)
        (λ u. subst (Grown at i) (got_same (joined i e g.a.0, g.a.1) x (rw (u, after) at g.then)) (record { spans = (s, r); on = omega arith }))
        (λ u. let b = chain-spans p (joined i e g.a.0) at g.a.1 x (s, r) (rw (u, after) at g.then) in record { spans = b.spans; on = omega (arith, b.on) }))
        (λ t. subst (Grown at i) (got_same (e, i) x (sym (chain-stop W k sub p e i (eqb-false (level_of (W i)) k t)) ∙ h)) (record { spans = s; on = omega arith }))

    prefixed-spans : (at : ℕ) (x : Expr × ℕ) → prefixed W k sub at ≡ got x → Stretch at x
    unfolding prefixed Spans
    prefixed-spans at x h =
        test (stands_before k (W at))
        (λ t. let g = went (sub (at + 1)) (λ y. got (signed at y.0, y.1)) x (rw (t, prefixed) at h) in
        subst (Stretch at) (got_same (signed at g.a.0, g.a.1) x g.then) (refl, on (at + 1) g.a g.first))
        (λ t. on at x (rw (t, prefixed) at h))

  module _ (inner : ℕ → Parsed (Expr × ℕ)) (on : (at : ℕ) (x : Expr × ℕ) → inner at ≡ got x → Stretch at x) where
    -- the last word of what is closed
    closed_at : (e : Expr) (a n : ℕ) → Spans e a n → Spans e a (n + 1 - 1)
    closed_at e a n s = let z : n + 1 - 1 ≡ n = omega arith in rw z s

    operand-spans : (at : ℕ) (x : Expr × ℕ) → operand W inner at ≡ got x → Stretch at x
    unfolding Spans
    operand-spans at x h =
        test (eqb (W at) open_paren)
        (λ t. let g = op-paren W inner at x (eqb-true (W at) open_paren t) h in
        subst (Stretch at) (sym g.whole) (refl, closed_at g.e (at + 1) g.n (on (at + 1) (g.e, g.n) g.is)))
        (λ t. test (eqb (W at) NAME)
        (λ u. let n = eqb-true (W at) NAME u in test (eqb (W (at + 1)) open_brace)
        (λ v. let g = op-element W inner at x n (eqb-true (W (at + 1)) open_brace v) h in
        subst (Stretch at) (sym g.whole) (refl, closed_at g.e (at + 2) g.n (on (at + 2) (g.e, g.n) g.is)))
        (λ v. subst (Stretch at) (got_same (leaf at, at + 1) x (sym (op-name W inner at n (eqb-false (W (at + 1)) open_brace v)) ∙ h)) (refl, refl)))
        (λ u. test (is_literal (W at))
        (λ v. subst (Stretch at) (got_same (leaf at, at + 1) x (sym (op-literal W inner at v) ∙ h)) (refl, refl))
        (λ v. op-none W inner at x (eqb-false (W at) open_paren t) (eqb-false (W at) NAME u) v h)))

    level-spans : (j at : ℕ) (x : Expr × ℕ) → level W inner j at ≡ got x → Stretch at x
    unfolding level
    level-spans zero at x h = operand-spans at x h
    level-spans (suc j) at x h =
        let g = went (prefixed W (suc j) (level W inner j) at) (λ y. chain W parts (suc j) (level W inner j) y.0 y.1) x h in
        let p = prefixed-spans (suc j) (level W inner j) (level-spans j) at g.a g.first in
        (chain-spans (suc j) (level W inner j) (level-spans j) parts g.a.0 at g.a.1 x p g.then).spans

    rise-spans : (f k : ℕ) (e : Expr) (at n : ℕ) (x : Expr × ℕ) → Spans e at n → rise W inner f k (got (e, n)) ≡ got x → Grown at n x
    unfolding rise
    rise-spans zero k e at n x s h = subst (Grown at n) (got_same (e, n) x h) (record { spans = s; on = omega arith })
    rise-spans (suc f) k e at n x s h =
        let g = rise-got W inner f (suc k) (chained W inner k (got (e, n))) x h in
        let a = chain-spans k (level W inner (k - 1)) (level-spans (k - 1)) parts e at n g.a s (sym (from-got W inner k e n) ∙ g.is) in
        let b = rise-spans f (suc k) g.a.0 at g.a.1 x a.spans (ap (rise W inner f (suc k)) (sym g.is) ∙ h) in
        record { spans = b.spans; on = omega (arith, a.on, b.on) }

    behind-spans : (k at : ℕ) (x : Expr × ℕ) → behind W inner k at ≡ got x → Stretch at x
    unfolding behind Spans
    behind-spans k at x h =
        let g = went (level W inner k (at + 1)) (λ y. got (signed at y.0, y.1)) x h in
        subst (Stretch at) (got_same (signed at g.a.0, g.a.1) x g.then) (refl, level-spans k (at + 1) g.a g.first)

    begin-spans : (at : ℕ) (x : Expr × ℕ) → begin W inner at ≡ got x → Stretch at x
    unfolding begin
    begin-spans at x h =
        test (eqb (W at) NOT) (λ t. behind-spans 4 at x (rw (t, begin) at h))
        (λ t. test (eqb (W at) plus) (λ u. behind-spans 1 at x (rw u at (rw (t, begin) at h)))
        (λ u. test (eqb (W at) minus_sign) (λ v. behind-spans 1 at x (rw v at (rw u at (rw (t, begin) at h))))
        (λ v. operand-spans at x (rw v at (rw u at (rw (t, begin) at h))))))

  nest-spans : (d at : ℕ) (x : Expr × ℕ) → expr_in W d at ≡ got x → Stretch at x
  unfolding expr_in
  nest-spans zero at x h = got-no 9 (at - 1) x h
  nest-spans (suc d) at x h = level-spans (expr_in W d) (nest-spans d) disjunctions at x h

  -- ---- whatever the nesting
  module _ (d : ℕ) where
    pub stands : (j at : ℕ) (x : Expr × ℕ) → level W (expr_in W d) j at ≡ got x → Stretch at x
    stands j at x h = level-spans (expr_in W d) (nest-spans d) j at x h

    pub begins : (at : ℕ) (x : Expr × ℕ) → begin W (expr_in W d) at ≡ got x → Stretch at x
    begins at x h = begin-spans (expr_in W d) (nest-spans d) at x h

    pub rises : (f k : ℕ) (e : Expr) (at n : ℕ) (x : Expr × ℕ) → Spans e at n → rise W (expr_in W d) f k (got (e, n)) ≡ got x → Grown at n x
    rises f k e at n x s h = rise-spans (expr_in W d) (nest-spans d) f k e at n x s h

-- ---- what every joining keeps, rising keeps
module _ (W : ℕ → ℕ) (P : Expr → Type 0) (keeps : (i : ℕ) (a b : Expr) → P a → P (joined i a b)) where
  chain-keeps : (k : ℕ) (sub : ℕ → Parsed (Expr × ℕ)) (p : ℕ) (e : Expr) (i : ℕ) (x : Expr × ℕ) → P e → chain W p k sub e i ≡ got x → P x.0
  unfolding chain after
  chain-keeps k sub zero e i x v h = got-no 8 i x h
  chain-keeps k sub (suc p) e i x v h =
      test (eqb (level_of (W i)) k)
      (λ t. let g = went (sub (i + 1)) (after W k sub p e i) x (sym (chain-on W k sub p e i (eqb-true (level_of (W i)) k t)) ∙ h) in
      let w = keeps i e g.a.0 v in
      test (eqb k relations)
      (λ u. subst (λ (y : Expr × ℕ). P y.0) (got_same (joined i e g.a.0, g.a.1) x (rw (u, after) at g.then)) w)
      (λ u. chain-keeps k sub p (joined i e g.a.0) g.a.1 x w (rw (u, after) at g.then)))
      (λ t. subst (λ (y : Expr × ℕ). P y.0) (got_same (e, i) x (sym (chain-stop W k sub p e i (eqb-false (level_of (W i)) k t)) ∙ h)) v)

  pub rise-keeps : (inner : ℕ → Parsed (Expr × ℕ)) (f k : ℕ) (e : Expr) (n : ℕ) (x : Expr × ℕ) → P e → rise W inner f k (got (e, n)) ≡ got x → P x.0
  unfolding rise
  rise-keeps inner zero k e n x v h = subst (λ (y : Expr × ℕ). P y.0) (got_same (e, n) x h) v
  rise-keeps inner (suc f) k e n x v h =
      let g = rise-got W inner f (suc k) (chained W inner k (got (e, n))) x h in
      rise-keeps inner f (suc k) g.a.0 g.a.1 x
      (chain-keeps k (level W inner (k - 1)) parts e n g.a v (sym (from-got W inner k e n) ∙ g.is))
      (ap (rise W inner f (suc k)) (sym g.is) ∙ h)
