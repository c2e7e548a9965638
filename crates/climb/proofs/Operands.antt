-- Operands and nesting.
use mathlib.Core.Path.{◌≡◌, refl, sym, ap, subst, ◌∙◌}
use mathlib.Core.Bool.{Bool, true, false, ◌||◌}
use mathlib.Core.Logic.{◌⊎◌, inl, inr}
use Prim.Native.Nat.{ℕ, zero, suc, ◌+◌, ◌-◌, ◌<◌, ◌≤◌}
use native.Mathlib.Omega.{arith}
use lib.Dec.{T, eqb}
use borrow.Author.Tests.{eqb-true, eqb-false, eq-eqb, ne_eqb}
use Rattle.laws.proofs.Tests.{test}
use Rattle.paper.specs.Trees.{Expr, leaf, element, nested, signed, joined}
use Rattle.paper.specs.Sorts.{NAME, NUMBER, NOT, TRUE, FALSE, plus, minus_sign, open_paren, close_paren, open_brace, close_brace}
use Rattle.paper.specs.Expressions.{Parsed, got, no, ◌>>=◌, parts, chain, prefixed, level, level_of, stands_before, is_literal, expect, in_parentheses, indexed, named, operand, expr_in}
use Rattle.climb.specs.Rise.{chained, rise, next}
use Rattle.climb.proofs.Climb.{got-no, IsGot, Went, went, after, chain-on, chain-stop, from-got, rise-got}

-- what stands in parentheses or braces
pub record Inside (W : ℕ → ℕ) (inner : ℕ → Parsed (Expr × ℕ)) (at closing : ℕ) (g : Expr → Expr) (x : Expr × ℕ) : Type 0 where
  pub e : Expr
  pub n : ℕ
  pub is : inner at ≡ got (e, n)
  pub closed : W n ≡ closing
  pub whole : x ≡ (g e, n + 1)

pub got_same : {A : Type 0} (a b : A) → got a ≡ got b → a ≡ b
got_same a b e = cc

module _ (W : ℕ → ℕ) (inner : ℕ → Parsed (Expr × ℕ)) where
  inside : (at closing : ℕ) (g : Expr → Expr) (x : Expr × ℕ) → (inner at >>= (λ y. expect W closing y.1 >>= (λ m. got (g y.0, m)))) ≡ got x → Inside W inner at closing g x
  unfolding ◌>>=◌ expect
  inside at closing g x h =
      let v = went (inner at) (λ y. expect W closing y.1 >>= (λ m. got (g y.0, m))) x h in
      test (eqb (W v.a.1) closing)
      (λ t. record {
        e = v.a.0;
        n = v.a.1;
        is = v.first;
        closed = eqb-true (W v.a.1) closing t;
        whole = sym (got_same (g v.a.0, v.a.1 + 1) x (rw (t, expect) at v.then));
      })
      (λ t. got-no 8 v.a.1 x (rw (t, expect) at v.then))

  pub op-paren : (at : ℕ) (x : Expr × ℕ) → W at ≡ open_paren → operand W inner at ≡ got x → Inside W inner (at + 1) close_paren (nested at) x
  unfolding operand in_parentheses
  op-paren at x s h = inside (at + 1) close_paren (nested at) x (rw (s, operand) at h)

  pub op-element : (at : ℕ) (x : Expr × ℕ) → W at ≡ NAME → W (at + 1) ≡ open_brace → operand W inner at ≡ got x → Inside W inner (at + 2) close_brace (element at) x
  unfolding operand named indexed
  op-element at x s b h = inside (at + 2) close_brace (element at) x (rw (s, b, operand) at h)

  pub op-name : (at : ℕ) → W at ≡ NAME → (W (at + 1) ≡ open_brace → ⊥) → operand W inner at ≡ got (leaf at, at + 1)
  unfolding operand named
  op-name at s b = rw (s, operand) (rw (ne_eqb (W (at + 1)) open_brace b, named))

  pub op-literal : (at : ℕ) → is_literal (W at) ≡ true → operand W inner at ≡ got (leaf at, at + 1)
  unfolding operand is_literal
  op-literal at l =
      test (eqb (W at) 2) (λ t. rw (eqb-true (W at) 2 t, operand))
      (λ t. test (eqb (W at) 81) (λ u. rw (eqb-true (W at) 81 u, operand))
      (λ u. test (eqb (W at) 54) (λ v. rw (eqb-true (W at) 54 v, operand)) (λ v. absurd (subst T (sym (rw (t, u, v, is_literal) at l)) tt))))

  pub op-none : {B : Type 0} (at : ℕ) (x : Expr × ℕ) → (W at ≡ open_paren → ⊥) → (W at ≡ NAME → ⊥) → is_literal (W at) ≡ false → operand W inner at ≡ got x → B
  unfolding operand
  op-none at x a b l h = got-no 8 at x (rw (l) at (rw (ne_eqb (W at) 1 b) at (rw (ne_eqb (W at) 6 a, operand) at h)))

module _ (W : ℕ → ℕ) where
  -- what is left of the nesting
  pub record Deeper (d at : ℕ) (x : Expr × ℕ) : Type 0 where
    pub some : 0 < d
    pub is : level W (expr_in W (d - 1)) 5 at ≡ got x

  pub deeper : (d at : ℕ) (x : Expr × ℕ) → expr_in W d at ≡ got x → Deeper d at x
  unfolding expr_in
  deeper zero at x h = got-no 9 (at - 1) x h
  deeper (suc d) at x h = let z : suc d - 1 ≡ d = omega arith in record { some = omega arith; is = rw z h }
