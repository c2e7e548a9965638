-- What is left of an expression after its first operand: chains of ever looser operators.
use Rattle.std.specs.Prelude.{Bool, true, false, ℕ, zero, suc, ◌+◌, ◌-◌, eqb}
use Rattle.paper.specs.Sorts.{NOT, plus, minus_sign}
use Rattle.paper.specs.Trees.{Expr, signed}
use Rattle.paper.specs.Expressions.{Parsed, got, no, ◌>>=◌, parts, no_operator, products, sums, relations, conjunctions, disjunctions, chain, level, operand}

module _ (W : ℕ → ℕ) (inner : ℕ → Parsed (Expr × ℕ)) where
  -- the chain of level k after what is read
  unfoldable pub chained : (k : ℕ) → Parsed (Expr × ℕ) → Parsed (Expr × ℕ)
  chained k r = r >>= (λ x. chain W parts k (level W inner (k - 1)) x.0 x.1)

  -- the chains of f levels from k on
  unfoldable pub rise : (f k : ℕ) → Parsed (Expr × ℕ) → Parsed (Expr × ℕ)
  rise zero k r = r
  rise (suc f) k r = rise f (suc k) (chained k r)

-- The lowest level that may go on after an operator of level k: "one relation at most".
unfoldable pub next : ℕ → ℕ
next k = elim (eqb k relations) [ true ↦ conjunctions | false ↦ k ]

-- The level that a sign or NOT needs; 0 of any other word.
unfoldable pub height : (sort : ℕ) → ℕ
height s =
    elim (eqb s NOT) [ true ↦ disjunctions | false ↦ elim (eqb s plus) [ true ↦ sums | false ↦ elim (eqb s minus_sign) [ true ↦ sums | false ↦ no_operator ] ] ]

-- The lowest level that may go on after the first part.
unfoldable pub lowest : (sort : ℕ) → ℕ
lowest s =
    elim (eqb s NOT) [ true ↦ disjunctions | false ↦ elim (eqb s plus) [ true ↦ sums | false ↦ elim (eqb s minus_sign) [ true ↦ sums | false ↦ products ] ] ]

module _ (W : ℕ → ℕ) (inner : ℕ → Parsed (Expr × ℕ)) where
  unfoldable pub behind : (k at : ℕ) → Parsed (Expr × ℕ)
  behind k at = level W inner k (at + 1) >>= (λ y. got (signed at y.0, y.1))

  -- The first part: an operand, or a sign or NOT with what it covers.
  unfoldable pub begin : ℕ → Parsed (Expr × ℕ)
  begin at =
      elim (eqb (W at) NOT) [
        | true ↦ behind conjunctions at
        | false ↦ elim (eqb (W at) plus) [
          | true ↦ behind products at
          | false ↦
              elim (eqb (W at) minus_sign) [ true ↦ behind products at | false ↦ operand W inner at ]
        ]
      ]
