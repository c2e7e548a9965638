-- The tables of operators.
use mathlib.Core.Path.{◌≡◌, refl, sym, ◌∙◌}
use mathlib.Core.Bool.{false, ◌||◌}
use mathlib.Core.Logic.{◌⊎◌, inl, inr}
use Prim.Native.Nat.{ℕ, ◌<◌, ◌≤◌}
use native.Mathlib.Omega.{arith}
use lib.Dec.{eqb}
use borrow.Author.Tests.{eqb-true, eqb-false, ne_eqb, eq-eqb, le-leb, lt-leb}
use Rattle.laws.proofs.Tests.{test, false-true}
use Rattle.paper.specs.Sorts.{NOT, AND, DIV, MOD, OR, XOR, plus, minus_sign, times, equal, less, less_equal, unequal, greater, greater_equal}
use Rattle.paper.specs.Expressions.{relations, conjunctions, level_of}
use Rattle.paper.specs.Names.{DataType, a_num, a_bool}
use Rattle.code.specs.Spans.{a_parenthesis, a_plus, operators, operator_of, prefix_in}
use Rattle.layout.specs.Types.{type_in}
use Rattle.layout.specs.declared.types.ValueType.{ValueType}
use Rattle.layout.specs.declared.types.ValueType.TheVariants.{Num, Bool}
use Rattle.check_expressions.specs.Parts.{asked_of, result_of, signed_of, Asks, Gives, Numbered, is_prefix, Prefixes, SignType}
use Rattle.check_expressions.proofs.FaultsOfParts.{level-equal}

module _ (s : ℕ) (a : s ≡ equal → ⊥) (b : s ≡ less → ⊥) (c : s ≡ less_equal → ⊥) (d : s ≡ unequal → ⊥) (e : s ≡ greater → ⊥) (f : s ≡ greater_equal → ⊥) (g : s ≡ plus → ⊥) (h : s ≡ minus_sign → ⊥) (i : s ≡ times → ⊥)
    (j : s ≡ AND → ⊥) (k : s ≡ DIV → ⊥) (l : s ≡ MOD → ⊥) (m : s ≡ OR → ⊥) where
  pub level-none : (s ≡ XOR → ⊥) → 0 ≡ level_of s
  unfolding level_of
  level-none n =
      simp (ne_eqb s equal a, ne_eqb s less b, ne_eqb s less_equal c, ne_eqb s unequal d, ne_eqb s greater e, ne_eqb s greater_equal f, ne_eqb s plus g, ne_eqb s minus_sign h, ne_eqb s times i, ne_eqb s AND j, ne_eqb s DIV k, ne_eqb s MOD l, ne_eqb s OR m, ne_eqb s XOR n, level_of)

  pub number-last : 0 < level_of s → Numbered s 11
  unfolding operator_of operators
  number-last o =
      test (eqb s XOR) (λ t. record { small = omega arith; is = sym (eqb-true s XOR t) }) (λ t. absurd (omega (arith, level-none (eqb-false s XOR t))))

pub number-here : (s k r : ℕ) → s ≡ k → r < 16 → operator_of r ≡ k → Numbered s r
number-here s k r e h o = record { small = h; is = o ∙ sym e }

-- ---- what an operator asks
-- where it asks for what it asks of every left side
asks-type : (s : ℕ) (left r : ValueType) (u : DataType) → type_in r ≡ u → ((t : DataType) → asked_of s t ≡ u) → Asks s left r
asks-type s left r u e f = record { is = λ t _. e ∙ sym (f t) }

module _ (s l : ℕ) (left : ValueType) (e : l ≡ level_of s) where
  no-equal : (l ≡ relations → ⊥) → (eqb s equal || eqb s unequal) ≡ false
  no-equal d = test (eqb s equal || eqb s unequal) (λ t. absurd (d (e ∙ level-equal s t))) (λ t. t)

  pub asks-truths : relations < l → Asks s left Bool
  unfolding asked_of
  asks-truths h = asks-type s left Bool a_bool refl (λ t. rw (no-equal (λ q. omega arith), asked_of) (rw (le-leb conjunctions (level_of s) (omega arith))))

  pub asks-same : (s ≡ equal) ⊎ (s ≡ unequal) → Asks s left left
  unfolding asked_of
  asks-same (inl h) = record { is = λ t g. g ∙ sym (rw (eq-eqb s equal h, asked_of) refl) }
  asks-same (inr h) = record { is = λ t g. g ∙ sym (rw (h, asked_of) refl) }

  pub asks-numbers : l ≤ relations → (s ≡ equal → ⊥) → (s ≡ unequal → ⊥) → Asks s left Num
  unfolding asked_of
  asks-numbers h a b =
      asks-type s left Num a_num refl (λ t. rw (ne_eqb s equal a, ne_eqb s unequal b, asked_of) (rw (lt-leb conjunctions (level_of s) (omega arith))))

-- ---- what it gives
pub gives-number : (l : ℕ) → l < relations → Gives l Num
unfolding result_of
gives-number l h = record { is = λ s e. sym (rw (lt-leb relations (level_of s) (omega arith), result_of) refl) }

pub gives-truth : (l : ℕ) → relations ≤ l → Gives l Bool
unfolding result_of
gives-truth l h = record { is = λ s e. sym (rw (le-leb relations (level_of s) (omega arith), result_of) refl) }

-- ---- what stands before
pub prefix_here : (s k r : ℕ) → s ≡ k → a_parenthesis < r → r < 128 → prefix_in r ≡ k → Prefixes s r
prefix_here s k r e g h p = record { small = h; op = g; is = λ _. p ∙ sym e }

pub prefix-plus : (s : ℕ) → (s ≡ NOT → ⊥) → (s ≡ minus_sign → ⊥) → Prefixes s a_plus
unfolding is_prefix prefix_in
prefix-plus s a b = record {
  small = omega arith;
  op = omega arith;
  is = λ h. test (eqb s plus) (λ t. sym (eqb-true s plus t)) (λ t. false-true (rw (ne_eqb s NOT a, t, ne_eqb s minus_sign b, is_prefix) at h));
}

pub sign-not : (s : ℕ) → s ≡ NOT → SignType s Bool
unfolding signed_of
sign-not s e = record { is = sym (rw (e, signed_of) refl) }

pub sign-other : (s : ℕ) → (s ≡ NOT → ⊥) → SignType s Num
unfolding signed_of
sign-other s d = record { is = sym (rw (ne_eqb s NOT d, signed_of) refl) }
