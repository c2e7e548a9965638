-- The lesson on NOT and a leading sign.
use mathlib.Core.Path.{◌≡◌, refl, sym, ap, ◌∙◌}
use mathlib.Core.Bool.{true, false, ◌||◌}
use mathlib.Core.List.{List, [], ◌∷◌}
use Prim.Native.Nat.{ℕ, suc, ◌+◌}
use native.Mathlib.Omega.{arith}
use lib.Dec.{eqb, leb}
use borrow.Author.Tests.{eq-eqb, ne_eqb}
use Rattle.paper.specs.Sorts.{NOT, AND, equal, unequal}
use Rattle.paper.specs.Words.{Word}
use Rattle.paper.specs.Trees.{Expr, nested, signed, joined}
use Rattle.paper.specs.Expressions.{Parser, got, ◌>>=◌, parts, products, relations, conjunctions, disjunctions, level_of, stands_before, chain, prefixed, level}
use Rattle.paper.specs.Terms.{Term, unary, binary}
use Rattle.paper.specs.Names.{DataType, Scopes, sort_in}
use Rattle.paper.specs.Types.{Fault, Judged, judged, judge, judge_signed, judge_joined, term_of}
use Rattle.raised.proofs.Choices.{chosen}
use Rattle.demands.specs.Demands.{ExpressionLesson}

module _ (W : ℕ → ℕ) (inner : Parser Expr) where
  -- A word that stands before a level covers what the level below reads; then the level's own chain goes on.
  covers : (j at : ℕ) (e : Expr) (n : ℕ) → stands_before (suc j) (W at) ≡ true → level W inner j (at + 1) ≡ got (e, n)
      → level W inner (suc j) at ≡ chain W parts (suc j) (level W inner j) (signed at e) n
  unfolding level prefixed ◌>>=◌
  covers j at e n s h = rw (s, prefixed) (rw h)

  -- Where no such word stands, the level's chain begins with what the level below reads.
  begins : (j at : ℕ) (e : Expr) (n : ℕ) → stands_before (suc j) (W at) ≡ false → level W inner j at ≡ got (e, n)
      → level W inner (suc j) at ≡ chain W parts (suc j) (level W inner j) e n
  unfolding level prefixed ◌>>=◌
  begins j at e n s h = rw (s, prefixed) (rw h)

  -- A chain goes on with an operator of its level, and ends before any other word.
  joins : (p j : ℕ) (sub : Parser Expr) (e u : Expr) (i n : ℕ) → level_of (W i) ≡ j → sub (i + 1) ≡ got (u, n) → ¬ (j ≡ relations)
      → chain W (suc p) j sub e i ≡ chain W p j sub (joined i e u) n
  unfolding chain ◌>>=◌
  joins p j sub e u i n l h r = rw (eq-eqb (level_of (W i)) j l, chain) (rw h (rw (ne_eqb j relations r)))

  ends : (p j : ℕ) (sub : Parser Expr) (e : Expr) (n : ℕ) → ¬ (level_of (W n) ≡ j) → chain W (suc p) j sub e n ≡ got (e, n)
  unfolding chain
  ends p j sub e n l = rw (ne_eqb (level_of (W n)) j l, chain)

  not-stands : (at : ℕ) → W at ≡ NOT → stands_before disjunctions (W at) ≡ true
  unfolding stands_before
  not-stands at e = rw e

  and-level : (i : ℕ) → W i ≡ AND → level_of (W i) ≡ conjunctions
  unfolding level_of
  and-level i e = rw e

  not-and : (at : ℕ) (a b : Expr) (i n : ℕ) → W at ≡ NOT → level W inner relations (at + 1) ≡ got (a, i) → W i ≡ AND → level W inner relations (i + 1) ≡ got (b, n)
      → ¬ (level_of (W n) ≡ conjunctions) → ¬ (level_of (W n) ≡ disjunctions) → level W inner disjunctions at ≡ got (signed at (joined i a b), n)
  unfolding stands_before
  not-and at a b i n t ha o hb c d =
      let sub = level W inner relations in
      let both : level W inner conjunctions (at + 1) ≡ got (joined i a b, n) =
      begins relations (at + 1) a i refl ha
      ∙ joins 8192 conjunctions sub a b i n (and-level i o) hb (λ e. omega arith)
      ∙ ends 8191 conjunctions sub (joined i a b) n c in
      covers conjunctions at (joined i a b) n (not-stands at t) both ∙ ends 8192 disjunctions (level W inner conjunctions) (signed at (joined i a b)) n d

-- ---- what it means
-- The term of a piece is the same whether or not there are faults in it.
judged-term : (t : DataType) (fs : List Fault) (x : Term) → (judged t fs x).term ≡ x
unfolding judged
judged-term t [] x = refl
judged-term t (f ∷ fs) x = refl

signed-term : (op : ℕ) (e : Expr) (j : Judged) → (judge_signed op e j).term ≡ unary op j.term
unfolding judge_signed
signed-term op e j = chosen (λ (x : Judged). x.term ≡ unary op j.term) (eqb op NOT) _ _ (judged-term _ _ _) (judged-term _ _ _)

joined-term : (op : ℕ) (a b : Expr) (j k : Judged) → (judge_joined op a b j k).term ≡ binary op j.term k.term
unfolding judge_joined
joined-term op a b j k =
    let x = binary op j.term k.term in
    let Q : Judged → Type 0 = λ y. y.term ≡ x in
    chosen Q (eqb op equal || eqb op unequal) _ _ (judged-term _ _ x)
    (chosen Q (leb conjunctions (level_of op)) _ _ (judged-term _ _ x)
    (chosen Q (eqb (level_of op) relations) _ _ (judged-term _ _ x) (judged-term _ _ x)))

not-means : (W : List Word) (S : Scopes) (i j : ℕ) (a b : Expr) → sort_in W i ≡ NOT → sort_in W j ≡ AND
    → term_of W S (signed i (joined j a b)) ≡ unary NOT (binary AND (term_of W S a) (term_of W S b))
unfolding term_of judge
not-means W S i j a b p q =
    signed-term (sort_in W i) (joined j a b) (judge W false S (joined j a b))
    ∙ ap (unary (sort_in W i)) (joined-term (sort_in W j) a b (judge W false S a) (judge W false S b))
    ∙ rw (p, q)

in-parentheses : (W : List Word) (S : Scopes) (i j k : ℕ) (a b : Expr) → term_of W S (signed i (nested k (joined j a b))) ≡ term_of W S (signed i (joined j a b))
unfolding term_of judge
in-parentheses W S i j k a b =
    signed-term (sort_in W i) (nested k (joined j a b)) (judge W false S (joined j a b)) ∙ sym (signed-term (sort_in W i) (joined j a b) (judge W false S (joined j a b)))

pub expression-lesson : ExpressionLesson
unfolding ExpressionLesson
expression-lesson = (
  λ W inner at. record {
    not-covers = λ e n t h. covers W inner conjunctions at e n (not-stands W inner at t) h;
    not-and = not-and W inner at;
    sign-covers = λ e n t h. covers W inner products at e n t h;
  },
  λ W S i j a b. record { means = not-means W S i j a b; in-parentheses = λ k. in-parentheses W S i j k a b },
)
