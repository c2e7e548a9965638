-- The faults of an expression lie in its words, and the one at the head of their list comes first.
use mathlib.Core.Path.{◌≡◌, refl, ap}
use mathlib.Core.Bool.{Bool, true, false, ◌||◌}
use mathlib.Core.List.{List, [], ◌∷◌, ◌++◌, append-nil}
use mathlib.Core.Option.{Option, none, some}
use Prim.Native.Nat.{ℕ, zero, suc, ◌+◌, ◌-◌, ◌≤◌, ◌<◌}
use native.Mathlib.Omega.{arith}
use lib.Dec.{eqb, leb}
use Rattle.laws.proofs.Tests.{test, apart}
use Rattle.paper.specs.Sorts.{NUMBER, TRUE, FALSE, NOT, equal, unequal}
use Rattle.paper.specs.Words.{Word}
use Rattle.paper.specs.Numbers.{Value}
use Rattle.paper.specs.Terms.{Ref, Term, Memory}
use Rattle.paper.specs.Trees.{Expr, leaf, element, nested, signed, joined, first}
use Rattle.paper.specs.Expressions.{level_of, relations, conjunctions, disjunctions, expr_in}
use Rattle.paper.specs.Names.{DataType, a_num, a_bool, refused_piece, Meaning, unknown, variable, array, constant, loop, the_routine, the_errno, error_number, array_in, wrong_name, Scopes, sort_in, spelled, meaning}
use Rattle.paper.specs.Types.{Fault, fault, fault_if, Judged, judged, judged_nothing, differs, wanted, judge_name, judge_element, judge_joined, judge_signed, judge_leaf, judge, faults_of, of_type, constant_worth, constant_faults}
use Rattle.climb.specs.Places.{Spans}
use Rattle.climb.proofs.Climb.{got-no}
use Rattle.climb.proofs.Places.{spans-grow, spans-first, stands}
use Rattle.grammar.specs.Form.{Parses}
use Rattle.faults.specs.First.{Inside, First, Headed, leads-others, Ordered}
use Rattle.faults.proofs.First.{◌and◌, inside-if, ranks, leads-same-if, headed-first, ordered-none, ordered-fault, ordered-if, ordered-wider, ordered-append}

-- ---- the words of what the parser reads
module _ (W : List Word) where
  pub spans : (d at : ℕ) (e : Expr) (to : ℕ) → Parses (sort_in W) d at e to → Spans e at to
  unfolding expr_in
  spans zero at e to h = got-no 9 (at - 1) (e, to) h
  spans (suc d) at e to h = stands (sort_in W) d disjunctions at (e, to) h

  pub grows : (d at : ℕ) (e : Expr) (to : ℕ) → Parses (sort_in W) d at e to → at < to
  grows d at e to h = spans-grow e at to (spans d at e to h)

-- ---- pieces
-- What is judged: its faults as a walk finds them, and any of them makes it a refused piece.
pub record Orderly (a b : ℕ) (j : Judged) : Type 0 where
  pub ordered : Ordered a b j.faults
  pub refused : (f : Fault) (r : List Fault) → j.faults ≡ f ∷ r → j.type ≡ refused_piece

pub judged-orderly : {a b : ℕ} (t : DataType) (fs : List Fault) (x : Term) → Ordered a b fs → Orderly a b (judged t fs x)
unfolding judged
judged-orderly t [] x h = record { ordered = h; refused = λ f r e. apart (cc) }
judged-orderly t (f ∷ r) x h = record { ordered = h; refused = λ g s e. refl }

orderly-wider : {a b c d : ℕ} {j : Judged} → Orderly a b j → c ≤ a → b ≤ d → Orderly c d j
orderly-wider h low high = record { ordered = ordered-wider h.ordered low high; refused = h.refused }

differs-refused : (t : DataType) → differs t refused_piece ≡ false
unfolding differs
differs-refused a_num = refl
differs-refused a_bool = refl
differs-refused refused_piece = refl

by-faults : {A : Type 0} (fs : List Fault) → (fs ≡ [] → A) → ((f : Fault) (r : List Fault) → fs ≡ f ∷ r → A) → A
by-faults [] g k = g refl
by-faults (f ∷ r) g k = k f r refl

-- a piece that is refused is of no wrong type
wanted-refused : (t : DataType) (i : ℕ) (j : Judged) → j.type ≡ refused_piece → wanted t i j ≡ j.faults
unfolding wanted fault_if
wanted-refused t i j e = rw (e, differs-refused t, wanted) (append-nil j.faults)

wanted-alone : (t : DataType) (i : ℕ) (j : Judged) → j.faults ≡ [] → wanted t i j ≡ fault_if (differs t j.type) 13 i
unfolding wanted
wanted-alone t i j e = ap (λ (l : List Fault). l ++ fault_if (differs t j.type) 13 i) e

pub wanted-ordered : {a b : ℕ} (t : DataType) (i : ℕ) (j : Judged) → Orderly a b j → a ≤ i → i < b → Ordered a b (wanted t i j)
wanted-ordered {a} {b} t i j h low high =
    by-faults j.faults (λ e. rw (wanted-alone t i j e) (ordered-if (differs t j.type) 13 i a b low high)) (λ f r e. rw (wanted-refused t i j (h.refused f r e)) h.ordered)

module _ (c : Bool) (i a b : ℕ) (low : a ≤ i) (high : i < b) where
  pub one-orderly : (number : ℕ) → Orderly a b (judged_nothing (fault number i))
  unfolding judged_nothing
  one-orderly number = judged-orderly _ _ _ (ordered-fault number i a b low high)

  only-orderly : (t : DataType) (x : Term) → Orderly a b (judged t (fault_if c 12 i) x)
  only-orderly t x = judged-orderly t _ x (ordered-if c 12 i a b low high)

  name-orderly : (m : Meaning) → Orderly a b (judge_name c m i)
  unfolding judge_name
  name-orderly unknown = one-orderly 11
  name-orderly (variable t r) = only-orderly t _
  name-orderly (array t r n) = one-orderly 12
  name-orderly (constant t r) = judged-orderly t _ _ (ordered-none a b)
  name-orderly (loop r) = only-orderly a_num _
  name-orderly (the_routine k) = one-orderly 12
  name-orderly the_errno = only-orderly a_num _
  name-orderly (error_number n) = judged-orderly a_num _ _ (ordered-none a b)

  leaf-orderly : (W : List Word) (S : Scopes) → Orderly a b (judge_leaf W c S i)
  unfolding judge_leaf
  leaf-orderly W S =
      test (eqb (sort_in W i) NUMBER) (λ t. rw (t, judge_leaf) (judged-orderly _ _ _ (ordered-none a b)))
      (λ t. test (eqb (sort_in W i) TRUE) (λ u. rw (t, judge_leaf) (rw u (judged-orderly _ _ _ (ordered-none a b))))
      (λ u. test (eqb (sort_in W i) FALSE) (λ v. rw (t, judge_leaf) (rw u (rw v (judged-orderly _ _ _ (ordered-none a b)))))
      (λ v. rw (t, judge_leaf) (rw u (rw v (name-orderly (meaning S (spelled W i))))))))

  -- the index stands behind the name, from n on
  element-orderly : (m : Meaning) (e : Expr) (j : Judged) (n : ℕ) → Orderly n b j → i < n → n ≤ first e → first e < b → Orderly a b (judge_element c m i e j)
  unfolding judge_element judged_nothing
  element-orderly m e j n h behind from before = by-array (array_in m) refl
    where
      by-array : (o : Option (DataType × Ref × ℕ)) → array_in m ≡ o → Orderly a b (judge_element c m i e j)
      by-array none q =
          rw (q, judge_element) (judged-orderly _ _ _ (ordered-append (ordered-fault (wrong_name m) i a (suc i) low (omega arith)) h.ordered (omega arith) (omega arith) (omega arith)))
      by-array (some x) q =
          rw (q, judge_element) (judged-orderly _ _ _
          (ordered-append (ordered-if c 12 i a (suc i) low (omega arith)) (wanted-ordered a_num (first e) j h from before) (omega arith) (omega arith) (omega arith)))

signed-orderly : {a b : ℕ} (op : ℕ) (e : Expr) (j : Judged) → Orderly a b j → a ≤ first e → first e < b → Orderly a b (judge_signed op e j)
unfolding judge_signed
signed-orderly op e j h low high =
    test (eqb op NOT) (λ t. rw (t, judge_signed) (judged-orderly _ _ _ (wanted-ordered a_bool (first e) j h low high)))
    (λ t. rw (t, judge_signed) (judged-orderly _ _ _ (wanted-ordered a_num (first e) j h low high)))

-- the two sides of an operator at the word i
module _ (a i b op : ℕ) (x y : Expr) (j k : Judged) (h : Orderly a i j) (g : Orderly (i + 1) b k) (xlow : a ≤ first x) (xhigh : first x < i) (ylow : i + 1 ≤ first y) (yhigh : first y < b) where
  right-ordered : (t : DataType) (fs : List Fault) → Ordered a i fs → Ordered a b (fs ++ wanted t (first y) k)
  right-ordered t fs l = ordered-append l (wanted-ordered t (first y) k g ylow yhigh) (omega arith) (omega arith) (omega arith)

  both_ordered : (t : DataType) → Ordered a b (wanted t (first x) j ++ wanted t (first y) k)
  both_ordered t = right-ordered t (wanted t (first x) j) (wanted-ordered t (first x) j h xlow xhigh)

  joined-orderly : Orderly a b (judge_joined op x y j k)
  unfolding judge_joined
  joined-orderly =
      test (eqb op equal || eqb op unequal) (λ t. rw (t, judge_joined) (judged-orderly _ _ _ (right-ordered j.type j.faults h.ordered)))
      (λ t. test (leb conjunctions (level_of op)) (λ u. rw (t, u, judge_joined) (judged-orderly _ _ _ (both_ordered a_bool)))
      (λ u. test (eqb (level_of op) relations) (λ v. rw (t, u, v, judge_joined) (judged-orderly _ _ _ (both_ordered a_num)))
      (λ v. rw (t, u, v, judge_joined) (judged-orderly _ _ _ (both_ordered a_num)))))

-- ---- expressions
module _ (W : List Word) where
  module _ (c : Bool) (S : Scopes) where
    pub orderly : (e : Expr) (a b : ℕ) → Spans e a b → Orderly a b (judge W c S e)
    unfolding judge Spans
    orderly (leaf i) a b s = leaf-orderly c i a b (omega (arith, s.0)) (omega (arith, s.0, s.1)) W S
    orderly (element i e) a b s =
        let g = spans-grow e (a + 2) (b - 1) s.1 in
        let f = spans-first e (a + 2) (b - 1) s.1 in
        element-orderly c i a b (omega (arith, s.0)) (omega (arith, s.0)) (meaning S (spelled W i)) e (judge W c S e) (a + 2)
        (orderly-wider (orderly e (a + 2) (b - 1) s.1) (omega arith) (omega arith)) (omega (arith, s.0)) (omega arith) (omega arith)
    orderly (nested i e) a b s = orderly-wider (orderly e (a + 1) (b - 1) s.1) (omega arith) (omega arith)
    orderly (signed i e) a b s =
        let g = spans-grow e (a + 1) b s.1 in
        let f = spans-first e (a + 1) b s.1 in
        signed-orderly (sort_in W i) e (judge W c S e) (orderly-wider (orderly e (a + 1) b s.1) (omega arith) (omega arith)) (omega arith) (omega arith)
    orderly (joined i l r) a b s =
        let g = spans-grow l a i s.0 in
        let f = spans-first l a i s.0 in
        let k = spans-grow r (i + 1) b s.1 in
        let n = spans-first r (i + 1) b s.1 in
        joined-orderly a i b (sort_in W i) l r (judge W c S l) (judge W c S r) (orderly l a i s.0) (orderly r (i + 1) b s.1) (omega arith) (omega arith) (omega arith) (omega arith)

  constant-worth : (S : Scopes) (M : Memory) (e : Expr) (f : Fault) (r : List Fault) → (judge W true S e).faults ≡ f ∷ r → constant_worth W S M e ≡ none
  unfolding constant_worth
  constant-worth S M e f r q = rw (q, constant_worth)

  -- what the parser reads
  module _ (d at : ℕ) (e : Expr) (to : ℕ) (h : Parses (sort_in W) d at e to) where
    pub first-is : first e ≡ at
    first-is = spans-first e at to (spans W d at e to h)

    pub judge-ordered : (c : Bool) (S : Scopes) → Ordered at to (judge W c S e).faults
    judge-ordered c S = (orderly c S e at to (spans W d at e to h)).ordered

    -- of a type that is wanted
    pub typed-ordered : (c : Bool) (t : DataType) (S : Scopes) → Ordered at to (wanted t (first e) (judge W c S e))
    typed-ordered c t S =
        wanted-ordered t (first e) (judge W c S e) (orderly c S e at to (spans W d at e to h)) (omega (arith, first-is)) (omega (arith, first-is, grows W d at e to h))

    pub faults-of-inside : (S : Scopes) → Inside at to (faults_of W S e)
    unfolding faults_of
    faults-of-inside S = (judge-ordered false S).inside

    pub of-type-inside : (t : DataType) (S : Scopes) → Inside at to (of_type W t S e)
    unfolding of_type
    of-type-inside t S = (typed-ordered false t S).inside

    -- a constant expression; `bad` says nothing of one that is refused
    module _ (bad : Option Value → Bool) (t : DataType) (S : Scopes) (M : Memory) where
      pub constant-inside : Inside at to (constant_faults W bad t S M e)
      unfolding constant_faults
      constant-inside =
          (typed-ordered true t S).inside
          and inside-if (bad (constant_worth W S M e)) 15 (first e) at to (omega (arith, first-is)) (omega (arith, first-is, grows W d at e to h))

      one_word : (x y : Bool) → Headed (fault_if x 13 (first e) ++ fault_if y 15 (first e))
      unfolding fault_if fault
      one_word true y = leads-others (leads-same-if (record { number = 13; at = first e }) y 15 (first e) refl (ranks 13 15 (omega arith) (omega arith)))
      one_word false y = (ordered-if y 15 (first e) (first e) (suc (first e)) (omega arith) (omega arith)).headed

      pub constant-ordered : bad none ≡ false → Ordered at to (constant_faults W bad t S M e)
      unfolding constant_faults fault_if
      constant-ordered q =
          record {
            inside = constant-inside;
            headed = by-faults (judge W true S e).faults
                (λ n. rw (wanted-alone t (first e) (judge W true S e) n) (one_word (differs t (judge W true S e).type) (bad (constant_worth W S M e))))
                (λ f r n. rw (constant-worth S M e f r n, q) (rw (append-nil (wanted t (first e) (judge W true S e))) (typed-ordered true t S).headed));
          }

    -- ---- the fault that a walk answers
    module _ (f : Fault) (others : List Fault) where
      pub judge-first : (c : Bool) (S : Scopes) → (judge W c S e).faults ≡ f ∷ others → First f (judge W c S e).faults
      judge-first c S q = headed-first f others (judge-ordered c S).headed q

      pub typed-first : (c : Bool) (t : DataType) (S : Scopes) → wanted t (first e) (judge W c S e) ≡ f ∷ others → First f (wanted t (first e) (judge W c S e))
      typed-first c t S q = headed-first f others (typed-ordered c t S).headed q

      pub constant-first : (bad : Option Value → Bool) (t : DataType) (S : Scopes) (M : Memory) → bad none ≡ false → constant_faults W bad t S M e ≡ f ∷ others → First f (constant_faults W bad t S M e)
      constant-first bad t S M n q = headed-first f others (constant-ordered bad t S M n).headed q

      pub faults-of-first : (S : Scopes) → faults_of W S e ≡ f ∷ others → First f (faults_of W S e)
      unfolding faults_of
      faults-of-first S q = judge-first false S q

      pub of-type-first : (t : DataType) (S : Scopes) → of_type W t S e ≡ f ∷ others → First f (of_type W t S e)
      unfolding of_type
      of-type-first t S q = typed-first false t S q
