-- The faults of an expression are in the order of their words, so that the first of them is the least.
use mathlib.Core.Path.{◌≡◌, refl, sym, ap, subst, ◌∙◌}
use mathlib.Core.Bool.{Bool, true, false}
use mathlib.Core.List.{List, [], ◌∷◌, ◌++◌}
use mathlib.Core.Option.{Option, none, some}
use Prim.Native.Nat.{ℕ, suc, ◌+◌, ◌-◌, ◌<◌, ◌≤◌}
use native.Mathlib.Omega.{arith}
use lib.Dec.{eqb}
use borrow.Author.Tests.{ne_eqb, lt-ltb}
use Rattle.laws.proofs.Tests.{test}
use Rattle.paper.specs.Sorts.{NUMBER, TRUE, FALSE}
use Rattle.paper.specs.Words.{Word}
use Rattle.paper.specs.Terms.{Term}
use Rattle.paper.specs.Trees.{Expr, leaf, element, nested, signed, joined, first}
use Rattle.paper.specs.Expressions.{got, level, expr_in}
use Rattle.paper.specs.Names.{DataType, a_num, a_bool, refused_piece, Meaning, unknown, variable, array, constant, loop, the_routine, the_errno, error_number, array_in, wrong_name, Scopes, sort_in, spelled, meaning}
use Rattle.paper.specs.Types.{Fault, fault, fault_if, comes_first, least_of, least, judged, judged_nothing, differs, wanted, judge_name, judge_element, judge_joined, judge_signed, judge_leaf, judge}
use Rattle.paper.specs.Types as types
use Rattle.climb.specs.Places.{Spans}
use Rattle.climb.proofs.Places.{spans-grow, spans-first, stands}
use Rattle.layout.specs.Rules.{unknown_name, wrong_kind, wrong_type}
use Rattle.check_expressions.specs.Answers.{Refused}
use Rattle.layout.specs.Broken.{as_fault}
use Rattle.layout.specs.declared.rules.Breach.{Breach}
use Rattle.check_expressions.specs.Parts.{asked_of, signed_of}
use Rattle.check_expressions.proofs.FaultsOfParts.{append-none, judged-faults, judged-refused, joined_is, signed_is}

-- Their words are from low up to high, and each comes before the next.
unfoldable pub Rising : (low high : ℕ) → List Fault → Type 0
Rising low high [] = Unit {0}
Rising low high (f ∷ r) = (low ≤ f.at) × (f.at < high) × Rising (suc f.at) high r

rising-wider : (a b c d : ℕ) (l : List Fault) → c ≤ a → b ≤ d → Rising a b l → Rising c d l
unfolding Rising
rising-wider a b c d [] h g r = tt
rising-wider a b c d (f ∷ l) h g r = (omega (arith, r.0), omega (arith, r.1), rising-wider (suc f.at) b (suc f.at) d l (omega arith) g r.2)

rising-append : (a b c : ℕ) (k l : List Fault) → a ≤ b → b ≤ c → Rising a b k → Rising b c l → Rising a c (k ++ l)
unfolding Rising
rising-append a b c [] l h g r s = rising-wider b c a c l h (omega arith) s
rising-append a b c (f ∷ k) l h g r s = (r.0, omega (arith, r.1), rising-append (suc f.at) b c k l r.1 g r.2 s)

rising-one : (number i : ℕ) → Rising i (suc i) (fault number i)
unfolding Rising fault
rising-one number i = (omega arith, omega arith, tt)

rising-if : (b : Bool) (number i : ℕ) → Rising i (suc i) (fault_if b number i)
unfolding Rising fault_if
rising-if true number i = rising-one number i
rising-if false number i = tt

-- ---- the least
least_first : (f : Fault) (high : ℕ) (r : List Fault) → Rising (suc f.at) high r → least_of f r ≡ f
unfolding Rising least_of comes_first
least_first f high [] s = refl
least_first f high (g ∷ r) s =
    let c : comes_first f g ≡ true = rw (ne_eqb f.at g.at (λ e. omega (arith, s.0)), lt-ltb f.at g.at s.0, comes_first) in
    rw (c, least_of) (least_first f high r (rising-wider (suc g.at) high (suc f.at) high r (omega (arith, s.0)) (omega arith) s.2))

pub rising-least : (low high : ℕ) (f : Fault) (r : List Fault) → Rising low high (f ∷ r) → least (f ∷ r) ≡ some f
unfolding Rising least
rising-least low high f r s = ap some (least_first f high r s.2)

-- ---- refused pieces
abbrev Refuses : types.Judged → Type 0
Refuses j = (f : Fault) (r : List Fault) → j.faults ≡ f ∷ r → j.type ≡ refused_piece

refuses-judged : (t : DataType) (fs : List Fault) (x : Term) → Refuses (judged t fs x)
refuses-judged t fs x f r e = judged-refused t fs x f r (sym (judged-faults t fs x) ∙ e)

refuses-name : (c : Bool) (m : Meaning) (i : ℕ) → Refuses (judge_name c m i)
unfolding judge_name judged_nothing
refuses-name c unknown i = refuses-judged _ _ _
refuses-name c (variable t r) i = refuses-judged _ _ _
refuses-name c (array t r n) i = refuses-judged _ _ _
refuses-name c (constant t r) i = refuses-judged _ _ _
refuses-name c (loop r) i = refuses-judged _ _ _
refuses-name c (the_routine k) i = refuses-judged _ _ _
refuses-name c the_errno i = refuses-judged _ _ _
refuses-name c (error_number n) i = refuses-judged _ _ _

refuses-element : (c : Bool) (m : Meaning) (i : ℕ) (e : Expr) (j : types.Judged) → Refuses (judge_element c m i e j)
unfolding judge_element judged_nothing
refuses-element c m i e j = array-or (array_in m) refl
  where
    array-or : (o : Option _) → array_in m ≡ o → Refuses (judge_element c m i e j)
    array-or none h = rw (h, judge_element) (refuses-judged _ _ _)
    array-or (some a) h = rw (h, judge_element) (refuses-judged _ _ _)

by-faults : {A : Type 0} (l : List Fault) → (l ≡ [] → A) → ((f : Fault) (r : List Fault) → l ≡ f ∷ r → A) → A
by-faults [] a b = a refl
by-faults (f ∷ r) a b = b f r refl

differs-refused : (t : DataType) → differs t refused_piece ≡ false
unfolding differs
differs-refused a_num = refl
differs-refused a_bool = refl
differs-refused refused_piece = refl

wanted-rising : (t : DataType) (i low high : ℕ) (j : types.Judged) → low ≤ i → i < high → Refuses j → Rising low high j.faults → Rising low high (wanted t i j)
unfolding wanted fault_if
wanted-rising t i low high j h g k r =
    by-faults j.faults
    (λ e. rw (e, wanted) (rising-wider i (suc i) low high (fault_if (differs t j.type) wrong_type i) h g (rising-if (differs t j.type) wrong_type i)))
    (λ f s e. rw (k f s e, differs-refused t, wanted) (rw (append-none j.faults) r))

-- ---- expressions
module _ (W : List Word) (c : Bool) (S : Scopes) where
  refuses-leaf : (i : ℕ) → Refuses (judge_leaf W c S i)
  unfolding judge_leaf
  refuses-leaf i =
      test (eqb (sort_in W i) NUMBER) (λ t. rw (t, judge_leaf) (refuses-judged _ _ _))
      (λ t. test (eqb (sort_in W i) TRUE) (λ u. rw (t, judge_leaf) (rw u (refuses-judged _ _ _)))
      (λ u. test (eqb (sort_in W i) FALSE) (λ v. rw (t, judge_leaf) (rw u (rw v (refuses-judged _ _ _))))
      (λ v. rw (t, judge_leaf) (rw u (rw v (refuses-name c (meaning S (spelled W i)) i))))))

  refuses : (e : Expr) → Refuses (judge W c S e)
  unfolding judge
  refuses (leaf i) = refuses-leaf i
  refuses (element i e) = refuses-element c (meaning S (spelled W i)) i e (judge W c S e)
  refuses (nested i e) = refuses e
  refuses (signed i e) = rw (signed_is (sort_in W i) e (judge W c S e)) (refuses-judged _ _ _)
  refuses (joined i a b) = rw (joined_is (sort_in W i) a b (judge W c S a) (judge W c S b)) (refuses-judged _ _ _)

  rising-judged : (a b : ℕ) (t : DataType) (fs : List Fault) (x : Term) → Rising a b fs → Rising a b (judged t fs x).faults
  rising-judged a b t fs x r = rw (judged-faults t fs x) r

  name-rising : (m : Meaning) (i : ℕ) → Rising i (suc i) (judge_name c m i).faults
  unfolding judge_name judged_nothing Rising
  name-rising unknown i = rising-judged i (suc i) _ _ _ (rising-one unknown_name i)
  name-rising (variable t r) i = rising-judged i (suc i) _ _ _ (rising-if c wrong_kind i)
  name-rising (array t r n) i = rising-judged i (suc i) _ _ _ (rising-one wrong_kind i)
  name-rising (constant t r) i = rising-judged i (suc i) _ _ _ tt
  name-rising (loop r) i = rising-judged i (suc i) _ _ _ (rising-if c wrong_kind i)
  name-rising (the_routine k) i = rising-judged i (suc i) _ _ _ (rising-one wrong_kind i)
  name-rising the_errno i = rising-judged i (suc i) _ _ _ (rising-if c wrong_kind i)
  name-rising (error_number n) i = rising-judged i (suc i) _ _ _ tt

  leaf-rising : (i : ℕ) → Rising i (suc i) (judge_leaf W c S i).faults
  unfolding judge_leaf Rising
  leaf-rising i =
      test (eqb (sort_in W i) NUMBER) (λ t. rw (t, judge_leaf) (rising-judged i (suc i) _ _ _ tt))
      (λ t. test (eqb (sort_in W i) TRUE) (λ u. rw (t, judge_leaf) (rw u (rising-judged i (suc i) _ _ _ tt)))
      (λ u. test (eqb (sort_in W i) FALSE) (λ v. rw (t, judge_leaf) (rw u (rw v (rising-judged i (suc i) _ _ _ tt))))
      (λ v. rw (t, judge_leaf) (rw u (rw v (name-rising (meaning S (spelled W i)) i))))))

  element-rising : (m : Meaning) (i to : ℕ) (e : Expr) (j : types.Judged) → i + 2 < to → first e ≡ i + 2 → Refuses j → Rising (i + 2) to j.faults → Rising i to (judge_element c m i e j).faults
  unfolding judge_element judged_nothing
  element-rising m i to e j h g k r = array-or (array_in m) refl
    where
      array-or : (o : Option _) → array_in m ≡ o → Rising i to (judge_element c m i e j).faults
      array-or none q =
          rw (q, judge_element) (rising-judged i to _ _ _
          (rising-append i (suc i) to (fault (wrong_name m) i) j.faults (omega arith) (omega arith) (rising-one (wrong_name m) i) (rising-wider (i + 2) to (suc i) to j.faults (omega arith) (omega arith) r)))
      array-or (some a) q =
          rw (q, judge_element) (rising-judged i to _ _ _
          (rising-append i (suc i) to (fault_if c wrong_kind i) (wanted a_num (first e) j) (omega arith) (omega arith) (rising-if c wrong_kind i)
          (rising-wider (i + 2) to (suc i) to (wanted a_num (first e) j) (omega arith) (omega arith) (wanted-rising a_num (first e) (i + 2) to j (omega arith) (omega arith) k r))))

  pub rising : (e : Expr) (a b : ℕ) → Spans e a b → Rising a b (judge W c S e).faults
  unfolding judge Spans
  rising (leaf i) a b s = rising-wider i (suc i) a b (judge_leaf W c S i).faults (omega (arith, s.0)) (omega (arith, s.0, s.1)) (leaf-rising i)
  rising (element i e) a b s =
      let g = spans-grow e (a + 2) (b - 1) s.1 in
      let q : a ≡ i = sym s.0 in
      rising-wider i b a b (judge_element c (meaning S (spelled W i)) i e (judge W c S e)).faults (omega arith) (omega arith)
      (element-rising (meaning S (spelled W i)) i b e (judge W c S e) (omega arith) (spans-first e (a + 2) (b - 1) s.1 ∙ ap (λ (n : ℕ). n + 2) q) (refuses e)
      (rising-wider (a + 2) (b - 1) (i + 2) b (judge W c S e).faults (omega arith) (omega arith) (rising e (a + 2) (b - 1) s.1)))
  rising (nested i e) a b s = rising-wider (a + 1) (b - 1) a b (judge W c S e).faults (omega arith) (omega arith) (rising e (a + 1) (b - 1) s.1)
  rising (signed i e) a b s =
      let g = spans-grow e (a + 1) b s.1 in
      let t = signed_of (sort_in W i) in
      rw (signed_is (sort_in W i) e (judge W c S e)) (rising-judged a b _ _ _
      (wanted-rising t (first e) a b (judge W c S e) (omega (arith, spans-first e (a + 1) b s.1)) (omega (arith, spans-first e (a + 1) b s.1)) (refuses e)
      (rising-wider (a + 1) b a b (judge W c S e).faults (omega arith) (omega arith) (rising e (a + 1) b s.1))))
  rising (joined i l r) a b s =
      let g = spans-grow l a i s.0 in
      let h = spans-grow r (i + 1) b s.1 in
      let t = asked_of (sort_in W i) (judge W c S l).type in
      rw (joined_is (sort_in W i) l r (judge W c S l) (judge W c S r)) (rising-judged a b _ _ _
      (rising-append a i b (wanted t (first l) (judge W c S l)) (wanted t (first r) (judge W c S r)) (omega arith) (omega arith)
      (wanted-rising t (first l) a i (judge W c S l) (omega (arith, spans-first l a i s.0)) (omega (arith, spans-first l a i s.0)) (refuses l) (rising l a i s.0))
      (wanted-rising t (first r) i b (judge W c S r) (omega (arith, spans-first r (i + 1) b s.1)) (omega (arith, spans-first r (i + 1) b s.1)) (refuses r)
      (rising-wider (i + 1) b i b (judge W c S r).faults (omega arith) (omega arith) (rising r (i + 1) b s.1)))))

  -- the same where a type is wanted
  pub rising-wanted : (t : DataType) (e : Expr) (a b : ℕ) → Spans e a b → Rising a b (wanted t (first e) (judge W c S e))
  rising-wanted t e a b s =
      let f = spans-first e a b s in
      let g = spans-grow e a b s in
      wanted-rising t (first e) a b (judge W c S e) (omega arith) (omega arith) (refuses e) (rising e a b s)

  -- The fault of an answer is the least of those of its expression.
  pub least-is : (d j at to : ℕ) (e : Expr) (broken : Breach) → level (sort_in W) (expr_in (sort_in W) d) j at ≡ got (e, to) → Refused (judge W c S e) broken
      → least (judge W c S e).faults ≡ some (as_fault broken)
  least-is d j at to e broken h r =
      let q = rising e at to (stands (sort_in W) d j at (e, to) h) in
      ap least r.faults-are ∙ rising-least at to (as_fault broken) r.others (subst (Rising at to) r.faults-are q)
