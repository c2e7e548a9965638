-- What the paper judges, by the faults of the parts.
use mathlib.Core.Path.{◌≡◌, refl, sym, ap, ap₂, ◌∙◌}
use mathlib.Core.Bool.{true, false, ◌||◌}
use mathlib.Core.List.{List, [], ◌∷◌, ◌++◌}
use mathlib.Core.Option.{some}
use Prim.Native.Nat.{ℕ}
use native.Mathlib.Omega.{arith}
use lib.Dec.{eqb, leb}
use borrow.Author.Tests.{eqb-true, eqb-false, leb-true, leb-false, le-leb, lt-leb}
use Rattle.laws.proofs.Tests.{test, false-true}
use Rattle.paper.specs.Sorts.{NOT, equal, unequal}
use Rattle.paper.specs.Terms.{Ref, Term, element_at, unary, binary}
use Rattle.paper.specs.Trees.{Expr, first}
use Rattle.paper.specs.Expressions.{relations, conjunctions, level_of}
use Rattle.paper.specs.Names.{DataType, a_num, a_bool, refused_piece, Meaning, array_in}
use Rattle.paper.specs.Types.{Fault, fault, fault_if, judged, differs, wanted, judge_element, judge_joined, judge_signed}
use Rattle.paper.specs.Types as types
use Rattle.layout.specs.Rules.{wrong_type}
use Rattle.layout.specs.Types.{type_in}
use Rattle.layout.proofs.Typing.{types-differ}
use Rattle.layout.specs.declared.types.ValueType.{ValueType}
use Rattle.check_expressions.specs.Parts.{asked_of, result_of, signed_of}

-- ---- pieces
pub judged-faults : (t : DataType) (fs : List Fault) (x : Term) → (judged t fs x).faults ≡ fs
unfolding judged
judged-faults t [] x = refl
judged-faults t (f ∷ r) x = refl

pub judged-term : (t : DataType) (fs : List Fault) (x : Term) → (judged t fs x).term ≡ x
unfolding judged
judged-term t [] x = refl
judged-term t (f ∷ r) x = refl

pub judged-type : (t : DataType) (fs : List Fault) (x : Term) → fs ≡ [] → (judged t fs x).type ≡ t
unfolding judged
judged-type t fs x e = rw e

pub judged-refused : (t : DataType) (fs : List Fault) (x : Term) (f : Fault) (r : List Fault) → fs ≡ f ∷ r → (judged t fs x).type ≡ refused_piece
unfolding judged
judged-refused t fs x f r e = rw e

-- ---- types
pub differs-same : (t : DataType) → differs t t ≡ false
unfolding differs
differs-same a_num = refl
differs-same a_bool = refl
differs-same refused_piece = refl

-- ---- what a place wants
pub append-none : {A : Type 0} (l : List A) → l ++ [] ≡ l
append-none [] = refl
append-none (a ∷ l) = ap (λ (r : List _). a ∷ r) (append-none l)

module _ (t : DataType) (i : ℕ) (j : types.Judged) where
  pub wanted-same : t ≡ j.type → wanted t i j ≡ j.faults
  unfolding wanted fault_if
  wanted-same e = rw (e, differs-same j.type, wanted) (append-none j.faults)

  pub wanted-none : j.faults ≡ [] → t ≡ j.type → wanted t i j ≡ []
  wanted-none n e = wanted-same e ∙ n

  -- it has another type
  pub wanted-wrong : (type wants : ValueType) → type_in wants ≡ t → type_in type ≡ j.type → (type ≡ wants → ⊥) → j.faults ≡ [] → wanted t i j ≡ fault wrong_type i
  unfolding wanted fault_if
  wanted-wrong type wants e g d n = rw (n, ap₂ differs (sym e) (sym g) ∙ types-differ wants type (λ q. d (sym q)), wanted)

  pub wanted-first : (f : Fault) (r : List Fault) → j.faults ≡ f ∷ r → wanted t i j ≡ f ∷ (r ++ fault_if (differs t j.type) wrong_type i)
  unfolding wanted
  wanted-first f r e = rw (e, wanted)

-- ---- operators
pub level-equal : (s : ℕ) → (eqb s equal || eqb s unequal) ≡ true → level_of s ≡ relations
unfolding level_of
level-equal s h =
    test (eqb s equal) (λ t. rw (eqb-true s equal t))
    (λ t. test (eqb s unequal) (λ u. rw (eqb-true s unequal u)) (λ u. false-true (rw (t, u) at h)))

module _ (s : ℕ) (a b : Expr) (ja jb : types.Judged) where
  -- what it gives, and what it asks of both sides
  joined_as : DataType → DataType → types.Judged
  joined_as t u = judged t (wanted u (first a) ja ++ wanted u (first b) jb) (binary s ja.term jb.term)

  joined-told : (t u : DataType) → result_of s ≡ t → asked_of s ja.type ≡ u → judge_joined s a b ja jb ≡ joined_as t u → judge_joined s a b ja jb ≡ joined_as (result_of s) (asked_of s ja.type)
  joined-told t u r q e = e ∙ sym (ap₂ joined_as r q)

  pub joined_is : judge_joined s a b ja jb ≡ judged (result_of s) (wanted (asked_of s ja.type) (first a) ja ++ wanted (asked_of s ja.type) (first b) jb) (binary s ja.term jb.term)
  unfolding judge_joined asked_of result_of joined_as
  joined_is =
      test (eqb s equal || eqb s unequal)
      (λ t. joined-told a_bool ja.type (rw (level-equal s t, result_of)) (rw (t, asked_of))
      (rw (t, judge_joined) (ap (λ (l : List Fault). judged a_bool (l ++ wanted ja.type (first b) jb) (binary s ja.term jb.term)) (sym (wanted-same ja.type (first a) ja refl)))))
      (λ t. test (leb conjunctions (level_of s))
      (λ u. joined-told a_bool a_bool (rw (le-leb relations (level_of s) (omega (arith, leb-true conjunctions (level_of s) u)), result_of)) (rw (t, u, asked_of)) (rw (t, u, judge_joined)))
      (λ u. test (eqb (level_of s) relations)
      (λ v. joined-told a_bool a_num (rw (le-leb relations (level_of s) (omega (arith, eqb-true (level_of s) relations v)), result_of)) (rw (t, u, asked_of)) (rw (t, u, v, judge_joined)))
      (λ v. joined-told a_num a_num (rw (lt-leb relations (level_of s) (omega (arith, leb-false conjunctions (level_of s) u, eqb-false (level_of s) relations v)), result_of)) (rw (t, u, asked_of)) (rw (t, u, v, judge_joined)))))

pub signed_is : (s : ℕ) (e : Expr) (j : types.Judged) → judge_signed s e j ≡ judged (signed_of s) (wanted (signed_of s) (first e) j) (unary s j.term)
unfolding judge_signed signed_of
signed_is s e j = test (eqb s NOT) (λ t. rw (t, judge_signed)) (λ t. rw (t, judge_signed))

pub element-is : (m : Meaning) (i : ℕ) (e : Expr) (j : types.Judged) (a : DataType × Ref × ℕ) → array_in m ≡ some a
    → judge_element false m i e j ≡ judged a.0 (wanted a_num (first e) j) (element_at a.1 a.2 j.term)
unfolding judge_element fault_if
element-is m i e j a h = rw (h, judge_element)
