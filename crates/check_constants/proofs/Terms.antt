-- A constant expression without faults holds literals and constants only: what it is worth is in num, and is the same in every memory that holds the constants.
use mathlib.Core.Path.{◌≡◌, refl, sym, ap, ap₂, subst, ◌∙◌}
use mathlib.Core.Bool.{Bool, true, false, not, ◌||◌}
use mathlib.Core.List.{List, [], ◌∷◌, ◌++◌}
use mathlib.Core.Option.{Option, none, some}
use Prim.Native.Nat.{ℕ, ◌≤◌}
use native.Mathlib.Omega.{arith}
use lib.Dec.{eqb}
use lib.ListN.{take, drop, get_or-map}
use lib.Seq.{get_or-take, get_or-drop}
use lib.IntN.{ℤ, pos, ◌+ℤ◌, ◌-ℤ◌, ◌*ℤ◌}
use lib.Signed.{lt_z, le_z}
use mir.Syntax.{w32}
use mir.Val.{to_z}
use borrow.Author.Tests.{eqb-true, le-ltb}
use Rattle.laws.proofs.Tests.{test, apart}
use Rattle.std.specs.Prelude.{if◌then◌else◌}
use Rattle.paper.specs.Sorts.{NUMBER, TRUE, FALSE, NOT, plus, minus_sign, times, DIV, MOD, AND, OR, equal, unequal, less, less_equal, greater, greater_equal}
use Rattle.paper.specs.Words.{Word}
use Rattle.paper.specs.Numbers.{num, Value, value, error, ranged, add, subtract, multiply, divide, modulo, minus, is_zero, same}
use Rattle.paper.specs.Terms.{Ref, of_module, of_routine, Term, literal, stored, unary, binary, Memory, load, truth, applied, operated, known, combined, worth}
use Rattle.paper.specs.Trees.{Expr, leaf, element, nested, signed, joined, first}
use Rattle.paper.specs.Names.{DataType, Meaning, unknown, variable, array, constant, loop, the_routine, the_errno, error_number, array_in, Text, Scopes, nth, sort_in, spelled, meaning}
use Rattle.paper.specs.Types.{Fault, fault, fault_if, judged, judged_nothing, wanted, judge_name, judge_element, judge_leaf, judge}
use Rattle.paper.specs.Types as types
use Rattle.code.specs.Cells.{first_window}
use Rattle.code.specs.Spans.{memory_in}
use Rattle.check_expressions.specs.Known.{largest, InRoom}
use Rattle.check_expressions.specs.Parts.{asked_of, result_of, signed_of}
use Rattle.check_expressions.proofs.FaultsOfParts.{judged-faults, judged-term, joined_is, signed_is}
use Rattle.check_constants.specs.Answers.{cell_of, InNum, Worth, Fine}

-- ---- numbers in num
pub in-num-small : (n : ℕ) → n ≤ largest → InNum (pos n)
unfolding num
in-num-small n h = record { low = refl; high = le-ltb 8388608 n h }

truth-in-num : (b : Bool) → InNum (truth b)
unfolding truth
truth-in-num true = in-num-small 1 (omega arith)
truth-in-num false = in-num-small 0 (omega arith)

-- a value is in num; an error is no number
pub record Held (v : Value) : Type 0 where
  pub holds : (z : ℤ) → v ≡ value z → InNum z

same-value : (a b : ℤ) → value a ≡ value b → a ≡ b
same-value a b e = cc

no_value : {A : Type 0} (e : ℕ) (z : ℤ) → error e ≡ value z → A
no_value e z q = apart (cc)

held-value : (z : ℤ) → InNum z → Held (value z)
held-value z h = record { holds = λ y e. subst InNum (same-value z y e) h }

held-error : (e : ℕ) → Held (error e)
held-error e = record { holds = λ z q. no_value e z q }

held-if : (b : Bool) (x y : Value) → Held x → Held y → Held (if b then x else y)
held-if true x y h g = h
held-if false x y h g = g

held-ranged : (z : ℤ) → Held (ranged num z)
unfolding ranged
held-ranged z =
    test (lt_z z num.low)
    (λ t. rw (t, ranged) (held-error _))
    (λ t. test (lt_z num.high z) (λ u. rw (t, ranged) (rw u (held-error _))) (λ u. rw (t, ranged) (rw u (held-value z (record { low = t; high = u })))))

held-divide : (a b : ℤ) → Held (divide num a b)
unfolding divide
held-divide a b = test (is_zero b) (λ t. rw (t, divide) (held-error _)) (λ t. rw (t, divide) (held-ranged _))

held-modulo : (a b : ℤ) → Held (modulo num a b)
unfolding modulo
held-modulo a b = test (is_zero b) (λ t. rw (t, modulo) (held-error _)) (λ t. rw (t, modulo) (held-ranged _))

held-truth : (b : Bool) → Held (value (truth b))
held-truth b = held-value (truth b) (truth-in-num b)

held-applied : (op : ℕ) (v : Value) → Held v → Held (applied op v)
unfolding applied minus
held-applied op (error e) h = held-error e
held-applied op (value a) h = held-if (eqb op NOT) _ _ (held-truth (is_zero a)) (held-if (eqb op minus_sign) _ _ (held-ranged _) h)

held-operated : (op : ℕ) (a b : ℤ) → Held (value b) → Held (operated op a b)
unfolding operated add subtract multiply
held-operated op a b h =
    held-if (eqb op plus) _ _ (held-ranged (a +ℤ b))
    (held-if (eqb op minus_sign) _ _ (held-ranged (a -ℤ b))
    (held-if (eqb op times) _ _ (held-ranged (a *ℤ b))
    (held-if (eqb op DIV) _ _ (held-divide a b)
    (held-if (eqb op MOD) _ _ (held-modulo a b)
    (held-if (eqb op equal) _ _ (held-truth (same a b))
    (held-if (eqb op unequal) _ _ (held-truth (not (same a b)))
    (held-if (eqb op less) _ _ (held-truth (lt_z a b))
    (held-if (eqb op less_equal) _ _ (held-truth (le_z a b))
    (held-if (eqb op greater) _ _ (held-truth (lt_z b a))
    (held-if (eqb op greater_equal) _ _ (held-truth (le_z b a))
    (held-if (eqb op AND || eqb op OR) _ _ (h)
    (held-truth (not (same a b))))))))))))))

held-combined : (op : ℕ) (a b : Value) → Held b → Held (combined op a b)
unfolding combined
held-combined op (error e) b h = held-error e
held-combined op (value a) (error e) h = held-error e
held-combined op (value a) (value b) h = held-operated op a b h

-- ---- terms of literals and constants
pub data Constantly (Q : Ref → Type 0) : Term → Type 0 where
  a-literal : {z : ℤ} → InNum z → Constantly Q (literal z)
  a_word : {r : Ref} → Q r → Constantly Q (stored r)
  with-sign : {op : ℕ} {t : Term} → Constantly Q t → Constantly Q (unary op t)
  with-sides : {op : ℕ} {a b : Term} → Constantly Q a → Constantly Q b → Constantly Q (binary op a b)

module _ (Q : Ref → Type 0) (M N : Memory) (agree : (r : Ref) → Q r → load M r ≡ load N r) (small : (r : Ref) → Q r → InNum (load M r)) where
  pub same-worth : {t : Term} → Constantly Q t → worth M t ≡ worth N t
  unfolding worth
  same-worth (a-literal h) = refl
  same-worth (a_word {r} q) = ap value (agree r q)
  same-worth (with-sign {op} c) = ap (applied op) (same-worth c)
  same-worth (with-sides {op} {a} {b} c d) =
      ap₂ (λ (x y : Value). elim (known op x) [ true ↦ x | false ↦ combined op x y ]) (same-worth c) (same-worth d)

  pub held-worth : {t : Term} → Constantly Q t → Held (worth M t)
  unfolding worth
  held-worth (a-literal {z} h) = held-value z h
  held-worth (a_word {r} q) = held-value (load M r) (small r q)
  held-worth (with-sign {op} {t} c) = held-applied op (worth M t) (held-worth c)
  held-worth (with-sides {op} {a} {b} c d) =
      test (known op (worth M a))
      (λ t. rw (t, worth) (held-worth c))
      (λ t. rw (t, worth) (held-combined op (worth M a) (worth M b) (held-worth d)))

-- ---- what is judged
pub none_left : (k l : List Fault) → k ++ l ≡ [] → k ≡ []
none_left [] l h = refl
none_left (f ∷ k) l h = apart (cc)

pub none_right : (k l : List Fault) → k ++ l ≡ [] → l ≡ []
none_right [] l h = h
none_right (f ∷ k) l h = apart (cc)

pub some-fault : {A : Type 0} (f : Fault) (r : List Fault) → f ∷ r ≡ [] → A
some-fault f r h = apart (cc)

pub wanted-clean : (t : DataType) (i : ℕ) (j : types.Judged) → wanted t i j ≡ [] → j.faults ≡ []
unfolding wanted
wanted-clean t i j h = none_left j.faults _ h

module _ (m n : ℕ) (X : List ℕ) (M : Memory) where
  name-constantly : (a : Meaning) (i : ℕ) → Fine m n X M a → (judge_name true a i).faults ≡ [] → Constantly (Worth m n X M) (judge_name true a i).term
  unfolding judge_name judged_nothing judged fault_if fault Fine
  name-constantly unknown i f h = some-fault _ _ h
  name-constantly (variable t r) i f h = some-fault _ _ h
  name-constantly (array t r k) i f h = some-fault _ _ h
  name-constantly (constant t r) i f h = a_word (f refl)
  name-constantly (loop r) i f h = some-fault _ _ h
  name-constantly (the_routine k) i f h = some-fault _ _ h
  name-constantly the_errno i f h = some-fault _ _ h
  name-constantly (error_number k) i f h = a-literal (in-num-small k f)

  no-element : {A : Type 0} (a : Meaning) (i : ℕ) (e : Expr) (j : types.Judged) → (judge_element true a i e j).faults ≡ [] → A
  unfolding judge_element judged_nothing judged fault_if fault
  no-element a i e j h = by-array (array_in a) refl
    where
      by-array : {A : Type 0} (o : Option _) → array_in a ≡ o → A
      by-array none q = some-fault _ _ (rw (q, judge_element) at h)
      by-array (some x) q = some-fault _ _ (rw (q, judge_element) at h)

  module _ (W : List Word) (S : Scopes) (small : (i : ℕ) → sort_in W i ≡ NUMBER → (nth W i).value ≤ largest) (fine : (text : Text) → Fine m n X M (meaning S text)) where
    leaf-constantly : (i : ℕ) → (judge_leaf W true S i).faults ≡ [] → Constantly (Worth m n X M) (judge_leaf W true S i).term
    unfolding judge_leaf judged
    leaf-constantly i h =
        test (eqb (sort_in W i) NUMBER)
        (λ t. rw (t, judge_leaf) (a-literal (in-num-small (nth W i).value (small i (eqb-true (sort_in W i) NUMBER t)))))
        (λ t. test (eqb (sort_in W i) TRUE)
        (λ u. rw (t, judge_leaf) (rw u (a-literal (truth-in-num true))))
        (λ u. test (eqb (sort_in W i) FALSE)
        (λ v. rw (t, judge_leaf) (rw u (rw v (a-literal (truth-in-num false)))))
        (λ v. let g : (judge_name true (meaning S (spelled W i)) i).faults ≡ [] = rw v at (rw u at (rw (t, judge_leaf) at h)) in
        rw (t, judge_leaf) (rw u (rw v (name-constantly (meaning S (spelled W i)) i (fine (spelled W i)) g))))))

    pub constantly : (e : Expr) → (judge W true S e).faults ≡ [] → Constantly (Worth m n X M) (judge W true S e).term
    unfolding judge
    constantly (leaf i) h = leaf-constantly i h
    constantly (element i e) h = no-element (meaning S (spelled W i)) i e (judge W true S e) h
    constantly (nested i e) h = constantly e h
    constantly (signed i e) h =
        let j = judge W true S e in
        let t = signed_of (sort_in W i) in
        let q = signed_is (sort_in W i) e j in
        let g : wanted t (first e) j ≡ [] = sym (judged-faults t _ (unary (sort_in W i) j.term)) ∙ sym (ap (λ (y : types.Judged). y.faults) q) ∙ h in
        subst (Constantly (Worth m n X M)) (sym (ap (λ (y : types.Judged). y.term) q ∙ judged-term t (wanted t (first e) j) (unary (sort_in W i) j.term)))
        (with-sign (constantly e (wanted-clean t (first e) j g)))
    constantly (joined i a b) h =
        let ja = judge W true S a in
        let jb = judge W true S b in
        let t = asked_of (sort_in W i) ja.type in
        let q = joined_is (sort_in W i) a b ja jb in
        let x = binary (sort_in W i) ja.term jb.term in
        let g : wanted t (first a) ja ++ wanted t (first b) jb ≡ [] = sym (judged-faults (result_of (sort_in W i)) _ x) ∙ sym (ap (λ (y : types.Judged). y.faults) q) ∙ h in
        subst (Constantly (Worth m n X M)) (sym (ap (λ (y : types.Judged). y.term) q ∙ judged-term (result_of (sort_in W i)) (wanted t (first a) ja ++ wanted t (first b) jb) x))
        (with-sides (constantly a (wanted-clean t (first a) ja (none_left _ _ g))) (constantly b (wanted-clean t (first b) jb (none_right (wanted t (first a) ja) _ g))))

  -- ---- the memory of the cells
  worth-loads : (r : Ref) → Worth m n X M r → load M r ≡ load (memory_in m n X first_window) r
  unfolding InRoom cell_of load memory_in
  worth-loads (of_module k) w = sym w.is ∙ sym (get_or-map (to_z w32) (take m X) k 0 ∙ ap (to_z w32) (get_or-take m X k 0 (omega (arith, w.room))))
  worth-loads (of_routine k) w =
      sym w.is ∙ sym (get_or-map (to_z w32) (take n (drop first_window X)) k 0 ∙ ap (to_z w32) (get_or-take n (drop first_window X) k 0 (omega (arith, w.room)) ∙ get_or-drop first_window X k 0))

  pub constantly-same : (t : Term) → Constantly (Worth m n X M) t → worth M t ≡ worth (memory_in m n X first_window) t
  constantly-same t c = same-worth (Worth m n X M) M (memory_in m n X first_window) worth-loads (λ r w. w.ranged) c

  pub constantly-held : (t : Term) → Constantly (Worth m n X M) t → Held (worth M t)
  constantly-held t c = held-worth (Worth m n X M) M M (λ r w. refl) (λ r w. w.ranged) c
