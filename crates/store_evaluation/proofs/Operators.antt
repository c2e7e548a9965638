-- Operators: from what is worked out with no regard to num to what the paper says that they give.
use mathlib.Core.Path.{◌≡◌, refl, sym, ap, ap₂, subst, ◌∙◌}
use mathlib.Core.Bool.{Bool, true, false, not}
use Prim.Native.Nat.{ℕ, suc, ◌+◌, ◌<◌, ◌≤◌}
use native.Mathlib.Omega.{arith}
use native.Mathlib.Nat.{mul-le-mul}
use lib.Dec.{T, eqb, ltb}
use lib.ListN.{get_or-eq_default}
use lib.IntN.{ℤ, pos, negsuc, neg_ℤ, nat_abs, ◌+ℤ◌, ◌-ℤ◌, ◌*ℤ◌, +ℤ_idl}
use lib.Signed.{lt_z, le_z, quot_z, rem_z, nat_abs-le}
use mir.Syntax.{w32, w64}
use mir.Val.{SFits}
use mir.Facts.{to_z-of_z}
use borrow.Author.Tests.{ne_eqb, le-leb, lt-leb, lt-ltb, le-ltb}
use Rattle.laws.proofs.Tests.{test, by_less, by_last, by-same}
use Rattle.paper.specs.Sorts.{AND, OR, XOR}
use Rattle.paper.specs.Numbers as paper
use Rattle.paper.specs.Numbers.{num, Value, value, error, add, subtract, multiply, divide, modulo, is_zero, same, overflow, div_zero}
use Rattle.paper.specs.Terms.{truth, applied, known, combined, operated}
use Rattle.store_numbers.proofs.Whole.{read, sub_cases, mag-abs, abs_neg, abs-mul, rem_is}
use Rattle.code.specs.Spans.{operators, operator_of, prefix_in}
use Rattle.store_evaluation.specs.Answers.{first_error, decoded, Small, Gives}
use Rattle.store_evaluation.specs.Parts.{outside, joined, failure_of, div_number, and_number, or_number, failing, Worked, Skips, Divided}
use Rattle.store_evaluation.proofs.Numbers.{not-less, ranged-inside, ranged-outside, truth-inside, truth-small, is-value, is-error, gives-value, gives-error, gives_as, gives_same, told, inside-small, outside-is}

-- ---- operators by their numbers
-- from 14 on there is only XOR
pub past-last : (k : ℕ) → 14 ≤ k → operator_of k ≡ XOR
unfolding operator_of operators
past-last k h = get_or-eq_default operators XOR {n = k} h

-- no number of an operator
pub past_of : (k : ℕ) → (k ≡ 0 → ⊥) → (k ≡ 1 → ⊥) → (k ≡ 2 → ⊥) → (k ≡ 3 → ⊥) → (k ≡ 4 → ⊥) → (k ≡ 5 → ⊥) → (k ≡ 6 → ⊥) → (k ≡ 7 → ⊥)
    → (k ≡ 8 → ⊥) → (k ≡ 9 → ⊥) → (k ≡ 10 → ⊥) → (k ≡ 11 → ⊥) → (k ≡ 12 → ⊥) → (k ≡ 13 → ⊥) → 14 ≤ k
past_of k n0 n1 n2 n3 n4 n5 n6 n7 n8 n9 n10 n11 n12 n13 =
    by_less k 14 (λ h.
    by_last k 13 h (λ e. absurd (n13 e)) (λ h.
    by_last k 12 h (λ e. absurd (n12 e)) (λ h.
    by_last k 11 h (λ e. absurd (n11 e)) (λ h.
    by_last k 10 h (λ e. absurd (n10 e)) (λ h.
    by_last k 9 h (λ e. absurd (n9 e)) (λ h.
    by_last k 8 h (λ e. absurd (n8 e)) (λ h.
    by_last k 7 h (λ e. absurd (n7 e)) (λ h.
    by_last k 6 h (λ e. absurd (n6 e)) (λ h.
    by_last k 5 h (λ e. absurd (n5 e)) (λ h.
    by_last k 4 h (λ e. absurd (n4 e)) (λ h.
    by_last k 3 h (λ e. absurd (n3 e)) (λ h.
    by_last k 2 h (λ e. absurd (n2 e)) (λ h.
    by_last k 1 h (λ e. absurd (n1 e)) (λ h.
    by_last k 0 h (λ e. absurd (n0 e)) (λ h. absurd (omega arith))))))))))))))))
    (λ h. h)

-- an operator other than AND and OR
abbrev Plain : ℕ → Type 0
Plain op = (eqb op AND ≡ false) × (eqb op OR ≡ false)

plain : (k : ℕ) → (k ≡ and_number → ⊥) → (k ≡ or_number → ⊥) → Plain (operator_of k)
unfolding operator_of operators
plain k p q =
    by_less k 14 (λ h.
    by_last k 13 h (λ e. absurd (q e)) (λ h.
    by_last k 12 h (λ e. absurd (p e)) (λ h.
    by_last k 11 h (λ e. rw e (refl, refl)) (λ h.
    by_last k 10 h (λ e. rw e (refl, refl)) (λ h.
    by_last k 9 h (λ e. rw e (refl, refl)) (λ h.
    by_last k 8 h (λ e. rw e (refl, refl)) (λ h.
    by_last k 7 h (λ e. rw e (refl, refl)) (λ h.
    by_last k 6 h (λ e. rw e (refl, refl)) (λ h.
    by_last k 5 h (λ e. rw e (refl, refl)) (λ h.
    by_last k 4 h (λ e. rw e (refl, refl)) (λ h.
    by_last k 3 h (λ e. rw e (refl, refl)) (λ h.
    by_last k 2 h (λ e. rw e (refl, refl)) (λ h.
    by_last k 1 h (λ e. rw e (refl, refl)) (λ h.
    by_last k 0 h (λ e. rw e (refl, refl)) (λ h. absurd (omega arith))))))))))))))))
    (λ h. rw (past-last k h) (refl, refl))

module _ (number : ℕ) (a : ℤ) (s : SFits w64 a) (t : Bool) (e : t ≡ is_zero (read a)) where
  zero_is : t ≡ is_zero a
  zero_is = e ∙ ap is_zero (to_z-of_z s)

  pub known-and : number ≡ and_number → t ≡ known (operator_of number) (value a)
  unfolding known operator_of operators
  known-and k = rw k zero_is

  pub known-or : (number ≡ and_number → ⊥) → number ≡ or_number → not t ≡ known (operator_of number) (value a)
  unfolding known operator_of operators
  known-or j k = rw k (ap not zero_is)

pub known-none : (number : ℕ) (a : ℤ) → (number ≡ and_number → ⊥) → (number ≡ or_number → ⊥) → false ≡ known (operator_of number) (value a)
unfolding known
known-none number a p q = let h = plain number p q in rw (h.0, known) (rw h.1)

-- ---- what fails
module _ (number : ℕ) (b : ℤ) where
  pub fails-early : number < div_number → Gives (error (failure_of number b)) (pos (first_error + overflow))
  unfolding failure_of
  fails-early h = rw (lt-leb div_number number h, failure_of) (gives-error overflow)

  module _ (h : div_number ≤ number) (s : SFits w64 b) (t : Bool) (e : t ≡ is_zero (read b)) where
    divisor-is : (u : Bool) → t ≡ u → is_zero b ≡ u
    divisor-is u q = rw (to_z-of_z s) at (sym e ∙ q)

    pub fails-zero : t ≡ true → Gives (error (failure_of number b)) (pos (first_error + div_zero))
    unfolding failure_of
    fails-zero q = rw (le-leb div_number number h, failure_of) (rw (divisor-is true q) (gives-error div_zero))

    pub fails-over : t ≡ false → Gives (error (failure_of number b)) (pos (first_error + overflow))
    unfolding failure_of
    fails-over q = rw (le-leb div_number number h, failure_of) (rw (divisor-is false q) (gives-error overflow))

-- ---- whether a result fails
module _ (k : ℕ) (z : ℤ) where
  pub holds-inside : k < and_number → failing k z ≡ false → outside z ≡ false
  unfolding failing
  holds-inside h f =
      test (outside z)
      (λ t. let q : ltb k and_number ≡ false = rw (t, failing) at f in absurd (subst T (sym (lt-ltb k and_number h) ∙ q) tt))
      (λ t. t)

  pub fails-outside : failing k z ≡ true → outside z ≡ true
  unfolding failing
  fails-outside f = test (outside z) (λ t. t) (λ t. let q : false ≡ true = rw (t, failing) at f in absurd (subst T (sym q) tt))

  pub inside-holds : outside z ≡ false → failing k z ≡ false
  unfolding failing
  inside-holds t = rw (t, failing)

  pub logic-holds : and_number ≤ k → failing k z ≡ false
  unfolding failing
  logic-holds h = test (outside z) (λ t. rw (t, failing) (le-ltb k and_number h)) inside-holds

module _ (k : ℕ) (z : ℤ) (s : SFits w64 z) (t : Bool) (e : t ≡ outside (read z)) where
  pub failing-outside : t ≡ true → ltb k and_number ≡ failing k z
  unfolding failing
  failing-outside h = rw (outside-is z t true s e h, failing)

  pub failing-inside : t ≡ false → false ≡ failing k z
  failing-inside h = sym (inside-holds k z (outside-is z t false s e h))

pub failing-is : (k : ℕ) (z : ℤ) (t u : Bool) → SFits w64 z → t ≡ failing k (read z) → t ≡ u → failing k z ≡ u
failing-is k z t u s e h = rw (to_z-of_z s) at (sym e ∙ h)

-- ---- what is worked out
abs-size : (a : ℤ) → SFits w32 a → nat_abs a ≤ 2147483648
abs-size a s = nat_abs-le a s.sfits

sum-size : (a b : ℤ) → nat_abs (a +ℤ b) ≤ nat_abs a + nat_abs b
sum-size (pos a) (pos b) = omega arith
sum-size (pos a) (negsuc b) = sub_cases (λ z. nat_abs z ≤ a + suc b) a (suc b) (λ h. omega arith) (λ h. omega arith)
sum-size (negsuc a) (pos b) = sub_cases (λ z. nat_abs z ≤ suc a + b) b (suc a) (λ h. omega arith) (λ h. omega arith)
sum-size (negsuc a) (negsuc b) = omega arith

wide : (z : ℤ) → nat_abs z ≤ 4611686018427387904 → SFits w64 z
wide z h = record { sfits = omega (arith, mag-abs z) }

module _ (a b : ℤ) (sa : SFits w64 a) (sb : SFits w64 b) (fa : SFits w32 a) (fb : SFits w32 b) where
  pub sum_fits : SFits w64 (read a +ℤ read b)
  sum_fits = rw (to_z-of_z sa, to_z-of_z sb) (wide (a +ℤ b) (omega (arith, sum-size a b, abs-size a fa, abs-size b fb)))

  pub difference-fits : SFits w64 (read a -ℤ read b)
  difference-fits = rw (to_z-of_z sa, to_z-of_z sb) (wide (a -ℤ b) (omega (arith, sum-size a (neg_ℤ b), abs_neg b, abs-size a fa, abs-size b fb)))

  pub product-fits : SFits w64 (read a *ℤ read b)
  product-fits = rw (to_z-of_z sa, to_z-of_z sb) (wide (a *ℤ b) (let h = mul-le-mul (abs-size a fa) (abs-size b fb) in omega (arith, abs-mul a b)))

-- a number that num holds or not
held : (k : ℕ) (a b z : ℤ) → k < and_number → failure_of k b ≡ overflow → joined (operator_of k) (value a) (value b) ≡ paper.ranged num z → Worked k a b z
held k a b z h f e = record {
  is = λ o. e ∙ ranged-inside z (holds-inside k z h o);
  small = λ o. inside-small z (holds-inside k z h o);
  fails = λ o. e ∙ ranged-outside z (fails-outside k z o) ∙ ap error (sym f);
}

-- a number that is the answer in any case: a truth, or one of the sides
whole : (k : ℕ) (a b z : ℤ) → SFits w32 z → failing k z ≡ false → joined (operator_of k) (value a) (value b) ≡ value z → Worked k a b z
whole k a b z s f e = record { is = λ o. e; small = λ o. s; fails = λ o. absurd (subst T (sym o ∙ f) tt) }

true-is : (k : ℕ) (a b : ℤ) (t : Bool) → joined (operator_of k) (value a) (value b) ≡ value (truth t) → Worked k a b (truth t)
true-is k a b t e = whole k a b (truth t) (truth-small t) (inside-holds k (truth t) (truth-inside t)) e

side : (k : ℕ) (a b z : ℤ) → and_number ≤ k → SFits w32 z → joined (operator_of k) (value a) (value b) ≡ value z → Worked k a b z
side k a b z h s e = whole k a b z s (logic-holds k z h) e

-- a quotient or a remainder
quotients : (k : ℕ) (a b z exact : ℤ) → k < and_number → div_number ≤ k → Divided b exact z
    → (is_zero b ≡ true → joined (operator_of k) (value a) (value b) ≡ error div_zero)
    → (is_zero b ≡ false → joined (operator_of k) (value a) (value b) ≡ paper.ranged num exact)
    → Worked k a b z
unfolding failure_of
quotients k a b z exact h j d f g =
    test (is_zero b)
    (λ t. record {
      is = λ o. absurd (subst T (sym (d.none t) ∙ holds-inside k z h o) tt);
      small = λ o. absurd (subst T (sym (d.none t) ∙ holds-inside k z h o) tt);
      fails = λ o. f t ∙ ap error (sym (rw (le-leb div_number k j, failure_of) (rw t)));
    })
    (λ t. held k a b z h (rw (le-leb div_number k j, failure_of) (rw t)) (g t ∙ ap (paper.ranged num) (sym (d.is t))))

-- the result is what the machine reads back
worked-as : (k j : ℕ) (a b y z : ℤ) → k ≡ j → y ≡ z → Worked j a b z → Worked k a b y
worked-as k j a b y z p q w = rw (p, q) w

module _ (number : ℕ) (a b : ℤ) (sa : SFits w64 a) (sb : SFits w64 b) (fa : SFits w32 a) (fb : SFits w32 b) where
  pub work-add : number ≡ 0 → Worked number a b (read (read a +ℤ read b))
  unfolding joined known combined operated add operator_of operators failure_of
  work-add k =
      worked-as number 0 a b (read (read a +ℤ read b)) (a +ℤ b) k (to_z-of_z (sum_fits a b sa sb fa fb) ∙ ap₂ ◌+ℤ◌ (to_z-of_z sa) (to_z-of_z sb))
      (held 0 a b (a +ℤ b) (omega arith) refl refl)

  pub work-subtract : number ≡ 1 → Worked number a b (read (read a -ℤ read b))
  unfolding joined known combined operated subtract operator_of operators failure_of
  work-subtract k =
      worked-as number 1 a b (read (read a -ℤ read b)) (a -ℤ b) k (to_z-of_z (difference-fits a b sa sb fa fb) ∙ ap₂ ◌-ℤ◌ (to_z-of_z sa) (to_z-of_z sb))
      (held 1 a b (a -ℤ b) (omega arith) refl refl)

  pub work-multiply : number ≡ 2 → Worked number a b (read (read a *ℤ read b))
  unfolding joined known combined operated multiply operator_of operators failure_of
  work-multiply k =
      worked-as number 2 a b (read (read a *ℤ read b)) (a *ℤ b) k (to_z-of_z (product-fits a b sa sb fa fb) ∙ ap₂ ◌*ℤ◌ (to_z-of_z sa) (to_z-of_z sb))
      (held 2 a b (a *ℤ b) (omega arith) refl refl)

  module _ (z : ℤ) (s : SFits w64 z) where
    pub work-divide : number ≡ div_number → Divided (read b) (quot_z (read a) (read b)) z → Worked number a b (read z)
    unfolding joined known combined operated divide operator_of operators
    work-divide k d =
        worked-as number div_number a b (read z) z k (to_z-of_z s)
        (quotients div_number a b z (quot_z a b) (omega arith) (omega arith) (rw (to_z-of_z sa, to_z-of_z sb) at d) (λ t. rw (t, divide)) (λ t. rw (t, divide)))

    pub work-modulo : number ≡ 4 → Divided (read b) (rem_z (read a) (read b)) z → Worked number a b (read z)
    unfolding joined known combined operated modulo operator_of operators
    work-modulo k d =
        worked-as number 4 a b (read z) z k (to_z-of_z s)
        (quotients 4 a b z (rem_z a b) (omega arith) (omega arith) (rw (to_z-of_z sa, to_z-of_z sb) at d) (λ t. rw (t, modulo)) (λ t. rw (t, modulo) (ap (paper.ranged num) (rem_is a b))))

    pub work-both : number ≡ and_number → Worked and_number (read a) (read b) z → Worked number a b (read z)
    work-both k w = worked-as number and_number a b (read z) z k (to_z-of_z s) (rw (to_z-of_z sa, to_z-of_z sb) at w)

    pub work-either : number ≡ or_number → Worked or_number (read a) (read b) z → Worked number a b (read z)
    work-either k w = worked-as number or_number a b (read z) z k (to_z-of_z s) (rw (to_z-of_z sa, to_z-of_z sb) at w)

    module _ (t : Bool) where
      -- what a comparison's function told, of a and b themselves
      less-is : t ≡ lt_z (read a) (read b) → t ≡ lt_z a b
      less-is e = e ∙ rw (to_z-of_z sa, to_z-of_z sb)

      more-is : t ≡ lt_z (read b) (read a) → t ≡ lt_z b a
      more-is e = e ∙ rw (to_z-of_z sa, to_z-of_z sb)

      same-is : t ≡ same (read a) (read b) → t ≡ same a b
      same-is e = e ∙ rw (to_z-of_z sa, to_z-of_z sb)

      told-by : (k : ℕ) (u c : Bool) → number ≡ k → z ≡ truth u → u ≡ c → joined (operator_of k) (value a) (value b) ≡ value (truth c) → Worked number a b (read z)
      told-by k u c e q h j = worked-as number k a b (read z) (truth u) e (to_z-of_z s ∙ q) (true-is k a b u (j ∙ ap (λ (x : Bool). value (truth x)) (sym h)))

      pub work-less : number ≡ 5 → t ≡ lt_z (read a) (read b) → z ≡ truth t → Worked number a b (read z)
      unfolding joined known combined operated operator_of operators
      work-less k e q = told-by 5 t (lt_z a b) k q (less-is e) refl

      pub work-less-equal : number ≡ 6 → t ≡ lt_z (read b) (read a) → z ≡ truth (not t) → Worked number a b (read z)
      unfolding joined known combined operated operator_of operators
      work-less-equal k e q = told-by 6 (not t) (le_z a b) k q (ap not (more-is e) ∙ not-less a b) refl

      pub work-greater : number ≡ 7 → t ≡ lt_z (read b) (read a) → z ≡ truth t → Worked number a b (read z)
      unfolding joined known combined operated operator_of operators
      work-greater k e q = told-by 7 t (lt_z b a) k q (more-is e) refl

      pub work-greater-equal : number ≡ 8 → t ≡ lt_z (read a) (read b) → z ≡ truth (not t) → Worked number a b (read z)
      unfolding joined known combined operated operator_of operators
      work-greater-equal k e q = told-by 8 (not t) (le_z b a) k q (ap not (less-is e) ∙ not-less b a) refl

      pub work-equal : number ≡ 9 → t ≡ same (read a) (read b) → z ≡ truth t → Worked number a b (read z)
      unfolding joined known combined operated operator_of operators
      work-equal k e q = told-by 9 t (same a b) k q (same-is e) refl

      -- <> and XOR
      differs : (k : ℕ) → number ≡ k → joined (operator_of k) (value a) (value b) ≡ value (truth (not (same a b))) → t ≡ same (read a) (read b) → z ≡ truth (not t) → Worked number a b (read z)
      differs k h j e q = told-by k (not t) (not (same a b)) h q (ap not (same-is e)) j

      pub work-unequal : number ≡ 10 → t ≡ same (read a) (read b) → z ≡ truth (not t) → Worked number a b (read z)
      unfolding joined known combined operated operator_of operators
      work-unequal k e q = differs 10 k refl e q

      pub work-xor : number ≡ 11 → t ≡ same (read a) (read b) → z ≡ truth (not t) → Worked number a b (read z)
      unfolding joined known combined operated operator_of operators
      work-xor k e q = differs 11 k refl e q

      pub work-past : 14 ≤ number → t ≡ same (read a) (read b) → z ≡ truth (not t) → Worked number a b (read z)
      unfolding joined known combined operated
      work-past k e q = differs number refl (rw (past-last number k)) e q

      pub work-14 : number ≡ 14 → t ≡ same (read a) (read b) → z ≡ truth (not t) → Worked number a b (read z)
      work-14 k e q = work-past (omega arith) e q

      pub work-15 : number ≡ 15 → t ≡ same (read a) (read b) → z ≡ truth (not t) → Worked number a b (read z)
      work-15 k e q = work-past (omega arith) e q

      pub work-rest : (number ≡ 0 → ⊥) → (number ≡ 1 → ⊥) → (number ≡ 2 → ⊥) → (number ≡ 3 → ⊥) → (number ≡ 4 → ⊥) → (number ≡ 5 → ⊥) → (number ≡ 6 → ⊥) → (number ≡ 7 → ⊥)
          → (number ≡ 8 → ⊥) → (number ≡ 9 → ⊥) → (number ≡ 10 → ⊥) → (number ≡ 11 → ⊥) → (number ≡ and_number → ⊥) → (number ≡ or_number → ⊥)
          → t ≡ same (read a) (read b) → z ≡ truth (not t) → Worked number a b (read z)
      work-rest n0 n1 n2 n3 n4 n5 n6 n7 n8 n9 n10 n11 n12 n13 e q = work-past (past_of number n0 n1 n2 n3 n4 n5 n6 n7 n8 n9 n10 n11 n12 n13) e q

-- ---- AND and OR
module _ (a b : ℤ) (sa : SFits w64 a) (sb : SFits w64 b) (fa : SFits w32 a) (fb : SFits w32 b) (t : Bool) (e : t ≡ is_zero (read a)) where
  left_is : (u : Bool) → t ≡ u → is_zero a ≡ u
  left_is u h = rw (to_z-of_z sa) at (sym e ∙ h)

  pub both_left : t ≡ true → Worked and_number a b (read a)
  unfolding joined known combined operated operator_of operators
  both_left h = rw (to_z-of_z sa) (side and_number a b a (omega arith) fa (rw (left_is true h, joined)))

  pub both_right : t ≡ false → Worked and_number a b (read b)
  unfolding joined known combined operated operator_of operators
  both_right h = rw (to_z-of_z sb) (side and_number a b b (omega arith) fb (rw (left_is false h, joined)))

  pub either-right : t ≡ true → Worked or_number a b (read b)
  unfolding joined known combined operated operator_of operators
  either-right h = rw (to_z-of_z sb) (side or_number a b b (omega arith) fb (rw (left_is true h, joined)))

  pub either_left : t ≡ false → Worked or_number a b (read a)
  unfolding joined known combined operated operator_of operators
  either_left h = rw (to_z-of_z sa) (side or_number a b a (omega arith) fa (rw (left_is false h, joined)))

-- ---- AND and OR, where the left side does not tell the answer
right-of-and : (a : ℤ) (b : Value) → known (operator_of and_number) (value a) ≡ false → joined (operator_of and_number) (value a) b ≡ b
unfolding joined combined operated operator_of operators
right-of-and a (value b) h = rw (h, joined)
right-of-and a (error e) h = rw (h, joined)

right-of-or : (a : ℤ) (b : Value) → known (operator_of or_number) (value a) ≡ false → joined (operator_of or_number) (value a) b ≡ b
unfolding joined combined operated operator_of operators
right-of-or a (value b) h = rw (h, joined)
right-of-or a (error e) h = rw (h, joined)

skips-as : (k j : ℕ) → k ≡ j → ((a : ℤ) (b : Value) → known (operator_of j) (value a) ≡ false → joined (operator_of j) (value a) b ≡ b)
    → (a : ℤ) (b : Value) → known (operator_of k) (value a) ≡ false → joined (operator_of k) (value a) b ≡ b
skips-as k j e f a b = subst (λ (i : ℕ). known (operator_of i) (value a) ≡ false → joined (operator_of i) (value a) b ≡ b) (sym e) (f a b)

pub skips_is : (k : ℕ) → 12 ≤ k → k ≤ 13 → Skips k true
skips_is k low high = record {
  right = λ q. by-same k 12 (λ e. skips-as k 12 e right-of-and) (λ n. skips-as k 13 (omega (arith, n)) right-of-or);
  plain = λ q. absurd (subst T q tt);
}

pub skips_none : (k : ℕ) → (k ≡ 12 → ⊥) → (k ≡ 13 → ⊥) → Skips k false
skips_none k n m = record { right = λ q. absurd (subst T (sym q) tt); plain = λ q a. sym (known-none k a n m) }

-- ---- what an operator gives, by what was worked out
module _ (number : ℕ) (a b : ℤ) (sa : SFits w64 a) (sb : SFits w64 b) (z : ℤ) (sz : SFits w64 z) (k : Worked number (read a) (read b) z) (t : Bool) (e : t ≡ failing number (read z)) where
  sides : joined (operator_of number) (value (read a)) (value (read b)) ≡ joined (operator_of number) (value a) (value b)
  sides = rw (to_z-of_z sa, to_z-of_z sb)

  fails-as : (u : Bool) → t ≡ u → failing number z ≡ u
  fails-as u h = rw (to_z-of_z sz) at (sym e ∙ h)

  pub combine-value : t ≡ false → Gives (joined (operator_of number) (value a) (value b)) (read z)
  combine-value h =
      rw (to_z-of_z sz)
      (gives_as (value z) (joined (operator_of number) (value a) (value b)) z (sym (k.is (fails-as false h)) ∙ sides) (gives-value z (k.small (fails-as false h))))

  pub combine-error : t ≡ true → (f : ℤ) → SFits w64 f → Gives (error (failure_of number (read b))) f → Gives (joined (operator_of number) (value a) (value b)) (read f)
  combine-error h f s g =
      rw (to_z-of_z s) (gives_as (error (failure_of number (read b))) (joined (operator_of number) (value a) (value b)) f (sym (k.fails (fails-as true h)) ∙ sides) g)

-- ---- NOT and the signs
module _ (op : ℕ) (a : ℤ) (sa : SFits w64 a) (sm : Small a) (t : Bool) (e : t ≡ lt_z (read a) (pos first_error)) where
  module _ (h : t ≡ true) where
    val : decoded a ≡ value a
    val = is-value a (told a t true sa e h)

    fit : SFits w32 a
    fit = sm (told a t true sa e h)

    pub apply-not : op ≡ 7 → (b : Bool) → b ≡ is_zero (read a) → (z : ℤ) → SFits w64 z → z ≡ truth b → Gives (applied (prefix_in op) (decoded a)) (read z)
    unfolding applied prefix_in
    apply-not k b q z s r =
        rw (to_z-of_z s, r) (gives_as (value (truth b)) (applied (prefix_in op) (decoded a)) (truth b)
        (rw (val, k) (ap (λ (c : Bool). value (truth c)) (rw (to_z-of_z sa) at q))) (gives-value (truth b) (truth-small b)))

    negated : pos 0 -ℤ read a ≡ neg_ℤ a
    negated = +ℤ_idl (neg_ℤ (read a)) ∙ ap neg_ℤ (to_z-of_z sa)

    pub negative_fits : SFits w64 (pos 0 -ℤ read a)
    negative_fits = rw negated (wide (neg_ℤ a) (omega (arith, abs_neg a, abs-size a fit)))

    module _ (k : op ≡ 9) (b : Bool) (q : b ≡ outside (read (pos 0 -ℤ read a))) where
      minus_is : (u : Bool) → b ≡ u → outside (neg_ℤ a) ≡ u
      minus_is u r = sym (q ∙ ap outside (to_z-of_z negative_fits ∙ negated)) ∙ r

      applies : applied (prefix_in op) (decoded a) ≡ paper.ranged num (neg_ℤ a)
      unfolding applied prefix_in paper.minus
      applies = rw (val, k)

      pub apply-over : b ≡ true → Gives (applied (prefix_in op) (decoded a)) (pos (first_error + overflow))
      apply-over r = gives_as (error overflow) (applied (prefix_in op) (decoded a)) (pos (first_error + overflow)) (sym (applies ∙ ranged-outside (neg_ℤ a) (minus_is true r))) (gives-error overflow)

      pub apply-minus : b ≡ false → Gives (applied (prefix_in op) (decoded a)) (read (pos 0 -ℤ read a))
      apply-minus r =
          rw (to_z-of_z negative_fits, negated)
          (gives_as (value (neg_ℤ a)) (applied (prefix_in op) (decoded a)) (neg_ℤ a) (sym (applies ∙ ranged-inside (neg_ℤ a) (minus_is false r))) (gives-value (neg_ℤ a) (inside-small (neg_ℤ a) (minus_is false r))))

    pub apply-none : (op ≡ 7 → ⊥) → (op ≡ 9 → ⊥) → Gives (applied (prefix_in op) (decoded a)) (read a)
    unfolding applied prefix_in
    apply-none p q = rw (to_z-of_z sa) (rw val (rw (ne_eqb op 7 p, prefix_in) (rw (ne_eqb op 9 q) (gives-value a fit))))

  pub apply-error : t ≡ false → Gives (applied (prefix_in op) (decoded a)) (read a)
  unfolding applied
  apply-error h = rw (to_z-of_z sa) (gives_as (decoded a) (applied (prefix_in op) (decoded a)) a (rw (is-error a (told a t false sa e h))) (gives_same a sm))
