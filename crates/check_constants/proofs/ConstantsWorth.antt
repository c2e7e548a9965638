-- From the check of an expression and its evaluation to what a constant expression is worth, and to its faults.
use mathlib.Core.Path.{◌≡◌, refl, sym, ap, subst, ◌∙◌}
use mathlib.Core.Bool.{Bool, true, false}
use mathlib.Core.List.{List, [], ◌∷◌}
use mathlib.Core.Option.{Option, none, some}
use Prim.Native.Nat.{ℕ, suc, ◌-◌, ◌%◌, ◌<◌, ◌≤◌}
use native.Mathlib.Omega.{arith}
use lib.Dec.{T}
use lib.IntN.{ℤ, pos, negsuc, nat_abs}
use lib.Signed.{lt_z, non_neg}
use mir.Syntax.{w64}
use mir.Val.{SFits}
use mir.Facts.{to_z-of_z}
use borrow.Author.Tests.{ltb-false}
use Rattle.laws.proofs.Tests.{test, apart, false-true}
use Rattle.std.specs.Prelude.{Ok, Err}
use Rattle.paper.specs.Words.{Word}
use Rattle.paper.specs.Numbers.{Value, value, error}
use Rattle.paper.specs.Terms.{Memory, Term, worth}
use Rattle.paper.specs.Trees.{Expr, first}
use Rattle.paper.specs.Names.{DataType, a_num, Scopes, sort_in}
use Rattle.paper.specs.Types.{Fault, fault, fault_if, wanted, differs, judge, constant_worth, constant_faults, constant_value, size_of, value_or0, raises_error, is_no_size, element_limit}
use Rattle.store_cells.specs.Cells.{cells_of}
use Rattle.climb.proofs.Places.{spans-first, stands}
use Rattle.code.specs.Cells.{first_window}
use Rattle.layout.specs.Rules.{wrong_type, no_value}
use Rattle.layout.specs.Broken.{as_fault}
use Rattle.layout.specs.declared.rules.Breach.{Breach}
use Rattle.layout.specs.declared.rules.Rule.TheVariants.{NoValue}
use Rattle.layout.specs.Types.{type_in}
use Rattle.layout.specs.declared.types.ValueType.{ValueType}
use Rattle.layout.specs.declared.types.ValueType.TheVariants.{Num}
use Rattle.store_evaluation.specs.Answers.{first_error, decoded, Counts, Stores, Evaluated}
use Rattle.store_evaluation.specs.Answers as evaluation
use Rattle.store_evaluation.proofs.Numbers.{is-value, is-error}
use Rattle.store_numbers.proofs.Whole.{read}
use Rattle.faults.specs.First.{Every, no-fault, ◌also◌, Inside, First}
use Rattle.faults.proofs.First.{every_one, widen, ranks, leads-same-if, first-fault, first-rising, first-left, first_alone}
use Rattle.check_expressions.specs.Judgements.{Judged}
use Rattle.store_writing.specs.Promises.{Kept}
use Rattle.check_expressions.specs.Answers.{Sound, of_type, Typed}
use Rattle.check_expressions.proofs.FaultsOfParts.{append-none}
use Rattle.check_expressions.proofs.Order.{Rising, rising-wanted}
use Rattle.check_expressions.proofs.Around.{says-faulty}
use Rattle.check_expressions.proofs.Callers.{of-type-typed}
use Rattle.check_constants.specs.Sizing.{Valued}
use Rattle.check_constants.specs.Answers.{InNum, Worth, Asks, Right, Says, Values, SaysSize, Sizes}
use Rattle.check_constants.proofs.NumbersHeld.{in-num-64}
use Rattle.check_constants.proofs.Terms.{Constantly, none_left, none_right, some-fault, wanted-clean, constantly, constantly-same, constantly-held}

-- ---- faults that rise
rising_inside : (low high : ℕ) (l : List Fault) → Rising low high l → Inside low high l
unfolding Rising
rising_inside low high [] r = no-fault
rising_inside low high (f ∷ l) r = record { low = r.0; high = r.1 } also widen (rising_inside (suc f.at) high l r.2) (omega (arith, r.0)) (omega arith)

pub rising-first : (low high : ℕ) (f : Fault) (others fs : List Fault) → fs ≡ f ∷ others → Rising low high fs → First f fs
unfolding Rising
rising-first low high f others fs e r =
    let s : Rising low high (f ∷ others) = subst (Rising low high) e r in
    first-rising f others fs high e (rising_inside (suc f.at) high others s.2)

-- a fault at a word that comes before "15" there
record Early (i : ℕ) (f : Fault) : Type 0 where
  at-is : f.at ≡ i
  low : f.number ≤ no_value

early-if : (b : Bool) (i : ℕ) → Every (Early i) (fault_if b wrong_type i)
unfolding fault_if fault
early-if true i = ◌also◌ {f = record { number = wrong_type; at = i }} (record { at-is = refl; low = omega arith }) no-fault
early-if false i = no-fault

-- ---- a constant expression, by what is judged of it
module _ (W : List Word) (S : Scopes) (M : Memory) (e : Expr) where
  worth-none : (f : Fault) (r : List Fault) → (judge W true S e).faults ≡ f ∷ r → constant_worth W S M e ≡ none
  unfolding constant_worth
  worth-none f r h = rw (h, constant_worth)

  worth-some : (judge W true S e).faults ≡ [] → constant_worth W S M e ≡ some (worth M (judge W true S e).term)
  unfolding constant_worth
  worth-some h = rw (h, constant_worth)

  module _ (t : DataType) (bad : Option Value → Bool) where
    faults-clean : wanted t (first e) (judge W true S e) ≡ [] → bad (constant_worth W S M e) ≡ false → constant_faults W bad t S M e ≡ []
    unfolding constant_faults fault_if
    faults-clean h g = rw (h, g, constant_faults)

    faults-bad : wanted t (first e) (judge W true S e) ≡ [] → bad (constant_worth W S M e) ≡ true → constant_faults W bad t S M e ≡ fault no_value (first e)
    unfolding constant_faults fault_if
    faults-bad h g = rw (h, g, constant_faults)

    clean-wanted : constant_faults W bad t S M e ≡ [] → wanted t (first e) (judge W true S e) ≡ []
    unfolding constant_faults
    clean-wanted h = none_left _ _ h

    clean-calm : constant_faults W bad t S M e ≡ [] → bad (constant_worth W S M e) ≡ false
    unfolding constant_faults fault_if fault
    clean-calm h =
        test (bad (constant_worth W S M e))
        (λ u. some-fault _ _ (none_right (wanted t (first e) (judge W true S e)) _ (rw (u, constant_faults) at h)))
        (λ u. u)

    -- what comes first of the faults that it has as an expression of a type: "15" is not tested where it has faults of its own
    pub wanted-leads : bad none ≡ false → (f : Fault) → First f (wanted t (first e) (judge W true S e)) → First f (constant_faults W bad t S M e)
    unfolding constant_faults fault_if wanted
    wanted-leads calm f h = by-faults (judge W true S e).faults refl
      where
        by-faults : (l : List Fault) → (judge W true S e).faults ≡ l → First f (constant_faults W bad t S M e)
        by-faults (g ∷ r) q = first_alone h (rw (worth-none g r q) (rw calm refl))
        by-faults [] q =
            let w : wanted t (first e) (judge W true S e) ≡ fault_if (differs t (judge W true S e).type) wrong_type (first e) = rw (q, wanted) in
            let y : Early (first e) f = every_one (early-if (differs t (judge W true S e).type) (first e)) (subst (First f) w h).among in
            first-left h (leads-same-if f (bad (constant_worth W S M e)) no_value (first e) y.at-is (ranks f.number no_value (omega arith) y.low))

-- ---- an answer
raises-value : (z : ℤ) (x : Option Value) → x ≡ some (value z) → raises_error x ≡ false
unfolding raises_error
raises-value z x h = rw h

raises-error : (k : ℕ) (x : Option Value) → x ≡ some (error k) → raises_error x ≡ true
unfolding raises_error
raises-error k x h = rw h

pub stores : (code values : List ℕ) (at : ℕ) → Asks code values at → Stores values first_window
stores code values at a = let l = a.stands.known.table in record { words = omega (arith, l); call = omega (arith, l); number = a.number }

module _ (code values after : List ℕ) (wants : ValueType) (at : ℕ) (j : Judged) (o : Typed code values after true wants at j) where
  first_word : (a : Asks code values at) → first a.stands.e ≡ at
  first_word a = spans-first a.stands.e at a.stands.to (stands (sort_in a.stands.known.W) a.stands.d 5 at (a.stands.e, a.stands.to) a.stands.is)

  kept-all : (a : Asks code values at) → Kept code after at a.stands.to
  kept-all a = (o.is a.stands (type_in wants) refl).kept

  pub answers-faulty : (broken : Breach) → j ≡ Err broken → Values code values after wants at (Err broken)
  unfolding Says raises_error
  answers-faulty broken q = record {
    says = λ a t w.
        let W = a.stands.known.W in
        let S = a.stands.known.S in
        let e = a.stands.e in
        let f = says-faulty _ _ _ _ _ _ j broken q (o.is a.stands t w).says in
        let s = stands (sort_in W) a.stands.d 5 at (e, a.stands.to) a.stands.is in
        wanted-leads W S a.M e t raises_error refl (as_fault broken)
        (rising-first at a.stands.to (as_fault broken) f.others _ f.faults-are (rising-wanted W true S t e at a.stands.to s));
    kept = kept-all;
  }

  module _ (type : ValueType) (next : ℕ) (typed : j ≡ Ok (type, next)) where
    counts : Asks code values at → Counts
    counts a = record { m = a.stands.known.m; n = a.stands.known.n; most = a.stands.known.most; window = a.window }

    term-of : Asks code values at → Term
    term-of a = (judge a.stands.known.W true a.stands.known.S a.stands.e).term

    module _ (t : DataType) (w : type_in wants ≡ t) where
      sound : (a : Asks code values at) → Sound a.stands.known.m a.stands.known.n (cells_of after) at a.stands.to
          (of_type t (first a.stands.e) (judge a.stands.known.W true a.stands.known.S a.stands.e)) type next
      sound a = of-type-typed code values after true at j wants t w a.stands o type next typed

      clean : (a : Asks code values at) → (judge a.stands.known.W true a.stands.known.S a.stands.e).faults ≡ []
      clean a = wanted-clean t (first a.stands.e) _ (sound a).none

    stands-there : (a : Asks code values at) → evaluation.term_of (counts a) after at next ≡ some (term-of a)
    unfolding counts term-of
    stands-there a = let k = sound (type_in wants) refl a in subst (λ (k : ℕ). evaluation.term_of (counts a) after at k ≡ some (term-of a)) (sym k.next-is) k.stands

    pub evaluable : Asks code values at → evaluation.Stands after at next
    evaluable a =
        record { c = counts a; t = term-of a; is = stands-there a; whole = ap (λ (x : ℕ). x % 8) (kept-all a).long ∙ a.stands.loaded.whole }

    module _ (v : ℤ) (x : Evaluated after values first_window at next v) (s : SFits w64 v) where
      constant-only : (a : Asks code values at) → Constantly (Worth a.stands.known.m a.stands.known.n (cells_of values) a.M) (term-of a)
      unfolding term-of
      constant-only a =
          constantly a.stands.known.m a.stands.known.n (cells_of values) a.M a.stands.known.W a.stands.known.S a.stands.known.small a.fine a.stands.e (clean (type_in wants) refl a)

      worth-is : (a : Asks code values at) → constant_worth a.stands.known.W a.stands.known.S a.M a.stands.e ≡ some (decoded v)
      unfolding counts term-of
      worth-is a =
          worth-some a.stands.known.W a.stands.known.S a.M a.stands.e (clean (type_in wants) refl a)
          ∙ ap some (constantly-same a.stands.known.m a.stands.known.n (cells_of values) a.M (term-of a) (constant-only a) ∙ sym (x.is (counts a) (term-of a) (stands-there a)))

      held : (a : Asks code values at) → decoded v ≡ value v → InNum v
      unfolding counts term-of
      held a d =
          (constantly-held a.stands.known.m a.stands.known.n (cells_of values) a.M (term-of a) (constant-only a)
          ).holds v (constantly-same a.stands.known.m a.stands.known.n (cells_of values) a.M (term-of a) (constant-only a) ∙ sym (x.is (counts a) (term-of a) (stands-there a)) ∙ d)

      pub answers-value : lt_z (read v) (pos first_error) ≡ true → Values code values after wants at (Ok (read v, next))
      unfolding Says constant_value value_or0
      answers-value h =
          let r : read v ≡ v = to_z-of_z s in
          let d : decoded v ≡ value v = is-value v (rw r at h) in
          record {
            says = λ a t w.
                let W = a.stands.known.W in
                let S = a.stands.known.S in
                let e = a.stands.e in
                let e-worth = worth-is a ∙ ap some d in
                record {
                  none = faults-clean W S a.M e t raises_error (sound t w a).none (raises-value v _ e-worth);
                  is = r ∙ sym (ap value_or0 e-worth);
                  ranged = rw r (held a d);
                  next-is = (sound t w a).next-is;
                };
            kept = kept-all;
          }

      pub answers-error : lt_z (read v) (pos first_error) ≡ false → Values code values after wants at (Err (record { rule = NoValue; word = at }))
      unfolding Says
      answers-error h =
          let r : read v ≡ v = to_z-of_z s in
          let d : decoded v ≡ error (nat_abs v - first_error) = is-error v (rw r at h) in
          record {
            says = λ a t w.
                let W = a.stands.known.W in
                let S = a.stands.known.S in
                let e = a.stands.e in
                let q : constant_faults W raises_error t S a.M e ≡ fault no_value at =
                faults-bad W S a.M e t raises_error (sound t w a).none (raises-error (nat_abs v - first_error) _ (worth-is a ∙ ap some d)) ∙ ap (fault no_value) (first_word a) in
                subst (First (record { number = no_value; at = at })) (sym q) (first-fault no_value at);
            kept = kept-all;
          }

-- ---- sizes
calm-none : is_no_size none ≡ false
unfolding is_no_size
calm-none = refl

error-no-size : (x : Option Value) → raises_error x ≡ true → is_no_size x ≡ true
unfolding raises_error is_no_size
error-no-size none h = false-true h
error-no-size (some (value z)) h = false-true h
error-no-size (some (error k)) h = refl

-- what is worth nothing that raises no error is a value
value_of : (x : Option Value) (y : Value) → x ≡ some y → raises_error x ≡ false → x ≡ some (value (value_or0 x))
unfolding raises_error value_or0
value_of none y h g = apart (cc)
value_of (some (value z)) y h g = refl
value_of (some (error k)) y h g = false-true (sym g)

no-size-low : (x : Option Value) (z : ℤ) → x ≡ some (value z) → lt_z z (pos 1) ≡ true → is_no_size x ≡ true
unfolding is_no_size
no-size-low x z e h = rw e (rw h refl)

no-size-high : (x : Option Value) (z : ℤ) → x ≡ some (value z) → lt_z z (pos 1) ≡ false → lt_z (pos element_limit) z ≡ true → is_no_size x ≡ true
unfolding is_no_size
no-size-high x z e h g = rw e (rw h g)

a-size : (x : Option Value) (z : ℤ) → x ≡ some (value z) → lt_z z (pos 1) ≡ false → lt_z (pos element_limit) z ≡ false → is_no_size x ≡ false
unfolding is_no_size
a-size x z e h g = rw e (rw h g)

module _ (W : List Word) (S : Scopes) (M : Memory) (e : Expr) where
  size-first : (t : DataType) (f : Fault) → First f (constant_faults W raises_error t S M e) → First f (constant_faults W is_no_size t S M e)
  unfolding constant_faults fault_if
  size-first t f h =
      test (raises_error (constant_worth W S M e))
      (λ u. let q : constant_faults W raises_error t S M e ≡ constant_faults W is_no_size t S M e = rw (u, error-no-size (constant_worth W S M e) u, constant_faults) in subst (First f) q h)
      (λ u. let q : constant_faults W raises_error t S M e ≡ wanted t (first e) (judge W true S e) = rw (u, constant_faults) (append-none (wanted t (first e) (judge W true S e))) in
      wanted-leads W S M e t is_no_size calm-none f (subst (First f) q h))

  size_is : constant_faults W is_no_size a_num S M e ≡ [] → size_of W S M e ≡ nat_abs (constant_value W S M e)
  unfolding size_of
  size_is h = rw (h, size_of)

-- numbers of an array's size
size_number : (z : ℤ) → lt_z z (pos 1) ≡ false → lt_z (pos element_limit) z ≡ false → (0 < nat_abs z) × (nat_abs z ≤ element_limit) × T (non_neg z)
size_number (pos n) h g = (omega (arith, ltb-false n 1 h), ltb-false element_limit n g, tt)
size_number (negsuc n) h g = false-true (sym h)

says-valued : (W : List Word) (t : DataType) (S : Scopes) (M : Memory) (e : Expr) (to : ℕ) (c : Valued) (v : ℤ) (next : ℕ) → c ≡ Ok (v, next) → Says W t S M e to c → Right W t S M e to v next
unfolding Says
says-valued W t S M e to c v next q s = subst (Says W t S M e to) q s

says_first : (W : List Word) (t : DataType) (S : Scopes) (M : Memory) (e : Expr) (to : ℕ) (c : Valued) (broken : Breach) → c ≡ Err broken → Says W t S M e to c
    → First (as_fault broken) (constant_faults W raises_error t S M e)
unfolding Says
says_first W t S M e to c broken q s = subst (Says W t S M e to) q s

module _ (code values after : List ℕ) (at : ℕ) (c : Valued) (o : Values code values after Num at c) where
  pub size-faulty : (broken : Breach) → c ≡ Err broken → Sizes code values after at (Err broken)
  unfolding SaysSize
  size-faulty broken q = record {
    says = λ a. size-first a.stands.known.W a.stands.known.S a.M a.stands.e a_num (as_fault broken)
        (says_first a.stands.known.W a_num a.stands.known.S a.M a.stands.e a.stands.to c broken q (o.says a a_num refl));
    kept = o.kept;
  }

  module _ (v : ℤ) (next : ℕ) (q : c ≡ Ok (v, next)) where
    right : (a : Asks code values at) → Right a.stands.known.W a_num a.stands.known.S a.M a.stands.e a.stands.to v next
    right a = says-valued a.stands.known.W a_num a.stands.known.S a.M a.stands.e a.stands.to c v next q (o.says a a_num refl)

    pub value-fits : Asks code values at → SFits w64 v
    value-fits a = in-num-64 v (right a).ranged

    clean-wants : (a : Asks code values at) → wanted a_num (first a.stands.e) (judge a.stands.known.W true a.stands.known.S a.stands.e) ≡ []
    clean-wants a = clean-wanted a.stands.known.W a.stands.known.S a.M a.stands.e a_num raises_error (right a).none

    value-is : (a : Asks code values at) → constant_worth a.stands.known.W a.stands.known.S a.M a.stands.e ≡ some (value v)
    unfolding constant_value
    value-is a =
        let W = a.stands.known.W in
        let S = a.stands.known.S in
        let e = a.stands.e in
        let k = wanted-clean a_num (first e) (judge W true S e) (clean-wants a) in
        value_of (constant_worth W S a.M e) _ (worth-some W S a.M e k) (clean-calm W S a.M e a_num raises_error (right a).none) ∙ ap (λ (z : ℤ). some (value z)) (sym (right a).is)

    no_size : ((a : Asks code values at) → is_no_size (constant_worth a.stands.known.W a.stands.known.S a.M a.stands.e) ≡ true) → Sizes code values after at (Err (record { rule = NoValue; word = at }))
    unfolding SaysSize
    no_size bad = record {
      says = λ a.
          let W = a.stands.known.W in
          let S = a.stands.known.S in
          let e = a.stands.e in
          let first-at = spans-first e at a.stands.to (stands (sort_in W) a.stands.d 5 at (e, a.stands.to) a.stands.is) in
          let g : constant_faults W is_no_size a_num S a.M e ≡ fault no_value at = faults-bad W S a.M e a_num is_no_size (clean-wants a) (bad a) ∙ ap (fault no_value) first-at in
          subst (First (record { number = no_value; at = at })) (sym g) (first-fault no_value at);
      kept = o.kept;
    }

    pub size_low : lt_z (read v) (pos 1) ≡ true → Sizes code values after at (Err (record { rule = NoValue; word = at }))
    size_low h = no_size (λ a. no-size-low _ v (value-is a) (rw (to_z-of_z (value-fits a)) at h))

    pub size-high : lt_z (read v) (pos 1) ≡ false → lt_z (pos element_limit) (read v) ≡ true → Sizes code values after at (Err (record { rule = NoValue; word = at }))
    size-high h g = no_size (λ a. no-size-high _ v (value-is a) (rw (to_z-of_z (value-fits a)) at h) (rw (to_z-of_z (value-fits a)) at g))

    module _ (h : lt_z (read v) (pos 1) ≡ false) (g : lt_z (pos element_limit) (read v) ≡ false) where
      pub size-fine : Sizes code values after at (Ok (nat_abs (read v), next))
      unfolding SaysSize
      size-fine = record {
        says = λ a.
            let W = a.stands.known.W in
            let S = a.stands.known.S in
            let e = a.stands.e in
            let r : read v ≡ v = to_z-of_z (value-fits a) in
            let n = size_number (read v) h g in
            let clear : constant_faults W is_no_size a_num S a.M e ≡ [] = faults-clean W S a.M e a_num is_no_size (clean-wants a) (a-size _ v (value-is a) (rw r at h) (rw r at g)) in
            record {
              none = clear;
              is = ap nat_abs (r ∙ (right a).is) ∙ sym (size_is W S a.M e clear);
              some = n.0;
              most = n.1;
              next-is = (right a).next-is;
            };
        kept = o.kept;
      }
