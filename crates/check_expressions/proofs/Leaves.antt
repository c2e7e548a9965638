-- Operands of one word: names alone and literals.
use mathlib.Core.Path.{◌≡◌, refl, sym, ap, subst, ◌∙◌}
use mathlib.Core.Bool.{Bool, true, false}
use mathlib.Core.List.{List, [], ◌∷◌}
use mathlib.Core.Option.{none, some}
use mathlib.Core.Logic.{◌⊎◌, inl, inr}
use Prim.Native.Nat.{ℕ, ◌+◌, ◌<◌, ◌≤◌}
use native.Mathlib.Omega.{arith}
use lib.Dec.{eqb}
use lib.IntN.{ℤ, pos, ◌-ℤ◌, +ℤ-neg_ℤ_cancel, pos-+ℤ-pos}
use borrow.Author.Tests.{eqb-true, eqb-false, ne_eqb, lt-ltb}
use Rattle.laws.proofs.Tests.{test, by_last, apart, false-true}
use Rattle.paper.specs.Sorts.{NUMBER, TRUE, FALSE}
use Rattle.paper.specs.Words.{Word}
use Rattle.paper.specs.Terms.{Term, literal, errno, stored, truth}
use Rattle.paper.specs.Trees.{first}
use Rattle.paper.specs.Expressions.{is_literal}
use Rattle.paper.specs.Names.{DataType, a_num, a_bool, Meaning, unknown, array_in, wrong_name, nth, sort_in}
use Rattle.paper.specs.Types.{Fault, fault, fault_if, judged, judged_nothing, wanted, judge_name, judge_element, judge_leaf}
use Rattle.paper.specs.Types as types
use Rattle.store_cells.specs.Cells.{cells_of}
use Rattle.code.specs.Cells.{op_in, value_in, head_at, errno_cell, first_window}
use Rattle.code.specs.Spans.{a_literal, a_module_slot, a_call_slot, bias, guard, module_leaf, leaf_term}
use Rattle.code.proofs.Composing.{leaf-span}
use Rattle.layout.specs.Rules.{unknown_name, wrong_kind}
use Rattle.layout.specs.Types.{type_in}
use Rattle.layout.specs.declared.types.ValueType.{ValueType}
use Rattle.layout.specs.declared.types.ValueType.TheVariants as types_told
use Rattle.check_names.specs.Meanings.{a_variable, an_array, a_constant, a_loop, a_routine, an_errno, an_error_number, kind_in, bool_in, own_in, type_with, ref_with, meaning_with, meaning_in}
use Rattle.check_names.specs.Promises.{TypeOf}
use Rattle.store_writing.specs.Promises.{Headed}
use Rattle.std.specs.Prelude.{Ok, Err, Option, Some, None}
use Rattle.std.proofs.lemmas.Option.{none-some, same_Some}
use Rattle.layout.specs.declared.rules.Breach.{Breach}
use Rattle.layout.specs.Broken.{number_of}
use Rattle.layout.specs.declared.rules.Rule.{Rule}
use Rattle.layout.specs.declared.rules.Rule.TheVariants.{UnknownName, WrongKind}
use Rattle.check_expressions.specs.Known.{largest, Fresh, InRoom, Within}
use Rattle.check_expressions.specs.Answers.{Refused, SaysUnder, JudgesUnder}
use Rattle.check_expressions.specs.Parts.{Meant, fault_of, BreaksAlone, BreaksIndexed, Alone, Literal}
use Rattle.store_writing.proofs.Keeping.{kept_same}
use Rattle.check_expressions.proofs.NoSteps.{low_same, low-written}
use Rattle.check_expressions.proofs.FaultsOfParts.{judged-faults, judged-term, judged-type}

-- ---- answers
-- nothing is written, and a rule is broken
pub judges-refused : (d m n : ℕ) (code : List ℕ) (at to : ℕ) (j : types.Judged) (broken : Breach) → Refused j broken → JudgesUnder d m n code code at to j (Err broken)
unfolding SaysUnder
judges-refused d m n code at to j broken r = record { says = r; kept = kept_same code at to; low = low_same code }

-- an operand of one word is written
pub judges-leaf : (d m n : ℕ) (before after : List ℕ) (at op value : ℕ) → Headed before after at op value → op ≤ a_call_slot
    → (j : types.Judged) (t : DataType) (fs : List Fault) (x : Term) (type : ValueType) → j ≡ judged t fs x → fs ≡ [] → type_in type ≡ t → leaf_term m n op value ≡ some x
    → JudgesUnder d m n before after at (at + 1) j (Ok (type, at + 1))
unfolding SaysUnder
judges-leaf d m n before after at op value h o j t fs x type q clean ty l = record {
  says = record {
    none = ap (λ (k : types.Judged). k.faults) q ∙ judged-faults t fs x ∙ clean;
    type-is = ty ∙ sym (ap (λ (k : types.Judged). k.type) q ∙ judged-type t fs x clean);
    next-is = refl;
    stands = leaf-span m n (cells_of after) d at x (rw h.op-is o) (rw (h.op-is, h.value-is) l) ∙ ap some (sym (judged-term t fs x) ∙ sym (ap (λ (k : types.Judged). k.term) q));
  };
  kept = h.kept;
  low = low-written before after at h.kept (omega (arith, h.op-is));
}

-- ---- leaves
module _ (m n : ℕ) where
  pub literal-term : (v : ℕ) → leaf_term m n a_literal (v + bias) ≡ some (literal (pos v))
  unfolding leaf_term
  literal-term v = ap (λ (z : ℤ). some (literal z)) (ap (λ (z : ℤ). z -ℤ pos bias) (sym (pos-+ℤ-pos v bias)) ∙ +ℤ-neg_ℤ_cancel (pos v) (pos bias))

  errno-term : leaf_term m n a_module_slot errno_cell ≡ some errno
  unfolding leaf_term module_leaf
  errno-term = refl

  word-term : (own v : ℕ) → m ≤ first_window → own < 2 → InRoom m n (ref_with own v) 1 → leaf_term m n (a_module_slot + own) v ≡ some (stored (ref_with own v))
  unfolding leaf_term module_leaf InRoom guard
  word-term own v h o r =
      by_last own 1 o
      (λ e. let k : v + 1 ≤ n = rw e at r in rw (e, lt-ltb v n (omega arith)))
      (λ e. let z : own ≡ 0 = omega arith in
      let k : v + 1 ≤ m = rw z at r in
      rw (z, ne_eqb v errno_cell (λ q. omega arith), lt-ltb v m (omega arith)))

-- ---- the rules that a name breaks
module _ (kind : ℕ) (only : Bool) where
  breaks-at : (k : ℕ) (r : Option Rule) → kind ≡ k → ((routine : ℕ → ℕ) (bool own value at : ℕ) → (judge_name only (meaning_with routine k bool own value) at).faults ≡ fault_of r at) → BreaksAlone kind only r
  breaks-at k r e f = record { is = λ routine bool own value at. ap (λ (x : ℕ). (judge_name only (meaning_with routine x bool own value) at).faults) e ∙ f routine bool own value at }

  -- a name that is written: it breaks rule 12 where only constants may stand
  written-is : (r : Option Rule) → ((at : ℕ) → fault_if only wrong_kind at ≡ fault_of r at) → (kind ≡ a_variable) ⊎ ((kind ≡ a_loop) ⊎ (kind ≡ an_errno)) → BreaksAlone kind only r
  unfolding meaning_with judge_name
  written-is r f (inl e) = breaks-at a_variable r e (λ routine bool own value at. judged-faults (type_with bool) (fault_if only wrong_kind at) (stored (ref_with own value)) ∙ f at)
  written-is r f (inr (inl e)) = breaks-at a_loop r e (λ routine bool own value at. judged-faults a_num (fault_if only wrong_kind at) (stored (ref_with own value)) ∙ f at)
  written-is r f (inr (inr e)) = breaks-at an_errno r e (λ routine bool own value at. judged-faults a_num (fault_if only wrong_kind at) errno ∙ f at)

  pub breaks-only : only ≡ true → (kind ≡ a_variable) ⊎ ((kind ≡ a_loop) ⊎ (kind ≡ an_errno)) → BreaksAlone kind only (Some WrongKind)
  unfolding fault_if fault_of
  breaks-only t e = written-is (Some WrongKind) (λ at. ap (λ (b : Bool). fault_if b wrong_kind at) t) e

  pub breaks-not : only ≡ false → (kind ≡ a_variable) ⊎ ((kind ≡ a_loop) ⊎ (kind ≡ an_errno)) → BreaksAlone kind only None
  unfolding fault_if fault_of
  breaks-not t e = written-is None (λ at. ap (λ (b : Bool). fault_if b wrong_kind at) t) e

  pub breaks-wrong : (kind ≡ an_array) ⊎ (kind ≡ a_routine) → BreaksAlone kind only (Some WrongKind)
  unfolding meaning_with judge_name judged_nothing fault fault_of judged
  breaks-wrong (inl e) = breaks-at an_array (Some WrongKind) e (λ routine bool own value at. refl)
  breaks-wrong (inr e) = breaks-at a_routine (Some WrongKind) e (λ routine bool own value at. refl)

  pub breaks-never : (kind ≡ a_constant) ⊎ (kind ≡ an_error_number) → BreaksAlone kind only None
  unfolding meaning_with judge_name fault_of judged
  breaks-never (inl e) = breaks-at a_constant None e (λ routine bool own value at. refl)
  breaks-never (inr e) = breaks-at an_error_number None e (λ routine bool own value at. refl)

  -- every kind is one of the seven, or nothing is meant
  unknown-is : (routine : ℕ → ℕ) (bool own value : ℕ) → (0 < kind → kind ≤ an_error_number → ⊥) → meaning_with routine kind bool own value ≡ unknown
  unfolding meaning_with
  unknown-is routine bool own value h =
      rw (
        ne_eqb kind a_variable (λ e. h (omega arith) (omega arith)),
        ne_eqb kind an_array (λ e. h (omega arith) (omega arith)),
        ne_eqb kind a_constant (λ e. h (omega arith) (omega arith)),
        ne_eqb kind a_loop (λ e. h (omega arith) (omega arith)),
        ne_eqb kind a_routine (λ e. h (omega arith) (omega arith)),
        ne_eqb kind an_errno (λ e. h (omega arith) (omega arith)),
        ne_eqb kind an_error_number (λ e. h (omega arith) (omega arith)),
        meaning_with,
      )

  pub breaks-unknown : (0 < kind → kind ≤ an_error_number → ⊥) → BreaksAlone kind only (Some UnknownName)
  unfolding judge_name judged_nothing fault fault_of judged
  breaks-unknown h = record { is = λ routine bool own value at. rw (unknown-is routine bool own value h) }

  -- ---- before an index
  no-array : (rule : Rule) → ((routine : ℕ → ℕ) (bool own value : ℕ) → array_in (meaning_with routine kind bool own value) ≡ none)
      → ((routine : ℕ → ℕ) (bool own value : ℕ) → wrong_name (meaning_with routine kind bool own value) ≡ number_of rule) → BreaksIndexed kind only (Some rule)
  unfolding judge_element judged_nothing fault judged
  no-array rule f g = record {
    wrong = λ a h routine bool own value at e j.
        record { others = j.faults; faults-are = rw (f routine bool own value, judge_element) (rw (g routine bool own value) (ap (λ (x : Rule). record { number = number_of x; at = at } ∷ j.faults) (same_Some rule a h))) };
    kind-is = λ z. absurd (none-some rule (sym z));
    free = λ z. absurd (none-some rule (sym z));
  }

  pub indexed-unknown : (0 < kind → kind ≤ an_error_number → ⊥) → BreaksIndexed kind only (Some UnknownName)
  unfolding array_in wrong_name
  indexed-unknown h =
      no-array UnknownName
      (λ routine bool own value. rw (unknown-is routine bool own value h))
      (λ routine bool own value. rw (unknown-is routine bool own value h))

  indexed-kind : (k : ℕ) → kind ≡ k → ((routine : ℕ → ℕ) (bool own value : ℕ) → array_in (meaning_with routine k bool own value) ≡ none)
      → ((routine : ℕ → ℕ) (bool own value : ℕ) → wrong_name (meaning_with routine k bool own value) ≡ wrong_kind) → BreaksIndexed kind only (Some WrongKind)
  indexed-kind k e f g =
      no-array WrongKind
      (λ routine bool own value. ap (λ (x : ℕ). array_in (meaning_with routine x bool own value)) e ∙ f routine bool own value)
      (λ routine bool own value. ap (λ (x : ℕ). wrong_name (meaning_with routine x bool own value)) e ∙ g routine bool own value)

  pub indexed-other : 0 < kind → kind ≤ an_error_number → (kind ≡ an_array → ⊥) → BreaksIndexed kind only (Some WrongKind)
  unfolding array_in wrong_name meaning_with
  indexed-other a h b =
      by_last kind an_error_number (omega arith) (λ e. indexed-kind an_error_number e (λ routine bool own value. refl) (λ routine bool own value. refl)) (λ h7.
      by_last kind an_errno h7 (λ e. indexed-kind an_errno e (λ routine bool own value. refl) (λ routine bool own value. refl)) (λ h6.
      by_last kind a_routine h6 (λ e. indexed-kind a_routine e (λ routine bool own value. refl) (λ routine bool own value. refl)) (λ h5.
      by_last kind a_loop h5 (λ e. indexed-kind a_loop e (λ routine bool own value. refl) (λ routine bool own value. refl)) (λ h4.
      by_last kind a_constant h4 (λ e. indexed-kind a_constant e (λ routine bool own value. refl) (λ routine bool own value. refl)) (λ h3.
      by_last kind an_array h3 (λ e. absurd (b e)) (λ h2.
      by_last kind a_variable h2 (λ e. indexed-kind a_variable e (λ routine bool own value. refl) (λ routine bool own value. refl)) (λ h1. absurd (omega arith))))))))

  pub indexed-only : kind ≡ an_array → only ≡ true → BreaksIndexed kind only (Some WrongKind)
  unfolding array_in judge_element meaning_with fault_if fault
  indexed-only e t = record {
    wrong = λ a h routine bool own value at x j.
        record { others = wanted a_num (first x) j; faults-are = rw (e, t) (judged-faults _ _ _) ∙ ap (λ (y : Rule). record { number = number_of y; at = at } ∷ wanted a_num (first x) j) (same_Some WrongKind a h) };
    kind-is = λ z. absurd (none-some WrongKind (sym z));
    free = λ z. absurd (none-some WrongKind (sym z));
  }

  pub indexed-fine : kind ≡ an_array → only ≡ false → BreaksIndexed kind only None
  indexed-fine e t = record { wrong = λ a h. absurd (none-some a h); kind-is = λ _. e; free = λ _. t }

-- ---- a name alone
error-small : (cell : ℕ) → Meant cell → kind_in cell ≡ an_error_number → value_in cell ≤ largest
unfolding meaning_in meaning_with Within
error-small cell g e = rw e at g.within

-- an error's number fits a head
pub error-fits : (cell kind value : ℕ) → Meant cell → kind ≡ kind_in cell → value ≡ value_in cell → kind ≡ an_error_number → value + bias < 16777216
error-fits cell kind value g k v e = omega (arith, error-small cell g (sym k ∙ e))

module _ (before after : List ℕ) (cell : ℕ) (only : Bool) (at kind : ℕ) (broken : Option Rule) (ek : kind ≡ kind_in cell) (br : BreaksAlone kind only broken) where
  -- what it means, by its kind
  kind-means : (routine : ℕ → ℕ) (k : ℕ) → kind ≡ k → meaning_in routine cell ≡ meaning_with routine k (bool_in cell) (own_in cell) (value_in cell)
  unfolding meaning_in
  kind-means routine k e = ap (λ (x : ℕ). meaning_with routine x (bool_in cell) (own_in cell) (value_in cell)) (sym ek ∙ e)

  faults-as : (g : Meant cell) → (judge_name only (meaning_in g.routine cell) at).faults ≡ fault_of broken at
  faults-as g = ap (λ (x : Meaning). (judge_name only x at).faults) (kind-means g.routine kind refl) ∙ br.is g.routine (bool_in cell) (own_in cell) (value_in cell) at

  pub plain-broken : (rule : Rule) → broken ≡ Some rule → Alone before before cell only at (Err (record { rule = rule; word = at }))
  unfolding meaning_in fault_of fault
  plain-broken rule e = record {
    is = λ d g. judges-refused d g.m g.n before at (at + 1) (judge_name only (meaning_in g.routine cell) at) (record { rule = rule; word = at })
        (record { others = []; faults-are = faults-as g ∙ ap (λ (r : Option Rule). fault_of r at) e });
  }

  module _ (z : broken ≡ None) where
    clean : (g : Meant cell) → (judge_name only (meaning_in g.routine cell) at).faults ≡ []
    unfolding meaning_in fault_of
    clean g = faults-as g ∙ ap (λ (r : Option Rule). fault_of r at) z

    module _ (op value : ℕ) (h : Headed before after at op value) (o : op ≤ a_call_slot) where
      leaf-is : (d : ℕ) (g : Meant cell) (t : DataType) (fs : List Fault) (x : Term) (type : ValueType) → judge_name only (meaning_in g.routine cell) at ≡ judged t fs x → type_in type ≡ t
          → leaf_term g.m g.n op value ≡ some x → JudgesUnder d g.m g.n before after at (at + 1) (judge_name only (meaning_in g.routine cell) at) (Ok (type, at + 1))
      leaf-is d g t fs x type q ty l =
          judges-leaf d g.m g.n before after at op value h o (judge_name only (meaning_in g.routine cell) at) t fs x type q
          (sym (judged-faults t fs x) ∙ sym (ap (λ (k : types.Judged). k.faults) q) ∙ clean g) ty l

    pub plain-errno : kind ≡ an_errno → Headed before after at a_module_slot errno_cell → Alone before after cell only at (Ok (types_told.Num, at + 1))
    unfolding judge_name meaning_with
    plain-errno e h = record {
      is = λ d g. leaf-is a_module_slot errno_cell h (omega arith) d g a_num (fault_if only wrong_kind at) errno types_told.Num (ap (λ (x : Meaning). judge_name only x at) (kind-means g.routine an_errno e)) refl (errno-term g.m g.n);
    }

    pub plain-error : kind ≡ an_error_number → (value : ℕ) → value ≡ value_in cell → Headed before after at a_literal (value + bias) → Alone before after cell only at (Ok (types_told.Num, at + 1))
    unfolding judge_name meaning_with
    plain-error e value v h = record {
      is = λ d g. leaf-is a_literal (value + bias) h (omega arith) d g a_num [] (literal (pos value)) types_told.Num
          (ap (λ (x : Meaning). judge_name only x at) (kind-means g.routine an_error_number e) ∙ ap (λ (n : ℕ). judged a_num [] (literal (pos n))) (sym v)) refl
          (literal-term g.m g.n value);
    }

    -- a word of data, in the head that its meaning tells
    module _ (own value : ℕ) (o : own ≡ own_in cell) (v : value ≡ value_in cell) (h : Headed before after at (a_module_slot + own) value) where
      word-is : (d : ℕ) (g : Meant cell) (k : ℕ) → kind ≡ k → (t : DataType) (fs : List Fault) (type : ValueType)
          → judge_name only (meaning_with g.routine k (bool_in cell) (own_in cell) (value_in cell)) at ≡ judged t fs (stored (ref_with (own_in cell) (value_in cell)))
          → type_in type ≡ t → InRoom g.m g.n (ref_with (own_in cell) (value_in cell)) 1
          → JudgesUnder d g.m g.n before after at (at + 1) (judge_name only (meaning_in g.routine cell) at) (Ok (type, at + 1))
      word-is d g k e t fs type q ty r =
          leaf-is (a_module_slot + own) value h (omega arith) d g t fs (stored (ref_with (own_in cell) (value_in cell))) type
          (ap (λ (x : Meaning). judge_name only x at) (kind-means g.routine k e) ∙ q) ty
          (rw (o, v) (word-term g.m g.n (own_in cell) (value_in cell) g.most (omega arith) r))

      within-kind : (g : Meant cell) (k : ℕ) → kind ≡ k → Within g.m g.n (meaning_with g.routine k (bool_in cell) (own_in cell) (value_in cell))
      within-kind g k e = subst (Within g.m g.n) (kind-means g.routine k e) g.within

      pub plain-loop : kind ≡ a_loop → Alone before after cell only at (Ok (types_told.Num, at + 1))
      unfolding judge_name meaning_with Within
      plain-loop e = record { is = λ d g. word-is d g a_loop e a_num (fault_if only wrong_kind at) types_told.Num refl refl (within-kind g a_loop e) }

      variable-is : (type : ValueType) → TypeOf cell type → kind ≡ a_variable → Alone before after cell only at (Ok (type, at + 1))
      unfolding judge_name meaning_with Within
      variable-is type y e = record { is = λ d g. word-is d g a_variable e (type_with (bool_in cell)) (fault_if only wrong_kind at) type refl y.is (within-kind g a_variable e) }

      constant-is : (type : ValueType) → TypeOf cell type → kind ≡ a_constant → Alone before after cell only at (Ok (type, at + 1))
      unfolding judge_name meaning_with Within
      constant-is type y e = record { is = λ d g. word-is d g a_constant e (type_with (bool_in cell)) [] type refl y.is (within-kind g a_constant e) }

      -- no other kind breaks no rule
      array-faults : (g : Meant cell) → kind ≡ an_array → (judge_name only (meaning_in g.routine cell) at).faults ≡ record { number = wrong_kind; at = at } ∷ []
      unfolding judge_name meaning_with judged_nothing fault judged
      array-faults g e = ap (λ (x : Meaning). (judge_name only x at).faults) (kind-means g.routine an_array e)

      routine-faults : (g : Meant cell) → kind ≡ a_routine → (judge_name only (meaning_in g.routine cell) at).faults ≡ record { number = wrong_kind; at = at } ∷ []
      unfolding judge_name meaning_with judged_nothing fault judged
      routine-faults g e = ap (λ (x : Meaning). (judge_name only x at).faults) (kind-means g.routine a_routine e)

      unknown-faults : (g : Meant cell) → (0 < kind → kind ≤ an_error_number → ⊥) → (judge_name only (meaning_in g.routine cell) at).faults ≡ record { number = unknown_name; at = at } ∷ []
      unfolding judge_name judged_nothing fault judged meaning_in
      unknown-faults g a = ap (λ (x : Meaning). (judge_name only x at).faults) (kind-means g.routine kind refl ∙ unknown-is kind only g.routine (bool_in cell) (own_in cell) (value_in cell) a)

      pub plain-data : (kind ≡ a_loop → ⊥) → (kind ≡ an_errno → ⊥) → (kind ≡ an_error_number → ⊥) → (type : ValueType) → TypeOf cell type → Alone before after cell only at (Ok (type, at + 1))
      plain-data d e f type y =
          test (eqb kind a_variable) (λ t. variable-is type y (eqb-true kind a_variable t)) (λ t1.
          test (eqb kind a_constant) (λ t. constant-is type y (eqb-true kind a_constant t)) (λ t3.
          record { is = λ n g. refuses g (eqb-false kind a_variable t1) (eqb-false kind a_constant t3) }))
        where
          refused : {A : Type 0} (f : Fault) (r : List Fault) → f ∷ r ≡ [] → A
          refused f r q = apart (cc)

          refuses : {A : Type 0} → Meant cell → (kind ≡ a_variable → ⊥) → (kind ≡ a_constant → ⊥) → A
          refuses g n1 n3 =
              let c = clean g in
              test (eqb kind an_array) (λ t. refused _ _ (sym (array-faults g (eqb-true kind an_array t)) ∙ c)) (λ t2.
              test (eqb kind a_routine) (λ t. refused _ _ (sym (routine-faults g (eqb-true kind a_routine t)) ∙ c)) (λ t5.
              let n2 = eqb-false kind an_array t2 in let n5 = eqb-false kind a_routine t5 in
              refused _ _ (sym (unknown-faults g (λ h k. omega (arith, n1, n2, n3, d, n5, e, f))) ∙ c)))

-- ---- literals
-- the type and the value that a literal is told to have
pub told-is : (before after : List ℕ) (at : ℕ) (x y : ValueType × ℕ) → x ≡ y → Headed before after at a_literal (x.1 + bias) → (Headed before after at a_literal (y.1 + bias) → Literal before after at (Ok (y.0, at + 1)))
    → Literal before after at (Ok (x.0, at + 1))
told-is before after at x y e h f =
    subst (λ (z : ValueType × ℕ). Headed before after at a_literal (z.1 + bias) → Literal before after at (Ok (z.0, at + 1))) (sym e) f h

module _ (before after : List ℕ) (at w : ℕ) (e : w ≡ head_at (cells_of before) at) where
  head-op : (W : List Word) → Fresh W (cells_of before) at → op_in w ≡ sort_in W at
  head-op W f = ap op_in e ∙ f.sort

  head-value : (W : List Word) → Fresh W (cells_of before) at → sort_in W at ≡ NUMBER → value_in w ≡ (nth W at).value
  head-value W f s = ap value_in e ∙ f.value s

  module _ (value : ℕ) (h : Headed before after at a_literal (value + bias)) where
    literal-as : (d m n : ℕ) (j : types.Judged) (t : DataType) (type : ValueType) → j ≡ judged t [] (literal (pos value)) → type_in type ≡ t → JudgesUnder d m n before after at (at + 1) j (Ok (type, at + 1))
    literal-as d m n j t type q ty = judges-leaf d m n before after at a_literal (value + bias) h (omega arith) j t [] (literal (pos value)) type q refl ty (literal-term m n value)

  pub literal-number : op_in w ≡ NUMBER → Headed before after at a_literal (value_in w + bias) → Literal before after at (Ok (types_told.Num, at + 1))
  unfolding judge_leaf
  literal-number k h = record {
    is = λ d m n W only S q l.
        let s : sort_in W at ≡ NUMBER = sym (head-op W q) ∙ k in
        literal-as (value_in w) h d m n (judge_leaf W only S at) a_num types_told.Num (rw (s, judge_leaf) (ap (λ (v : ℕ). judged a_num [] (literal (pos v))) (sym (head-value W q s)))) refl;
  }

  pub literal-true : op_in w ≡ TRUE → Headed before after at a_literal (1 + bias) → Literal before after at (Ok (types_told.Bool, at + 1))
  unfolding judge_leaf truth
  literal-true k h = record {
    is = λ d m n W only S q l. let s : sort_in W at ≡ TRUE = sym (head-op W q) ∙ k in literal-as 1 h d m n (judge_leaf W only S at) a_bool types_told.Bool (rw (s, judge_leaf)) refl;
  }

  pub literal-false : (op_in w ≡ NUMBER → ⊥) → (op_in w ≡ TRUE → ⊥) → Headed before after at a_literal bias → Literal before after at (Ok (types_told.Bool, at + 1))
  unfolding judge_leaf truth is_literal
  literal-false a b h = record {
    is = λ d m n W only S q l.
        let o = head-op W q in
        let na = ne_eqb (sort_in W at) NUMBER (λ z. a (o ∙ z)) in
        let nb = ne_eqb (sort_in W at) TRUE (λ z. b (o ∙ z)) in
        test (eqb (sort_in W at) FALSE)
        (λ t. literal-as 0 h d m n (judge_leaf W only S at) a_bool types_told.Bool (rw (eqb-true (sort_in W at) FALSE t, judge_leaf)) refl)
        (λ t. false-true (rw (na, nb, t, is_literal) at l));
  }
