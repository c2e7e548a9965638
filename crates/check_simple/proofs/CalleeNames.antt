-- What the name of a callee means.
use mathlib.Core.Path.{◌≡◌, refl, sym, ap, subst, ◌∙◌}
use mathlib.Core.Bool.{Bool, true, false, not, beq}
use mathlib.Core.List.{List}
use mathlib.Core.Option.{Option, none, some}
use Prim.Native.Nat.{ℕ, ◌+◌, ◌*◌, ◌<◌, ◌≤◌}
use native.Mathlib.Omega.{arith}
use lib.Dec.{eqb}
use lib.ListN.{length, get_or}
use borrow.Author.Tests.{eq-eqb, ne_eqb, eqb-true, eqb-false}
use Rattle.laws.proofs.Tests.{test, false-true}
use Rattle.std.specs.Prelude.{if◌then◌else◌}
use Rattle.paper.specs.Sorts.{NAME, FUNC}
use Rattle.paper.specs.Names.{DataType, Meaning, the_routine, uses_of, routine_in, wrong_name, spelled, meaning, sort_in}
use Rattle.paper.specs.Types.{fault}
use Rattle.paper.specs.Declarations.{Signature}
use Rattle.paper.specs.Checks.{no_signature, is_other_kind, signature_faults, callee_faults, signature_of}
use Rattle.store_cells.specs.Cells.{cells_of}
use Rattle.code.specs.Cells.{value_in, op_at}
use Rattle.code.specs.Steps.{numbered}
use Rattle.code.specs.Signatures.{type_at, result_at}
use Rattle.check_names.specs.Meanings.{first_meaning, meaning_with, meaning_in}
use Rattle.check_names.specs.Promises.{meaning_at}
use Rattle.check_expressions.specs.Known.{Fresh}
use Rattle.check_expressions.specs.Known as expressions
use Rattle.check_simple.specs.Parts.{WrongName, Callees, CalleeWrong, CalleeSays, CalleeTold}
use Rattle.check_simple.proofs.Callees.{Known, known}
use Rattle.check_simple.proofs.Arguments.{apart-same}
use Rattle.layout.specs.Rules.{unknown_name, wrong_kind}
use Rattle.std.specs.Prelude.{Ok, Err}
use Rattle.layout.specs.Broken.{number_of}
use Rattle.layout.specs.declared.rules.Rule.{Rule}
use Rattle.layout.specs.declared.rules.Rule.TheVariants.{WrongKind}
use Rattle.layout.specs.Kinds.{a_routine, kind_in, a_variable, an_array, a_constant, a_loop, an_errno, an_error_number, bool_in, own_in}

-- ---- two tests
other_way : (a b : Bool) → not (beq a b) ≡ true → b ≡ not a
other_way true true e = sym e
other_way true false e = refl
other_way false true e = refl
other_way false false e = e

same_way : (a b : Bool) → not (beq a b) ≡ false → a ≡ b
same_way true true e = refl
same_way true false e = e
same_way false true e = sym e
same_way false false e = refl

-- ---- a name by its cell
pub name-means : {values : List ℕ} (k : expressions.Known values) (code : List ℕ) (i m : ℕ) → sort_in k.W i ≡ NAME → Fresh k.W (cells_of code) i → m ≡ meaning_at (cells_of code) (cells_of values) i
    → meaning_in k.routine m ≡ meaning k.S (spelled k.W i)
name-means {values} k code i m n f e =
    ap (meaning_in k.routine) (e ∙ ap (λ (x : ℕ). get_or (cells_of values) (first_meaning + x) 0) (f.number n)) ∙ k.means.means i n

no-routine : (routine : ℕ → ℕ) (kind bool own value : ℕ) → (kind ≡ a_routine → ⊥) → routine_in (meaning_with routine kind bool own value) ≡ none
unfolding meaning_with routine_in
no-routine routine kind bool own value d =
    test (eqb kind a_variable) (λ t. rw (t, meaning_with))
    (λ a. test (eqb kind an_array) (λ t. rw (a, meaning_with) (rw t))
    (λ b. test (eqb kind a_constant) (λ t. rw (a, meaning_with) (rw b (rw t)))
    (λ c. test (eqb kind a_loop) (λ t. rw (a, meaning_with) (rw b (rw c (rw t))))
    (λ e. test (eqb kind an_errno) (λ t. rw (a, meaning_with) (rw b (rw c (rw e (rw (ne_eqb kind a_routine d) (rw t))))))
    (λ f. test (eqb kind an_error_number) (λ t. rw (a, meaning_with) (rw b (rw c (rw e (rw (ne_eqb kind a_routine d) (rw f (rw t)))))))
    (λ g. rw (a, meaning_with) (rw b (rw c (rw e (rw (ne_eqb kind a_routine d) (rw f (rw g))))))))))))

wrong-low : (m : Meaning) → wrong_name m ≤ wrong_kind
unfolding wrong_name
wrong-low m = by-known (uses_of m).known
  where
    by-known : (known : Bool) → (if known then wrong_kind else unknown_name) ≤ wrong_kind
    by-known true = omega arith
    by-known false = omega arith

same_kind : (function : Bool) (o : Option DataType) → function ≡ true → o ≡ none → is_other_kind function o ≡ true
unfolding is_other_kind
same_kind function o e f = rw (e, f)

some-kind : (function : Bool) (t : DataType) (o : Option DataType) → function ≡ false → o ≡ some t → is_other_kind function o ≡ true
unfolding is_other_kind
some-kind function t o e f = rw (e, f)

module _ (code values : List ℕ) (function : Bool) (i m : ℕ) (em : m ≡ meaning_at (cells_of code) (cells_of values) i) where
  module _ (g : Callees code values i) where
    means : meaning_with g.around.known.routine (kind_in m) (bool_in m) (own_in m) (value_in m) ≡ meaning g.around.known.S (spelled g.around.known.W i)
    unfolding meaning_in
    means = name-means g.around.known code i m g.name g.fresh em

    wrong-says : (rule : Rule) → (kind_in m ≡ a_routine → ⊥) → WrongName (kind_in m) rule
        → CalleeWrong g.around.known.W g.around.K (meaning g.around.known.S (spelled g.around.known.W i)) function i (record { rule = rule; word = i })
    unfolding callee_faults signature_of no_signature
    wrong-says rule d w =
        let q : routine_in (meaning g.around.known.S (spelled g.around.known.W i)) ≡ none =
        ap routine_in (sym means) ∙ no-routine g.around.known.routine (kind_in m) (bool_in m) (own_in m) (value_in m) d in
        let n : wrong_name (meaning g.around.known.S (spelled g.around.known.W i)) ≡ number_of rule = ap wrong_name (sym means) ∙ w.is g.around.known.routine (bool_in m) (own_in m) (value_in m) in
        record {
          is = λ es. rw (q, callee_faults) (ap (λ (x : ℕ). fault x i) n);
          at = refl;
          low = subst (λ (x : ℕ). x ≤ wrong_kind) n (wrong-low (meaning g.around.known.S (spelled g.around.known.W i)));
          no_result = λ _. rw (q, signature_of);
        }

    module _ (is : kind_in m ≡ a_routine) where
      routine-means : meaning g.around.known.S (spelled g.around.known.W i) ≡ the_routine (numbered g.around.R (value_in m))
      unfolding meaning_with
      routine-means = sym means ∙ rw is (ap the_routine (g.around.numbers (value_in m)))

      among : numbered g.around.R (value_in m) < length g.around.R
      among = g.around.callable i (numbered g.around.R (value_in m)) g.name routine-means

      callee_known : Known (cells_of code) g.around.R g.around.K.routines (value_in m)
      callee_known = known (cells_of code) g.around.R g.around.K.routines (value_in m) (g.calls.heads (cells_of code) (apart-same (cells_of code) i g.to)) among

      known-room : value_in m * 8 + 8 ≤ length code
      known-room = omega (arith, callee_known.low, callee_known.inside, g.calls.room)

      found-says : eqb (op_at (cells_of code) (value_in m)) FUNC ≡ function → CalleeSays g.around code function i (Ok (value_in m))
      unfolding CalleeSays
      found-says k = record { means = routine-means; among = among; kind = k }

      -- a routine of the other kind
      other-says : is_other_kind function (result_at (cells_of code) (value_in m)) ≡ true → (function ≡ true → result_at (cells_of code) (value_in m) ≡ none) → CalleeSays g.around code function i (Err (record { rule = WrongKind; word = i }))
      unfolding CalleeSays callee_faults signature_faults signature_of routine_in
      other-says k z =
          let sig : Signature = get_or g.around.K.routines (numbered g.around.R (value_in m)) no_signature in
          let o : is_other_kind function sig.result ≡ true = ap (is_other_kind function) callee_known.result ∙ k in
          record {
            is = λ es. rw (routine-means, callee_faults) (rw (o, signature_faults));
            at = refl;
            low = omega arith;
            no_result = λ e. rw (routine-means, signature_of) (callee_known.result ∙ z e);
          }

  module _ (k : ℕ) (ek : k ≡ kind_in m) where
    pub callee-wrong : (rule : Rule) → (k ≡ a_routine → ⊥) → WrongName k rule → CalleeTold code values function i (Err (record { rule = rule; word = i }))
    unfolding CalleeSays
    callee-wrong rule d w = record { is = λ g. wrong-says g rule (λ e. d (ek ∙ e)) (subst (λ (x : ℕ). WrongName x rule) ek w) }

    module _ (is : k ≡ a_routine) (h : ℕ) (eh : h ≡ value_in m) where
      of-kind : kind_in m ≡ a_routine
      of-kind = sym ek ∙ is

      pub callee-room : Callees code values i → h * 8 + 8 ≤ length code
      callee-room g = rw eh (known-room g of-kind)

      module _ (s : ℕ) (es : s ≡ op_at (cells_of code) h) where
        head-sort : op_at (cells_of code) (value_in m) ≡ s
        head-sort = sym (es ∙ ap (op_at (cells_of code)) eh)

        func-result : s ≡ FUNC → result_at (cells_of code) (value_in m) ≡ some (type_at (cells_of code) (value_in m + 1))
        unfolding result_at
        func-result f = rw (eq-eqb (op_at (cells_of code) (value_in m)) FUNC (head-sort ∙ f), result_at)

        proc-result : (s ≡ FUNC → ⊥) → result_at (cells_of code) (value_in m) ≡ none
        unfolding result_at
        proc-result f = rw (ne_eqb (op_at (cells_of code) (value_in m)) FUNC (λ q. f (sym head-sort ∙ q)), result_at)

        pub callee-other : not (beq (eqb s FUNC) function) ≡ true → CalleeTold code values function i (Err (record { rule = WrongKind; word = i }))
        callee-other d =
            test (eqb s FUNC)
            (λ t.
            let no : function ≡ false = other_way _ _ d ∙ ap not t in
            record { is = λ g. other-says g of-kind (some-kind function _ _ no (func-result (eqb-true s FUNC t))) (λ e. false-true (sym no ∙ e)) })
            (λ t.
            let yes : function ≡ true = other_way _ _ d ∙ ap not t in
            record { is = λ g. other-says g of-kind (same_kind function _ yes (proc-result (eqb-false s FUNC t))) (λ _. proc-result (eqb-false s FUNC t)) })

        pub callee-own : not (beq (eqb s FUNC) function) ≡ false → CalleeTold code values function i (Ok h)
        callee-own d = rw eh (record { is = λ g. found-says g of-kind (ap (λ (x : ℕ). eqb x FUNC) head-sort ∙ same_way _ _ d) })
