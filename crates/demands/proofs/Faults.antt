-- What the checks ensure: every fault is of rules 10 to 17 and at a word, or of rule 19 and at a name, and where there is none the module has at most 1,024 words. One law for each thing that is checked.
use mathlib.Core.Path.{◌≡◌, refl}
use mathlib.Core.Bool.{Bool, true, false, ◌||◌}
use mathlib.Core.List.{List, [], ◌∷◌, ◌++◌, map}
use mathlib.Core.Option.{Option, none, some}
use Prim.Native.Nat.{ℕ, suc, ◌+◌, ◌≤◌}
use native.Mathlib.Omega.{arith}
use lib.Dec.{T, eqb, leb, leb→le}
use lib.ListN.{length, get_or, length-append}
use lib.IntN.{ℤ}
use borrow.Author.Tests.{ltb-false, le-ltb}
use Rattle.laws.proofs.Tests.{apart}
use Rattle.paper.specs.Sorts.{NAME, NUMBER, TRUE, FALSE, NOT, equal, unequal}
use Rattle.paper.specs.Words.{Word}
use Rattle.paper.specs.Terms.{Ref, Term, stored, Memory}
use Rattle.paper.specs.Trees.{Expr, leaf, element, nested, signed, joined, first, Target, Simple, assign, assign_call, call, returns, raises, exits, retries, tries_next, writes, reads, Statement}
use Rattle.paper.specs.Trees.{Statements, Arms, Cases, simple, compact_if, full_if, for, while, test, empty, ◌then◌, no_arm, arm, no_case, case, Content, variable_data, initial_data, array_data}
use Rattle.paper.specs.Trees.{constant_data, Declared, Parameter, RoutineList, Routine, Module}
use Rattle.paper.specs.Expressions.{level_of, relations, conjunctions}
use Rattle.paper.specs.Names.{DataType, a_num, a_bool, refused_piece, Meaning, unknown, variable, array, constant, loop, the_routine, the_errno, error_number, uses_of, routine_in, array_in, variable_in, wrong_name, Text, text_of, Scopes, sort_in, spelled, meaning, cannot_declare}
use Rattle.paper.specs.Types.{Fault, fault, fault_if, least_of, least, comes_first, Judged, judged, judged_nothing, differs, wanted, judge_name, judge_element, judge_joined, judge_signed, judge_leaf, judge, faults_of, of_type, constant_worth, constant_faults, raises_error, is_no_size}
use Rattle.paper.specs.Declarations.{module_word_limit, crosses, Data, Filling, declare_name, declare_content, declare_data, declare_parameters, no_data, Signature, data_texts, routine_names, routine_name_faults, module_filling, module_data, routine_filling, routine_data}
use Rattle.paper.specs.Checks.{Setting, in_undo, is_other_kind, no_signature, judge_scalar_target, judge_target, argument_faults, signature_faults, callee_faults, call_faults, result_faults, return_faults, optional_num}
use Rattle.paper.specs.Checks.{simple_faults, case_faults, statement_faults, list_faults, arm_faults, cases_faults, optional_faults, routine_faults, all_routine_faults, faults}
use Rattle.raised.proofs.Choices.{chosen, forked}
use Rattle.demands.proofs.Parsing.{Is, is-by, ExprIn, first-in, OptionalIn, SortsOfTarget, SimpleSorts, Sorts, SortsOfList, SortsOfArms, SortsOfCases, SortsOfOptional, ContentIn, DeclaredIn, ParameterIn, SortsOfRoutine, SortsOfModule}
use Rattle.demands.proofs.Alls.{◌and◌, first_of, rest_of}
use Rattle.demands.specs.Vocabulary.{All, nothing, ◌also◌}

module _ (W : List Word) where
  -- The word i is there.
  abbrev IsWord : ℕ → Type 0
  IsWord i = Is (sort_in W) i

  abbrev In : Expr → Type 0
  In e = ExprIn (sort_in W) e

  head : (e : Expr) → In e → IsWord (first e)
  head e h = first-in (sort_in W) e h

  named : (i : ℕ) → sort_in W i ≡ NAME → IsWord i
  named i e = is-by (sort_in W) i 0 e

  -- ---- faults of rules 10 to 17, at a word, and of rule 19, at a name
  pub data InRules (f : Fault) : Type 0 where
    in_group : 10 ≤ f.number → f.number ≤ 17 → IsWord f.at → InRules f
    hiding : f.number ≡ 19 → sort_in W f.at ≡ NAME → InRules f

  abbrev pub Ranked : List Fault → Type 0
  Ranked fs = All InRules fs

  -- a number of them
  abbrev Rule : ℕ → Type 0
  Rule number = T (leb 10 number) × T (leb number 17)

  fault-ranked : (number i : ℕ) → Rule number → IsWord i → Ranked (fault number i)
  unfolding fault
  fault-ranked number i h w = in_group (leb→le 10 number h.0) (leb→le number 17 h.1) w also nothing

  if-ranked : (b : Bool) (number i : ℕ) → Rule number → IsWord i → Ranked (fault_if b number i)
  unfolding fault_if
  if-ranked true number i h w = fault-ranked number i h w
  if-ranked false number i h w = nothing

  hiding-ranked : (b : Bool) (i : ℕ) → sort_in W i ≡ NAME → Ranked (fault_if b 19 i)
  unfolding fault_if fault
  hiding-ranked true i e = hiding refl e also nothing
  hiding-ranked false i e = nothing

  -- ---- expressions
  judged-ranked : (t : DataType) (fs : List Fault) (x : Term) → Ranked fs → Ranked (judged t fs x).faults
  unfolding judged
  judged-ranked t [] x h = h
  judged-ranked t (f ∷ r) x h = h

  nothing-ranked : (fs : List Fault) → Ranked fs → Ranked (judged_nothing fs).faults
  unfolding judged_nothing
  nothing-ranked fs h = judged-ranked refused_piece fs _ h

  wanted-ranked : (t : DataType) (i : ℕ) (j : Judged) → IsWord i → Ranked j.faults → Ranked (wanted t i j)
  unfolding wanted
  wanted-ranked t i j w h = h and if-ranked (differs t j.type) 13 i (tt, tt) w

  name-ranked : (c : Bool) (m : Meaning) (i : ℕ) → IsWord i → Ranked (judge_name c m i).faults
  unfolding judge_name
  name-ranked c unknown i w = nothing-ranked _ (fault-ranked 11 i (tt, tt) w)
  name-ranked c (variable t r) i w = judged-ranked t _ _ (if-ranked c 12 i (tt, tt) w)
  name-ranked c (array t r n) i w = nothing-ranked _ (fault-ranked 12 i (tt, tt) w)
  name-ranked c (constant t r) i w = judged-ranked t _ _ nothing
  name-ranked c (loop r) i w = judged-ranked a_num _ _ (if-ranked c 12 i (tt, tt) w)
  name-ranked c (the_routine k) i w = nothing-ranked _ (fault-ranked 12 i (tt, tt) w)
  name-ranked c the_errno i w = judged-ranked a_num _ _ (if-ranked c 12 i (tt, tt) w)
  name-ranked c (error_number n) i w = judged-ranked a_num _ _ nothing

  wrong-ranked : (m : Meaning) (i : ℕ) → IsWord i → Ranked (fault (wrong_name m) i)
  unfolding wrong_name
  wrong-ranked m i w = chosen (λ k. Ranked (fault k i)) (uses_of m).known 12 11 (fault-ranked 12 i (tt, tt) w) (fault-ranked 11 i (tt, tt) w)

  element-ranked : (c : Bool) (m : Meaning) (i : ℕ) (e : Expr) (j : Judged) → IsWord i → In e → Ranked j.faults → Ranked (judge_element c m i e j).faults
  unfolding judge_element
  element-ranked c m i e j w v h = by-array (array_in m)
    where
      by-array : (a : Option (DataType × Ref × ℕ)) → Ranked (elim a as (λ x. Judged) [
        | none ↦ judged_nothing (fault (wrong_name m) i ++ j.faults)
        | some a ↦ judged a.0 (fault_if c 12 i ++ wanted a_num (first e) j) (Term.element_at a.1 a.2 j.term)
      ]).faults
      by-array none = nothing-ranked _ (wrong-ranked m i w and h)
      by-array (some a) = judged-ranked _ _ _ (if-ranked c 12 i (tt, tt) w and wanted-ranked a_num (first e) j (head e v) h)

  joined-ranked : (op : ℕ) (a b : Expr) (j k : Judged) → In a → In b → Ranked j.faults → Ranked k.faults → Ranked (judge_joined op a b j k).faults
  unfolding judge_joined
  joined-ranked op a b j k v w h g =
      let Q : Judged → Type 0 = λ x. Ranked x.faults in
      let both : (t : DataType) → Ranked (wanted t (first a) j ++ wanted t (first b) k) =
      λ t. wanted-ranked t (first a) j (head a v) h and wanted-ranked t (first b) k (head b w) g in
      chosen Q (eqb op equal || eqb op unequal) _ _ (judged-ranked _ _ _ (h and wanted-ranked j.type (first b) k (head b w) g))
      (chosen Q (leb conjunctions (level_of op)) _ _ (judged-ranked _ _ _ (both a_bool))
      (chosen Q (eqb (level_of op) relations) _ _ (judged-ranked _ _ _ (both a_num)) (judged-ranked _ _ _ (both a_num))))

  signed-ranked : (op : ℕ) (e : Expr) (j : Judged) → In e → Ranked j.faults → Ranked (judge_signed op e j).faults
  unfolding judge_signed
  signed-ranked op e j v h =
      chosen (λ (x : Judged). Ranked x.faults) (eqb op NOT) _ _
      (judged-ranked _ _ _ (wanted-ranked a_bool (first e) j (head e v) h))
      (judged-ranked _ _ _ (wanted-ranked a_num (first e) j (head e v) h))

  leaf-ranked : (c : Bool) (S : Scopes) (i : ℕ) → IsWord i → Ranked (judge_leaf W c S i).faults
  unfolding judge_leaf
  leaf-ranked c S i w =
      let Q : Judged → Type 0 = λ x. Ranked x.faults in
      chosen Q (eqb (sort_in W i) NUMBER) _ _ (judged-ranked _ _ _ nothing)
      (chosen Q (eqb (sort_in W i) TRUE) _ _ (judged-ranked _ _ _ nothing)
      (chosen Q (eqb (sort_in W i) FALSE) _ _ (judged-ranked _ _ _ nothing) (name-ranked c (meaning S (spelled W i)) i w)))

  judge-ranked : (c : Bool) (S : Scopes) (e : Expr) → In e → Ranked (judge W c S e).faults
  unfolding judge
  judge-ranked c S (leaf i) v = leaf-ranked c S i v
  judge-ranked c S (element i e) v = element-ranked c _ i e _ v.0 v.1 (judge-ranked c S e v.1)
  judge-ranked c S (nested i e) v = judge-ranked c S e v.1
  judge-ranked c S (signed i e) v = signed-ranked _ e _ v.1 (judge-ranked c S e v.1)
  judge-ranked c S (joined i a b) v = joined-ranked _ a b _ _ v.0 v.1 (judge-ranked c S a v.0) (judge-ranked c S b v.1)

  faults-of-ranked : (S : Scopes) (e : Expr) → In e → Ranked (faults_of W S e)
  unfolding faults_of
  faults-of-ranked S e v = judge-ranked false S e v

  of-type-ranked : (t : DataType) (S : Scopes) (e : Expr) → In e → Ranked (of_type W t S e)
  unfolding of_type
  of-type-ranked t S e v = wanted-ranked t (first e) _ (head e v) (judge-ranked false S e v)

  constant-ranked : (bad : Option _ → Bool) (t : DataType) (S : Scopes) (M : Memory) (e : Expr) → In e → Ranked (constant_faults W bad t S M e)
  unfolding constant_faults
  constant-ranked bad t S M e v =
      wanted-ranked t (first e) _ (head e v) (judge-ranked true S e v) and if-ranked (bad (constant_worth W S M e)) 15 (first e) (tt, tt) (head e v)

-- ---- declarations
-- What is declared has faults of these rules only, and where it has none, no more words than its scope may have.
pub record Declares (W : List Word) (limit : ℕ) (D : Data) : Type 0 where
  pub ranked : Ranked W D.faults
  pub words : D.faults ≡ [] → length D.words ≤ limit

pub left-empty : (a b : List Fault) → a ++ b ≡ [] → a ≡ []
left-empty [] b e = refl
left-empty (f ∷ a) b e = apart (cc)

pub right-empty : (a b : List Fault) → a ++ b ≡ [] → b ≡ []
right-empty [] b e = e
right-empty (f ∷ a) b e = apart (cc)

pub if-empty : (b : Bool) (number i : ℕ) → fault_if b number i ≡ [] → b ≡ false
unfolding fault_if fault
if-empty true number i e = apart (cc)
if-empty false number i e = refl

-- "the name that crosses": where none does, the words stay within the limit
not-crossed : (limit used own : ℕ) → used ≤ limit → crosses limit used own ≡ false → used + own ≤ limit
unfolding crosses
not-crossed limit used own h e = ltb-false limit (used + own) (rw (le-ltb limit used h) at e)

module _ (W : List Word) (F : Filling) where
  name-declares : (i : ℕ) (m : Ref → Meaning) (words : List ℤ) (fs : List Fault) (D : Data) → IsWord W i → Ranked W fs → Declares W F.limit D → Declares W F.limit (declare_name W F i m words fs D)
  unfolding declare_name
  name-declares i m words fs D w h d =
      let f10 = fault_if (cannot_declare (map text_of D.names) (spelled W i)) 10 i in
      let f16 = fault_if (crosses F.limit (length D.words) (length words)) 16 i in
      record {
        ranked = d.ranked and if-ranked W _ 10 i (tt, tt) w and if-ranked W _ 16 i (tt, tt) w and h;
        words = λ e.
            let front : (D.faults ++ f10) ++ f16 ≡ [] = left-empty ((D.faults ++ f10) ++ f16) fs e in
            let c : crosses F.limit (length D.words) (length words) ≡ false = if-empty _ 16 i (right-empty (D.faults ++ f10) f16 front) in
            let u : length D.words ≤ F.limit = d.words (left-empty D.faults f10 (left-empty (D.faults ++ f10) f16 front)) in
            rw length-append (not-crossed F.limit (length D.words) (length words) u c);
      }

  content-declares : (t : DataType) (i : ℕ) (c : Content) (D : Data) → IsWord W i → ContentIn (sort_in W) c → Declares W F.limit D → Declares W F.limit (declare_content W F t i c D)
  unfolding declare_content
  content-declares t i variable_data D w v d = name-declares i _ _ _ D w nothing d
  content-declares t i (initial_data e) D w v d = name-declares i _ _ _ D w (constant-ranked W raises_error t _ _ e v) d
  content-declares t i (array_data e) D w v d = name-declares i _ _ _ D w (constant-ranked W is_no_size a_num _ _ e v) d
  content-declares t i (constant_data e) D w v d = name-declares i _ _ _ D w (constant-ranked W raises_error t _ _ e v) d

  data-declares : (ds : List Declared) (D : Data) → All (DeclaredIn (sort_in W)) ds → Declares W F.limit D → Declares W F.limit (declare_data W F ds D)
  unfolding declare_data
  data-declares [] D h d = d
  data-declares (x ∷ ds) D h d = data-declares ds _ (rest_of h) (content-declares _ x.name x.content D (first_of h).name (first_of h).content d)

  parameters-declare : (ps : List Parameter) (D : Data) → All (ParameterIn (sort_in W)) ps → Declares W F.limit D → Declares W F.limit (declare_parameters W F ps D)
  unfolding declare_parameters
  parameters-declare [] D h d = d
  parameters-declare (p ∷ ps) D h d = parameters-declare ps _ (rest_of h) (name-declares p.name _ _ _ D (first_of h).name nothing d)

no-data-declares : (W : List Word) (limit : ℕ) → Declares W limit no_data
no-data-declares W limit = record { ranked = nothing; words = λ e. omega arith }

module _ (W : List Word) where
  pub module-declares : (m : Module) → SortsOfModule (sort_in W) m → Declares W module_word_limit (module_data W m)
  unfolding module_data module_filling
  module-declares m h =
      data-declares W (module_filling W (routine_names W (data_texts W m.declared) 0 m.routines)) m.declared no_data h.declared (no-data-declares W _)

  routine-ranked : (m : Module) (r : Routine) → SortsOfRoutine (sort_in W) r → Ranked W (routine_data W m r).faults
  unfolding routine_data routine_filling
  routine-ranked m r h =
      (data-declares W (routine_filling W m) r.declared _ h.declared (parameters-declare W (routine_filling W m) r.parameters no_data h.parameters (no-data-declares W _))).ranked

  routine-names-ranked : (earlier : List Text) (k : ℕ) (rs : List Routine) → All (SortsOfRoutine (sort_in W)) rs → Ranked W (routine_name_faults W earlier k rs)
  unfolding routine_name_faults
  routine-names-ranked earlier k [] h = nothing
  routine-names-ranked earlier k (r ∷ rs) h =
      let w = (first_of h).name in
      if-ranked W _ 10 r.name (tt, tt) w and if-ranked W _ 16 r.name (tt, tt) w and routine-names-ranked (spelled W r.name ∷ earlier) (suc k) rs (rest_of h)

  -- ---- statements
  scalar-ranked : (m : Meaning) (i : ℕ) → IsWord W i → Ranked W (judge_scalar_target m i).faults
  unfolding judge_scalar_target
  scalar-ranked m i w = by-variable (variable_in m)
    where
      by-variable : (v : Option (DataType × Ref)) → Ranked W (elim v as (λ x. Judged) [ none ↦ judged_nothing (fault (wrong_name m) i) | some w ↦ judged w.0 [] (stored w.1) ]).faults
      by-variable none = nothing-ranked W _ (wrong-ranked W m i w)
      by-variable (some v) = judged-ranked W _ _ _ nothing

  target-ranked : (S : Scopes) (t : Target) → SortsOfTarget (sort_in W) t → Ranked W (judge_target W S t).faults
  unfolding judge_target
  target-ranked S t h = by_index t.index h.index
    where
      by_index : (o : Option Expr) → OptionalIn (sort_in W) o
          → Ranked W (elim o as (λ x. Judged) [ none ↦ judge_scalar_target (meaning S (spelled W t.name)) t.name | some e ↦ judge W false S (element t.name e) ]).faults
      by_index none v = scalar-ranked _ t.name (named W t.name h.name)
      by_index (some e) v = judge-ranked W false S (element t.name e) (named W t.name h.name, v)

  arguments-ranked : (S : Scopes) (ts : List DataType) (es : List Expr) → All (In W) es → Ranked W (argument_faults W S ts es)
  unfolding argument_faults
  arguments-ranked S ts [] v = nothing
  arguments-ranked S [] (e ∷ es) v = faults-of-ranked W S e (first_of v) and arguments-ranked S [] es (rest_of v)
  arguments-ranked S (t ∷ ts) (e ∷ es) v = of-type-ranked W t S e (first_of v) and arguments-ranked S ts es (rest_of v)

  signature-ranked : (f : Bool) (sig : Signature) (i : ℕ) (es : List Expr) → IsWord W i → Ranked W (signature_faults W f sig i es)
  unfolding signature_faults
  signature-ranked f sig i es w = chosen (Ranked W) (is_other_kind f sig.result) _ _ (fault-ranked W 12 i (tt, tt) w) (if-ranked W _ 14 i (tt, tt) w)

  callee-ranked : (K : Setting) (f : Bool) (m : Meaning) (i : ℕ) (es : List Expr) → IsWord W i → Ranked W (callee_faults W K f m i es)
  unfolding callee_faults
  callee-ranked K f m i es w = by-routine (routine_in m)
    where
      by-routine : (o : Option ℕ) → Ranked W (elim o [ none ↦ fault (wrong_name m) i | some k ↦ signature_faults W f (get_or K.routines k no_signature) i es ])
      by-routine none = wrong-ranked W m i w
      by-routine (some k) = signature-ranked f _ i es w

  call-ranked : (K : Setting) (f : Bool) (S : Scopes) (i : ℕ) (es : List Expr) → IsWord W i → All (In W) es → Ranked W (call_faults W K f S i es)
  unfolding call_faults
  call-ranked K f S i es w v = if-ranked W _ 17 i (tt, tt) w and callee-ranked K f _ i es w and arguments-ranked S _ es v

  result-ranked : (j : Judged) (t : Option DataType) (i : ℕ) → IsWord W i → Ranked W (result_faults W j t i)
  unfolding result_faults
  result-ranked j none i w = nothing
  result-ranked j (some t) i w = if-ranked W _ 13 i (tt, tt) w

  return-ranked : (K : Setting) (S : Scopes) (i : ℕ) (e : Option Expr) → IsWord W i → OptionalIn (sort_in W) e → Ranked W (return_faults W K S i e)
  unfolding return_faults
  return-ranked K S i none w v = if-ranked W _ 17 i (tt, tt) w
  return-ranked K S i (some e) w v = by_result K.result
    where
      by_result : (o : Option DataType) → Ranked W (elim o [ none ↦ fault 17 i ++ faults_of W S e | some t ↦ fault_if (in_undo K.list) 17 i ++ of_type W t S e ])
      by_result none = fault-ranked W 17 i (tt, tt) w and faults-of-ranked W S e v
      by_result (some t) = if-ranked W _ 17 i (tt, tt) w and of-type-ranked W t S e v

  optional-ranked : (S : Scopes) (e : Option Expr) → OptionalIn (sort_in W) e → Ranked W (optional_num W S e)
  unfolding optional_num
  optional-ranked S none v = nothing
  optional-ranked S (some e) v = of-type-ranked W a_num S e v

  simple-ranked : (K : Setting) (S : Scopes) (s : Simple) → SimpleSorts (sort_in W) s → Ranked W (simple_faults W K S s)
  unfolding simple_faults
  simple-ranked K S (assign t e) h = target-ranked S t h.0 and of-type-ranked W _ S e h.1
  simple-ranked K S (assign_call t f es) h =
      let w = named W f h.1 in
      target-ranked S t h.0 and call-ranked K true S f es w h.2 and result-ranked _ _ f w
  simple-ranked K S (call p es) h = call-ranked K false S p es (named W p h.0) h.1
  simple-ranked K S (returns i e) h = return-ranked K S i e (is-by (sort_in W) i _ h.0) h.1
  simple-ranked K S (raises i none) h = if-ranked W _ 17 i (tt, tt) (is-by (sort_in W) i _ h.0)
  simple-ranked K S (raises i (some e)) h = if-ranked W _ 17 i (tt, tt) (is-by (sort_in W) i _ h.0) and of-type-ranked W a_num S e h.1
  simple-ranked K S (exits i) h = if-ranked W _ 17 i (tt, tt) (is-by (sort_in W) i _ h)
  simple-ranked K S (retries i) h = if-ranked W _ 17 i (tt, tt) (is-by (sort_in W) i _ h)
  simple-ranked K S (tries_next i) h = if-ranked W _ 17 i (tt, tt) (is-by (sort_in W) i _ h)
  simple-ranked K S (writes i s e) h = optional-ranked S e h.1
  simple-ranked K S (reads i t s) h = wanted-ranked W a_num t.name _ (named W t.name h.1.name) (target-ranked S t h.1)

  case-ranked : (S : Scopes) (M : Memory) (es : List Expr) → All (In W) es → Ranked W (case_faults W S M es)
  unfolding case_faults
  case-ranked S M [] v = nothing
  case-ranked S M (e ∷ es) v = constant-ranked W raises_error a_num S M e (first_of v) and case-ranked S M es (rest_of v)

  module _ (K : Setting) (M : Memory) where
    mutual
      unfolding statement_faults

      statement-ranked : (s : Statement) (S : Scopes) (n : ℕ) → Sorts (sort_in W) s → Ranked W (statement_faults W K M s S n)
      statement-ranked (simple s) S n h = simple-ranked K S s h
      statement-ranked (compact_if i e s) S n h = of-type-ranked W a_bool S e h.1 and simple-ranked K S s h.2
      statement-ranked (full_if i a o) S n h = arms-ranked a S n h.1 and list-ranked o S _ h.2
      statement-ranked (for i v a b c body end) S n h =
          let w = named W v h.0.variable in
          if-ranked W _ 10 v (tt, tt) w
          and hiding-ranked W _ v h.0.variable
          and if-ranked W _ 16 v (tt, tt) w
          and of-type-ranked W a_num S a h.0.start
          and of-type-ranked W a_num S b h.0.end
          and optional-ranked S c h.0.step
          and list-ranked body _ (suc n) h.1
      statement-ranked (while i e body) S n h = of-type-ranked W a_bool S e h.1 and list-ranked body S n h.2
      statement-ranked (test i e c d) S n h = of-type-ranked W a_num S e h.1 and cases-ranked c S n h.2 and list-ranked d S _ h.3

      list-ranked : (l : Statements) (S : Scopes) (n : ℕ) → SortsOfList (sort_in W) l → Ranked W (list_faults W K M l S n)
      list-ranked empty S n h = nothing
      list-ranked (s then r) S n h = statement-ranked s S n h.0 and list-ranked r S _ h.1

      arms-ranked : (a : Arms) (S : Scopes) (n : ℕ) → SortsOfArms (sort_in W) a → Ranked W (arm_faults W K M a S n)
      arms-ranked no_arm S n h = nothing
      arms-ranked (arm e b r) S n h = of-type-ranked W a_bool S e h.0 and list-ranked b S n h.1 and arms-ranked r S _ h.2

      cases-ranked : (c : Cases) (S : Scopes) (n : ℕ) → SortsOfCases (sort_in W) c → Ranked W (cases_faults W K M c S n)
      cases-ranked no_case S n h = nothing
      cases-ranked (case es b r) S n h = case-ranked S M es h.0 and list-ranked b S n h.1 and cases-ranked r S _ h.2

  -- ---- routines and the module
  optional-list-ranked : (K : Setting) (M : Memory) (S : Scopes) (n : ℕ) (o : Option RoutineList) (closing : ℕ → Type 0) → SortsOfOptional (sort_in W) closing o → Ranked W (optional_faults W K M S n o)
  unfolding optional_faults
  optional-list-ranked K M S n none c h = nothing
  optional-list-ranked K M S n (some l) c h = list-ranked K M l.statements S n h.statements

  routine-faults-ranked : (m : Module) (sigs : List Signature) (k : ℕ) (r : Routine) → SortsOfRoutine (sort_in W) r → Ranked W (routine_faults W m sigs k r)
  unfolding routine_faults
  routine-faults-ranked m sigs k r h =
      routine-ranked m r h
      and list-ranked _ _ r.body.statements _ _ h.body.statements
      and optional-list-ranked _ _ _ _ r.handler _ h.handler
      and optional-list-ranked _ _ _ _ r.undo _ h.undo

  all-routines-ranked : (m : Module) (sigs : List Signature) (k : ℕ) (rs : List Routine) → All (SortsOfRoutine (sort_in W)) rs → Ranked W (all_routine_faults W m sigs k rs)
  unfolding all_routine_faults
  all-routines-ranked m sigs k [] h = nothing
  all-routines-ranked m sigs k (r ∷ rs) h = routine-faults-ranked m sigs k r (first_of h) and all-routines-ranked m sigs (suc k) rs (rest_of h)

  pub faults-ranked : (m : Module) → SortsOfModule (sort_in W) m → Ranked W (faults W m)
  unfolding faults
  faults-ranked m h = (module-declares m h).ranked and routine-names-ranked _ 0 m.routines h.routines and all-routines-ranked m _ 0 m.routines h.routines

-- ---- the least fault
least-of-ranked : (W : List Word) (a : Fault) (r : List Fault) → InRules W a → Ranked W r → InRules W (least_of a r)
unfolding least_of
least-of-ranked W a [] h k = h
least-of-ranked W a (b ∷ s) h k = forked (InRules W) (comes_first a b) _ _ (least-of-ranked W a s h (rest_of k)) (least-of-ranked W b s (first_of k) (rest_of k))

pub least-ranked : (W : List Word) (fs : List Fault) (f : Fault) → Ranked W fs → least fs ≡ some f → InRules W f
unfolding least
least-ranked W [] f k e = apart (cc)
least-ranked W (a ∷ r) f k e =
    let q : least_of a r ≡ f = cc in
    rw q at (least-of-ranked W a r (first_of k) (rest_of k))

pub least-none : (fs : List Fault) → least fs ≡ none → fs ≡ []
unfolding least
least-none [] e = refl
least-none (f ∷ r) e = apart (cc)

pub accepted-words : (W : List Word) (m : Module) → SortsOfModule (sort_in W) m → least (faults W m) ≡ none → length (module_data W m).words ≤ module_word_limit
unfolding faults
accepted-words W m h e =
    let all : faults W m ≡ [] = least-none (faults W m) e in
    (module-declares W m h).words (left-empty _ _ (left-empty _ _ all))
