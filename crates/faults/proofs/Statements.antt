-- The faults of statements lie in their words: one law for each thing that stands.
use mathlib.Core.Path.{◌≡◌, refl}
use mathlib.Core.Bool.{Bool, true, false}
use mathlib.Core.List.{List, [], ◌∷◌}
use mathlib.Core.Option.{Option, none, some}
use Prim.Native.Nat.{ℕ, ◌+◌, ◌-◌, ◌≤◌, ◌<◌}
use native.Mathlib.Omega.{arith}
use lib.ListN.{get_or}
use Rattle.laws.proofs.Tests.{test}
use Rattle.paper.specs.Words.{Word}
use Rattle.paper.specs.Terms.{Ref, Memory}
use Rattle.paper.specs.Trees.{Expr, element, Target, Simple, Statement, Statements, Arms, Cases, RoutineList}
use Rattle.paper.specs.Names.{DataType, a_num, a_bool, Meaning, routine_in, variable_in, wrong_name, Scopes, sort_in, spelled, meaning}
use Rattle.paper.specs.Types.{Fault, Judged, wanted, raises_error}
use Rattle.paper.specs.Declarations.{Signature}
use Rattle.paper.specs.Checks.{Setting, is_other_kind, no_signature, judge_scalar_target, judge_target, argument_faults, signature_faults, callee_faults, call_faults}
use Rattle.paper.specs.Checks.{result_faults, return_faults, optional_num, simple_faults, case_faults, statement_faults, list_faults, arm_faults, cases_faults, optional_faults}
use Rattle.climb.specs.Places.{Spans}
use Rattle.grammar.specs.Form.{last_one, one_more, closed-at-once, closed-later, Parses}
use Rattle.grammar.specs.Form.{ExprsAt, ArgumentsAt, IndexAt, no_index, in-braces, TargetAt, OptionalAt, no_value, a-value, NumberAt, no_number, a-number}
use Rattle.grammar.specs.Form.{SimpleAt, assigning, assigning-call, calling, returning, raising, exiting, retrying, trying-next, writing, reading, StepAt, no_step, a-step}
use Rattle.grammar.specs.Form.{StatementAt, plain, compact, full, counting, looping, testing, ListAt, ended, begun, ArmsAt, last-arm, more-arms, ElseAt, no-else, an-else, CasesAt, no-more-cases, one-case, DefaultAt, no_default, a-default, ListBehindAt, no-list, a-list}
use Rattle.grammar.proofs.Places.{exprs-grow, arguments-grow, target-grows, simple-grows, step-grows, statement-grows, list-grows, arms-grow, else-grows, cases-grow, default-grows}
use Rattle.faults.specs.First.{no-fault, Inside, First, Ordered}
use Rattle.faults.proofs.First.{◌and◌, widen, inside-fault, inside-if, headed-first, ordered-none}
use Rattle.faults.proofs.Expressions.{spans, grows, Orderly, judged-orderly, wanted-ordered, one-orderly, orderly, faults-of-inside, of-type-inside, constant-inside}

module _ (W : List Word) where
  -- ---- lists of expressions
  pub exprs-inside : (S : Scopes) (ts : List DataType) {es : List Expr} {at to : ℕ} → ExprsAt (sort_in W) (Parses (sort_in W)) es at to → Inside at to (argument_faults W S ts es)
  unfolding argument_faults
  exprs-inside S [] (last_one k f) = faults-of-inside W _ _ _ _ k S and no-fault
  exprs-inside S (t ∷ ts) (last_one k f) = of-type-inside W _ _ _ _ k t S and no-fault
  exprs-inside S [] (one_more k c h) =
      widen (faults-of-inside W _ _ _ _ k S) (omega arith) (omega (arith, exprs-grow (sort_in W) (Parses (sort_in W)) (grows W) h))
      and widen (exprs-inside S [] h) (omega (arith, grows W _ _ _ _ k)) (omega arith)
  exprs-inside S (t ∷ ts) (one_more k c h) =
      widen (of-type-inside W _ _ _ _ k t S) (omega arith) (omega (arith, exprs-grow (sort_in W) (Parses (sort_in W)) (grows W) h))
      and widen (exprs-inside S ts h) (omega (arith, grows W _ _ _ _ k)) (omega arith)

  pub arguments-inside : (S : Scopes) (ts : List DataType) {closing : ℕ} {es : List Expr} {at to : ℕ} → ArgumentsAt (sort_in W) (Parses (sort_in W)) closing es at to → Inside at to (argument_faults W S ts es)
  unfolding argument_faults
  arguments-inside S ts (closed-at-once c e) = no-fault
  arguments-inside S ts (closed-later f h) = exprs-inside S ts h

  pub case-inside : (S : Scopes) (M : Memory) {es : List Expr} {at to : ℕ} → ExprsAt (sort_in W) (Parses (sort_in W)) es at to → Inside at to (case_faults W S M es)
  unfolding case_faults
  case-inside S M (last_one k f) = constant-inside W _ _ _ _ k raises_error a_num S M and no-fault
  case-inside S M (one_more k c h) =
      widen (constant-inside W _ _ _ _ k raises_error a_num S M) (omega arith) (omega (arith, exprs-grow (sort_in W) (Parses (sort_in W)) (grows W) h))
      and widen (case-inside S M h) (omega (arith, grows W _ _ _ _ k)) (omega arith)

  -- ---- targets and calls
  scalar-orderly : (m : Meaning) (i a b : ℕ) → a ≤ i → i < b → Orderly a b (judge_scalar_target m i)
  unfolding judge_scalar_target
  scalar-orderly m i a b low high = by-variable (variable_in m) refl
    where
      by-variable : (o : Option (DataType × Ref)) → variable_in m ≡ o → Orderly a b (judge_scalar_target m i)
      by-variable none q = rw (q, judge_scalar_target) (one-orderly false i a b low high (wrong_name m))
      by-variable (some v) q = rw (q, judge_scalar_target) (judged-orderly _ _ _ (ordered-none a b))

  moved : (e : Expr) (a b c d : ℕ) → a ≡ c → b ≡ d → Spans e a b → Spans e c d
  moved e a b c d p q s = rw (← p, ← q) s

  index-orderly : (S : Scopes) (name : ℕ) {o : Option Expr} {at next to : ℕ} → name ≡ at → next ≡ at + 1 → IndexAt (sort_in W) (Parses (sort_in W)) o next to
      → Orderly at to (judge_target W S (record { name = name; index = o }))
  unfolding judge_target Spans
  index-orderly S name {at = at} {to = to} i j (no_index f e) = scalar-orderly (meaning S (spelled W name)) name at to (omega arith) (omega arith)
  index-orderly S name {at = at} {next = next} {to = to} i j (in-braces {e = e} {n = n} b k c z) =
      orderly W false S (element name e) at to (i, moved e (next + 1) n (at + 2) (to - 1) (omega arith) (omega arith) (spans W _ (next + 1) e n k))

  pub target-orderly : (S : Scopes) {t : Target} {at to : ℕ} → TargetAt (sort_in W) (Parses (sort_in W)) t at to → Orderly at to (judge_target W S t)
  target-orderly S {t} h = index-orderly S t.name h.named refl h.index

  pub target-inside : (S : Scopes) {t : Target} {at to : ℕ} → TargetAt (sort_in W) (Parses (sort_in W)) t at to → Inside at to (judge_target W S t).faults
  target-inside S h = (target-orderly S h).ordered.inside

  -- the fault of a target, also where it must be of a type
  pub target_first : (S : Scopes) {t : Target} {at to : ℕ} (f : Fault) (others : List Fault) → TargetAt (sort_in W) (Parses (sort_in W)) t at to → (judge_target W S t).faults ≡ f ∷ others
      → First f (judge_target W S t).faults
  target_first S f others h e = headed-first f others (target-orderly S h).ordered.headed e

  pub target-ordered : (S : Scopes) (x : DataType) {t : Target} {at to : ℕ} → TargetAt (sort_in W) (Parses (sort_in W)) t at to → Ordered at to (wanted x t.name (judge_target W S t))
  target-ordered S x {t} h =
      wanted-ordered x t.name (judge_target W S t) (target-orderly S h) (omega (arith, h.named)) (omega (arith, h.named, target-grows (sort_in W) (Parses (sort_in W)) (grows W) h))

  module _ (i a b : ℕ) (low : a ≤ i) (high : i < b) where
    signature-inside : (f : Bool) (sig : Signature) (es : List Expr) → Inside a b (signature_faults W f sig i es)
    unfolding signature_faults
    signature-inside f sig es =
        test (is_other_kind f sig.result) (λ t. rw (t, signature_faults) (inside-fault 12 i a b low high)) (λ t. rw (t, signature_faults) (inside-if _ 14 i a b low high))

    pub callee-inside : (K : Setting) (f : Bool) (m : Meaning) (es : List Expr) → Inside a b (callee_faults W K f m i es)
    unfolding callee_faults
    callee-inside K f m es = by-routine (routine_in m) refl
      where
        by-routine : (o : Option ℕ) → routine_in m ≡ o → Inside a b (callee_faults W K f m i es)
        by-routine none q = rw (q, callee_faults) (inside-fault (wrong_name m) i a b low high)
        by-routine (some k) q = rw (q, callee_faults) (signature-inside f (get_or K.routines k no_signature) es)

    pub call-inside : (K : Setting) (f : Bool) (S : Scopes) (es : List Expr) → ((ts : List DataType) → Inside a b (argument_faults W S ts es)) → Inside a b (call_faults W K f S i es)
    unfolding call_faults
    call-inside K f S es h = inside-if _ 17 i a b low high and callee-inside K f (meaning S (spelled W i)) es and h _

    pub result-inside : (j : Judged) (o : Option DataType) → Inside a b (result_faults W j o i)
    unfolding result_faults
    result-inside j none = no-fault
    result-inside j (some t) = inside-if _ 13 i a b low high

  -- ---- values that may be missing
  pub return-inside : (K : Setting) (S : Scopes) (i : ℕ) {o : Option Expr} {at next to : ℕ} → i ≡ at → next ≡ at + 1 → OptionalAt (sort_in W) (Parses (sort_in W)) o next to → Inside at to (return_faults W K S i o)
  unfolding return_faults
  return-inside K S i {at = at} {to = to} j n (no_value s e) = inside-if _ 17 i at to (omega arith) (omega arith)
  return-inside K S i {at = at} {to = to} j n (a-value {e = x} f k) = by_result K.result refl
    where
      by_result : (o : Option DataType) → K.result ≡ o → Inside at to (return_faults W K S i (some x))
      by_result none q =
          rw (q, return_faults) (inside-fault 17 i at to (omega arith) (omega (arith, grows W _ _ _ _ k)) and widen (faults-of-inside W _ _ _ _ k S) (omega arith) (omega arith))
      by_result (some t) q =
          rw (q, return_faults) (inside-if _ 17 i at to (omega arith) (omega (arith, grows W _ _ _ _ k)) and widen (of-type-inside W _ _ _ _ k t S) (omega arith) (omega arith))

  pub number-inside : (S : Scopes) {o : Option Expr} {at to : ℕ} → NumberAt (sort_in W) (Parses (sort_in W)) o at to → Inside at to (optional_num W S o)
  unfolding optional_num
  number-inside S (no_number f e) = no-fault
  number-inside S (a-number b n c k) = widen (of-type-inside W _ _ _ _ k a_num S) (omega arith) (omega arith)

  pub step-inside : (S : Scopes) {o : Option Expr} {at to : ℕ} → StepAt (sort_in W) (Parses (sort_in W)) o at to → Inside at to (optional_num W S o)
  unfolding optional_num
  step-inside S (no_step f e) = no-fault
  step-inside S (a-step s k) = widen (of-type-inside W _ _ _ _ k a_num S) (omega arith) (omega arith)

  -- ---- where parts end
  arguments-on : {closing : ℕ} {es : List Expr} {at to : ℕ} → ArgumentsAt (sort_in W) (Parses (sort_in W)) closing es at to → at ≤ to
  arguments-on h = arguments-grow (sort_in W) (Parses (sort_in W)) (grows W) h

  exprs-on : {es : List Expr} {at to : ℕ} → ExprsAt (sort_in W) (Parses (sort_in W)) es at to → at < to
  exprs-on h = exprs-grow (sort_in W) (Parses (sort_in W)) (grows W) h

  target-on : {t : Target} {at to : ℕ} → TargetAt (sort_in W) (Parses (sort_in W)) t at to → at < to
  target-on h = target-grows (sort_in W) (Parses (sort_in W)) (grows W) h

  simple-on : {s : Simple} {at to : ℕ} → SimpleAt (sort_in W) (Parses (sort_in W)) s at to → at < to
  simple-on h = simple-grows (sort_in W) (Parses (sort_in W)) (grows W) h

  list_on : {d : ℕ} {l : Statements} {at to : ℕ} → ListAt (sort_in W) (Parses (sort_in W)) d l at to → at ≤ to
  list_on h = list-grows (sort_in W) (Parses (sort_in W)) (grows W) h

  -- ---- simple statements
  pub simple-inside : (K : Setting) (S : Scopes) {s : Simple} {at to : ℕ} → SimpleAt (sort_in W) (Parses (sort_in W)) s at to → Inside at to (simple_faults W K S s)
  unfolding simple_faults
  simple-inside K S (assigning h b f k) =
      widen (target-inside S h) (omega arith) (omega (arith, grows W _ _ _ _ k)) and widen (of-type-inside W _ _ _ _ k _ S) (omega (arith, target-on h)) (omega arith)
  simple-inside K S (assigning-call {f = callee} {es = es} {at = at} {to = to} h b i a o k c z) =
      widen (target-inside S h) (omega arith) (omega (arith, arguments-on k))
      and call-inside callee at to (omega (arith, target-on h)) (omega (arith, arguments-on k)) K true S es (λ ts. widen (arguments-inside S ts k) (omega (arith, target-on h)) (omega arith))
      and result-inside callee at to (omega (arith, target-on h)) (omega (arith, arguments-on k)) _ _
  simple-inside K S (calling {p = callee} {es = es} {at = at} {to = to} i a f g k) =
      call-inside callee at to (omega arith) (omega (arith, arguments-on k)) K false S es (λ ts. widen (arguments-inside S ts k) (omega arith) (omega arith))
  simple-inside K S (returning {i = j} i a k) = return-inside K S j i refl k
  simple-inside K S (raising {i = j} {at = at} {to = to} i a (no_value s e)) = inside-if _ 17 j at to (omega arith) (omega arith)
  simple-inside K S (raising {i = j} {at = at} {to = to} i a (a-value f k)) =
      inside-if _ 17 j at to (omega arith) (omega (arith, grows W _ _ _ _ k)) and widen (of-type-inside W _ _ _ _ k a_num S) (omega arith) (omega arith)
  simple-inside K S (exiting {i = j} {at = at} {to = to} i a z) = inside-if _ 17 j at to (omega arith) (omega arith)
  simple-inside K S (retrying {i = j} {at = at} {to = to} i a z) = inside-if _ 17 j at to (omega arith) (omega arith)
  simple-inside K S (trying-next {i = j} {at = at} {to = to} i a z) = inside-if _ 17 j at to (omega arith) (omega arith)
  simple-inside K S (writing i a j s k) = widen (number-inside S k) (omega arith) (omega arith)
  simple-inside K S (reading i a h c j s z) = widen (target-ordered S a_num h).inside (omega arith) (omega arith)

  -- ---- statements
  module _ (K : Setting) (M : Memory) where
    mutual
      unfolding statement_faults

      pub statement-inside : {d : ℕ} {s : Statement} {at to : ℕ} → StatementAt (sort_in W) (Parses (sort_in W)) d s at to → (S : Scopes) (n : ℕ) → Inside at to (statement_faults W K M s S n)
      statement-inside (plain k e z) S n = widen (simple-inside K S k) (omega arith) (omega arith)
      statement-inside (compact i w k f q c z) S n =
          widen (of-type-inside W _ _ _ _ k a_bool S) (omega arith) (omega (arith, simple-on q)) and widen (simple-inside K S q) (omega (arith, grows W _ _ _ _ k)) (omega arith)
      statement-inside (full deep i w p k c z) S n =
          widen (arms-inside p S n) (omega arith) (omega (arith, else-grows (sort_in W) (Parses (sort_in W)) (grows W) k))
          and widen (else-inside k S _) (omega (arith, arms-grow (sort_in W) (Parses (sort_in W)) (grows W) p)) (omega arith)
      statement-inside (counting {v = v} {at = at} {to = to} deep i p l e z) S n =
          let starts = grows W _ _ _ _ p.start in
          let ends = grows W _ _ _ _ p.end in
          let steps = step-grows (sort_in W) (Parses (sort_in W)) (grows W) p.step_part in
          let lists = list_on l in
          inside-if _ 10 v at to (omega (arith, p.variable)) (omega (arith, p.variable))
          and inside-if _ 19 v at to (omega (arith, p.variable)) (omega (arith, p.variable))
          and inside-if _ 16 v at to (omega (arith, p.variable)) (omega (arith, p.variable))
          and widen (of-type-inside W _ _ _ _ p.start a_num S) (omega arith) (omega arith)
          and widen (of-type-inside W _ _ _ _ p.end a_num S) (omega arith) (omega arith)
          and widen (step-inside S p.step_part) (omega arith) (omega arith)
          and widen (list_inside l _ _) (omega arith) (omega arith)
      statement-inside (looping deep i w k o l c z) S n =
          widen (of-type-inside W _ _ _ _ k a_bool S) (omega arith) (omega (arith, list_on l)) and widen (list_inside l S n) (omega (arith, grows W _ _ _ _ k)) (omega arith)
      statement-inside (testing deep i w k l q t z) S n =
          let starts = grows W _ _ _ _ k in
          let cases = cases-grow (sort_in W) (Parses (sort_in W)) (grows W) l in
          let rest = default-grows (sort_in W) (Parses (sort_in W)) (grows W) q in
          widen (of-type-inside W _ _ _ _ k a_num S) (omega arith) (omega arith)
          and widen (cases-inside l S n) (omega arith) (omega arith)
          and widen (default-inside q S _) (omega arith) (omega arith)

      pub list_inside : {d : ℕ} {l : Statements} {at to : ℕ} → ListAt (sort_in W) (Parses (sort_in W)) d l at to → (S : Scopes) (n : ℕ) → Inside at to (list_faults W K M l S n)
      list_inside (ended s e) S n = no-fault
      list_inside (begun t k r) S n =
          widen (statement-inside k S n) (omega arith) (omega (arith, list_on r))
          and widen (list_inside r S _) (omega (arith, statement-grows (sort_in W) (Parses (sort_in W)) (grows W) k)) (omega arith)

      pub arms-inside : {d : ℕ} {x : Arms} {at to : ℕ} → ArmsAt (sort_in W) (Parses (sort_in W)) d x at to → (S : Scopes) (n : ℕ) → Inside at to (arm_faults W K M x S n)
      arms-inside (last-arm k t l f) S n =
          widen (of-type-inside W _ _ _ _ k a_bool S) (omega arith) (omega (arith, list_on l)) and widen (list_inside l S n) (omega (arith, grows W _ _ _ _ k)) (omega arith) and no-fault
      arms-inside (more-arms k t l c r) S n =
          let starts = grows W _ _ _ _ k in
          let lists = list_on l in
          let rest = arms-grow (sort_in W) (Parses (sort_in W)) (grows W) r in
          widen (of-type-inside W _ _ _ _ k a_bool S) (omega arith) (omega arith)
          and widen (list_inside l S n) (omega arith) (omega arith)
          and widen (arms-inside r S _) (omega arith) (omega arith)

      pub else-inside : {d : ℕ} {o : Statements} {at to : ℕ} → ElseAt (sort_in W) (Parses (sort_in W)) d o at to → (S : Scopes) (n : ℕ) → Inside at to (list_faults W K M o S n)
      else-inside (no-else f e) S n = no-fault
      else-inside (an-else c l) S n = widen (list_inside l S n) (omega arith) (omega arith)

      pub cases-inside : {d : ℕ} {c : Cases} {at to : ℕ} → CasesAt (sort_in W) (Parses (sort_in W)) d c at to → (S : Scopes) (n : ℕ) → Inside at to (cases_faults W K M c S n)
      cases-inside (no-more-cases f e) S n = no-fault
      cases-inside (one-case c k o l r) S n =
          let starts = exprs-on k in
          let lists = list_on l in
          let rest = cases-grow (sort_in W) (Parses (sort_in W)) (grows W) r in
          widen (case-inside S M k) (omega arith) (omega arith)
          and widen (list_inside l S n) (omega arith) (omega arith)
          and widen (cases-inside r S _) (omega arith) (omega arith)

      pub default-inside : {d : ℕ} {o : Statements} {at to : ℕ} → DefaultAt (sort_in W) (Parses (sort_in W)) d o at to → (S : Scopes) (n : ℕ) → Inside at to (list_faults W K M o S n)
      default-inside (no_default f e) S n = no-fault
      default-inside (a-default c i l) S n = widen (list_inside l S n) (omega arith) (omega arith)

    pub behind-inside : {sort : ℕ} {o : Option RoutineList} {at to : ℕ} → ListBehindAt (sort_in W) (Parses (sort_in W)) sort o at to → (S : Scopes) (n : ℕ) → Inside at to (optional_faults W K M S n o)
    unfolding optional_faults
    behind-inside (no-list f e) S n = no-fault
    behind-inside (a-list c h) S n = widen (list_inside h.statements S n) (omega arith) (omega arith)
