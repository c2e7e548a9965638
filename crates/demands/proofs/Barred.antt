-- Rule 17: where nothing is refused, no step of an UNDO list calls, returns, raises, retries or exits.
use mathlib.Core.Path.{◌≡◌, refl, sym, ap, ◌∙◌}
use mathlib.Core.Bool.{Bool, true, false, not, ◌||◌}
use mathlib.Core.List.{List, [], ◌∷◌, ◌++◌}
use mathlib.Core.Option.{Option, none, some}
use Prim.Native.Nat.{ℕ, suc, ◌+◌}
use lib.ListN.{length}
use Rattle.laws.proofs.Tests.{false-true}
use Rattle.paper.specs.Words.{Word}
use Rattle.paper.specs.Terms.{of_routine, Memory}
use Rattle.paper.specs.Trees.{Expr, Simple, assign, assign_call, call, returns, raises, exits, retries, tries_next, writes, reads, Statement, Statements, Arms, Cases, simple, compact_if, full_if, for, while, test, empty, ◌then◌}
use Rattle.paper.specs.Trees.{no_arm, arm, no_case, case, RoutineList, Routine, Module}
use Rattle.paper.specs.Names.{DataType, a_num, a_bool, Scopes, spelled, cannot_declare, hides_own, enter}
use Rattle.paper.specs.Types.{Fault, fault, fault_if, least, faults_of, of_type}
use Rattle.paper.specs.Declarations.{routine_word_limit, crosses, Signature, signatures, data_texts, routine_name_faults, module_data, routine_filling, routine_data, routine_scopes}
use Rattle.paper.specs.Checks.{the_body, the_handler, the_undo, in_error, in_undo, Setting, fors_in, fors_in_list, fors_in_arms, fors_in_cases, fors_in_optional, judge_target, call_faults, return_faults, optional_num}
use Rattle.paper.specs.Checks.{simple_faults, case_faults, statement_faults, list_faults, arm_faults, cases_faults, optional_faults, setting_in, routine_faults, all_routine_faults, faults}
use Rattle.paper.specs.Steps.{end_undo, Step, step, action_of, simple_step, steps_of, steps_of_list, steps_of_arms, steps_of_cases, list_steps, optional_steps}
use Rattle.demands.proofs.Alls.{◌and◌}
use Rattle.demands.proofs.Faults.{left-empty, right-empty, if-empty, least-none}
use Rattle.demands.specs.Vocabulary.{All, nothing, ◌also◌}
use Rattle.demands.specs.Aborts.{undo_steps, Undoable}

-- A fault that is there is not missing.
there-is : (b : Bool) (number i : ℕ) → b ≡ true → fault_if b number i ≡ [] → ⊥
there-is b number i t e = false-true (sym (if-empty b number i e) ∙ t)

module _ (W : List Word) where
  abbrev Step-undoable : Step → Type 0
  Step-undoable s = Undoable s.does

  -- in an UNDO list
  module _ (K : Setting) (which : K.list ≡ the_undo) where
    in-undo : in_undo K.list ≡ true
    unfolding in_undo
    in-undo = ap in_undo which

    not-in-error : not (in_error K.list) ≡ true
    unfolding in_error
    not-in-error = ap (λ l. not (in_error l)) which

    in-undo-or : (b : Bool) → (in_undo K.list || b) ≡ true
    unfolding in_undo
    in-undo-or b = ap (λ l. in_undo l || b) which

    call-refused : (f : Bool) (S : Scopes) (i : ℕ) (es : List Expr) → call_faults W K f S i es ≡ [] → ⊥
    unfolding call_faults
    call-refused f S i es e = there-is _ 17 i in-undo (left-empty _ _ (left-empty _ _ e))

    return_refused : (S : Scopes) (i : ℕ) (o : Option Expr) → return_faults W K S i o ≡ [] → ⊥
    unfolding return_faults fault_if
    return_refused S i none e = there-is _ 17 i (in-undo-or _) e
    return_refused S i (some x) e = by_result K.result e
      where
        left : Option DataType → List Fault
        left o = elim o [ none ↦ fault 17 i ++ faults_of W S x | some t ↦ fault_if (in_undo K.list) 17 i ++ of_type W t S x ]

        by_result : (o : Option DataType) → left o ≡ [] → ⊥
        by_result none q = there-is true 17 i refl (left-empty (fault 17 i) _ q)
        by_result (some t) q = there-is _ 17 i in-undo (left-empty _ _ q)

    simple-undoable : (S S' : Scopes) (s : Simple) → simple_faults W K S s ≡ [] → Undoable (action_of W S' s)
    unfolding simple_faults action_of
    simple-undoable S S' (assign t e) h = tt
    simple-undoable S S' (assign_call t f es) h =
        let target = (judge_target W S t).faults in
        call-refused true S f es (right-empty target _ (left-empty (target ++ call_faults W K true S f es) _ h))
    simple-undoable S S' (call p es) h = call-refused false S p es h
    simple-undoable S S' (returns i e) h = return_refused S i e h
    simple-undoable S S' (raises i none) h = there-is _ 17 i not-in-error h
    simple-undoable S S' (raises i (some e)) h = there-is _ 17 i (in-undo-or _) (left-empty _ _ h)
    simple-undoable S S' (exits i) h = there-is _ 17 i in-undo h
    simple-undoable S S' (retries i) h = there-is _ 17 i not-in-error h
    simple-undoable S S' (tries_next i) h = there-is _ 17 i not-in-error h
    simple-undoable S S' (writes i s e) h = tt
    simple-undoable S S' (reads i t s) h = tt

    simple-step-undoable : (S S' : Scopes) (s : Simple) (around : List ℕ) (after : ℕ) → simple_faults W K S s ≡ [] → All Step-undoable (simple_step W S' s around after)
    unfolding simple_step step
    simple-step-undoable S S' s around after h = simple-undoable S S' s h also nothing

    module _ (M M' : Memory) where
      mutual
        unfolding statement_faults steps_of step

        statement-undoable : (s : Statement) (S S' : Scopes) (n n' : ℕ) (around : List ℕ) (after : ℕ) → statement_faults W K M s S n ≡ [] → All Step-undoable (steps_of W M' s S' n' around after)
        statement-undoable (simple s) S S' n n' around after h = simple-step-undoable S S' s around after h
        statement-undoable (compact_if i e s) S S' n n' around after h = tt also simple-step-undoable S S' s around after (right-empty (of_type W a_bool S e) _ h)
        statement-undoable (full_if i a o) S S' n n' around after h =
            let front = arm_faults W K M a S n in
            let back = list_faults W K M o S (n + fors_in_arms a) in
            (tt also arms-undoable a S S' n n' around after (left-empty front back h)) and list-undoable o S S' (n + fors_in_arms a) _ around after (right-empty front back h)
        statement-undoable (for i v a b c body end) S S' n n' around after h =
            let S₁ = enter (spelled W v) (of_routine n) S in
            let name = fault_if (cannot_declare [] (spelled W v)) 10 v ++ fault_if (hides_own S (spelled W v)) 19 v ++ fault_if (crosses routine_word_limit n 1) 16 v in
            let front = name ++ of_type W a_num S a ++ of_type W a_num S b ++ optional_num W S c in
            (tt also list-undoable body S₁ _ (suc n) _ _ end (right-empty front (list_faults W K M body S₁ (suc n)) h)) and (tt also nothing)
        statement-undoable (while i e body) S S' n n' around after h = tt also list-undoable body S S' n n' around i (right-empty (of_type W a_bool S e) _ h)
        statement-undoable (test i e c d) S S' n n' around after h =
            let head = of_type W a_num S e in
            let middle = cases_faults W K M c S n in
            let back = list_faults W K M d S (n + fors_in_cases c) in
            (tt also cases-undoable c S S' n n' around after (right-empty head middle (left-empty (head ++ middle) back h)))
            and list-undoable d S S' (n + fors_in_cases c) _ around after (right-empty (head ++ middle) back h)

        list-undoable : (l : Statements) (S S' : Scopes) (n n' : ℕ) (around : List ℕ) (after : ℕ) → list_faults W K M l S n ≡ [] → All Step-undoable (steps_of_list W M' l S' n' around after)
        list-undoable empty S S' n n' around after h = nothing
        list-undoable (s then r) S S' n n' around after h =
            let front = statement_faults W K M s S n in
            let back = list_faults W K M r S (n + fors_in s) in
            statement-undoable s S S' n n' around _ (left-empty front back h) and list-undoable r S S' (n + fors_in s) _ around after (right-empty front back h)

        arms-undoable : (a : Arms) (S S' : Scopes) (n n' : ℕ) (around : List ℕ) (after : ℕ) → arm_faults W K M a S n ≡ [] → All Step-undoable (steps_of_arms W M' a S' n' around after)
        arms-undoable no_arm S S' n n' around after h = nothing
        arms-undoable (arm e b r) S S' n n' around after h =
            let head = of_type W a_bool S e in
            let middle = list_faults W K M b S n in
            let back = arm_faults W K M r S (n + fors_in_list b) in
            list-undoable b S S' n n' around after (right-empty head middle (left-empty (head ++ middle) back h))
            and arms-undoable r S S' (n + fors_in_list b) _ around after (right-empty (head ++ middle) back h)

        cases-undoable : (c : Cases) (S S' : Scopes) (n n' : ℕ) (around : List ℕ) (after : ℕ) → cases_faults W K M c S n ≡ [] → All Step-undoable (steps_of_cases W M' c S' n' around after)
        cases-undoable no_case S S' n n' around after h = nothing
        cases-undoable (case es b r) S S' n n' around after h =
            let head = case_faults W S M es in
            let middle = list_faults W K M b S n in
            let back = cases_faults W K M r S (n + fors_in_list b) in
            list-undoable b S S' n n' around after (right-empty head middle (left-empty (head ++ middle) back h))
            and cases-undoable r S S' (n + fors_in_list b) _ around after (right-empty (head ++ middle) back h)

      optional-undoable : (o : Option RoutineList) (S S' : Scopes) (n n' : ℕ) → optional_faults W K M S n o ≡ [] → All Step-undoable (optional_steps W end_undo M' S' n' o)
      unfolding optional_faults optional_steps list_steps step
      optional-undoable none S S' n n' h = nothing
      optional-undoable (some l) S S' n n' h = list-undoable l.statements S S' n n' [] l.closes h and (tt also nothing)

  -- ---- the module
  routine-undoable : (m : Module) (sigs : List Signature) (k : ℕ) (r : Routine) → routine_faults W m sigs k r ≡ [] → All Step-undoable (undo_steps W m r)
  unfolding routine_faults undo_steps setting_in
  routine-undoable m sigs k r h =
      let D = routine_data W m r in
      let S = routine_scopes W m r in
      let M = (routine_filling W m).memory_with D.words in
      let n = length D.words in
      let body = list_faults W (setting_in W sigs k r the_body) M r.body.statements S n in
      let handler = optional_faults W (setting_in W sigs k r the_handler) M S (n + fors_in_list r.body.statements) r.handler in
      let i = n + fors_in_list r.body.statements + fors_in_optional r.handler in
      optional-undoable (setting_in W sigs k r the_undo) refl M M r.undo S S i i (right-empty (D.faults ++ body ++ handler) (optional_faults W (setting_in W sigs k r the_undo) M S i r.undo) h)

  all-routines-undoable : (m : Module) (sigs : List Signature) (k : ℕ) (rs : List Routine) → all_routine_faults W m sigs k rs ≡ [] → All (λ r. All Step-undoable (undo_steps W m r)) rs
  unfolding all_routine_faults
  all-routines-undoable m sigs k [] h = nothing
  all-routines-undoable m sigs k (r ∷ rs) h =
      let front = routine_faults W m sigs k r in
      let back = all_routine_faults W m sigs (suc k) rs in
      routine-undoable m sigs k r (left-empty front back h) also all-routines-undoable m sigs (suc k) rs (right-empty front back h)

  pub all-undoable : (m : Module) → least (faults W m) ≡ none → All (λ r. All Step-undoable (undo_steps W m r)) m.routines
  unfolding faults
  all-undoable m e =
      let front = (module_data W m).faults ++ routine_name_faults W (data_texts W m.declared) 0 m.routines in
      let sigs = signatures W m 0 m.routines in
      all-routines-undoable m sigs 0 m.routines (right-empty front (all_routine_faults W m sigs 0 m.routines) (least-none (faults W m) e))
