-- The steps of a routine lead to its own steps, and its loops own words behind its data: whatever the words and the trees are.
use mathlib.Core.Path.{◌≡◌, refl, sym, ◌∙◌}
use mathlib.Core.Bool.{true}
use mathlib.Core.List.{List, [], ◌∷◌, ◌++◌, map}
use mathlib.Core.Option.{Option, none, some}
use Prim.Native.Nat.{ℕ, suc, ◌+◌, ◌≤◌}
use native.Mathlib.Omega.{arith}
use lib.ListN.{length}
use borrow.Author.Tests.{eq-eqb, ne_eqb}
use Rattle.laws.proofs.Tests.{by-same, false-true}
use Rattle.paper.specs.Words.{Word}
use Rattle.paper.specs.Terms.{of_routine, Memory}
use Rattle.paper.specs.Trees.{Simple, first_simple, assign, assign_call, call, returns, raises, exits, retries, tries_next, writes, reads, Statement, Statements, Arms, Cases, simple, compact_if, full_if, for, while, test, empty, ◌then◌, no_arm, arm, no_case, case, RoutineList, Routine, Module}
use Rattle.paper.specs.Names.{Scopes, spelled, enter}
use Rattle.paper.specs.Declarations.{routine_data, routine_scopes}
use Rattle.paper.specs.Checks.{WhichList, the_body, the_handler, the_undo, fors_in, fors_in_list, fors_in_arms, fors_in_cases, fors_in_optional}
use Rattle.paper.specs.Types.{term_of}
use Rattle.paper.specs.Steps.{Action, choose, select, test_while, enter_for, repeat_for, end_list, end_undo, optional_term, Step, step, first_word, begin, action_of, simple_step, conditions, constants}
use Rattle.paper.specs.Steps.{steps_of, steps_of_list, steps_of_arms, steps_of_cases, first_step, list_steps, optional_steps, optional_start, code_of}
use Rattle.code.specs.Closed.{Every, done, also, is_named, Named, where_of, case_of, targets_of, GoesOn, Closed, LoopFits, OwnLoop}
use Rattle.code.proofs.Options.{none-some, same_some}
use Rattle.faults.specs.Parts.{memory_of}
use Rattle.check_links.specs.Raw.{ending_of}
use Rattle.check_links.proofs.Walked.{every-both, every-as}

-- ---- names of steps
module _ (s : Step) (r : List Step) (n : ℕ) where
  named_here : s.name ≡ n → is_named (s ∷ r) n ≡ true
  unfolding is_named
  named_here e = rw (eq-eqb s.name n e, is_named)

  named-later : is_named r n ≡ true → is_named (s ∷ r) n ≡ true
  unfolding is_named
  named-later h = by-same s.name n named_here (λ d. rw (ne_eqb s.name n d, is_named) h)

  named_other : is_named (s ∷ r) n ≡ true → (s.name ≡ n → ⊥) → is_named r n ≡ true
  unfolding is_named
  named_other h d = sym (rw (ne_eqb s.name n d, is_named)) ∙ h

named-left : (l r : List Step) (n : ℕ) → is_named l n ≡ true → is_named (l ++ r) n ≡ true
unfolding is_named
named-left [] r n h = false-true h
named-left (s ∷ l) r n h = by-same s.name n (named_here s (l ++ r) n) (λ d. named-later s (l ++ r) n (named-left l r n (named_other s l n h d)))

named-right : (l r : List Step) (n : ℕ) → is_named r n ≡ true → is_named (l ++ r) n ≡ true
named-right [] r n h = h
named-right (s ∷ l) r n h = named-later s (l ++ r) n (named-right l r n h)

one-named : (i : ℕ) (around : List ℕ) (after : ℕ) (a : Action) → is_named (step i around after a) i ≡ true
unfolding step
one-named i around after a = named_here _ [] i refl

-- ---- T has the names of all steps of a part
module _ (T : List Step) where
  abbrev Has : ℕ → Type 0
  Has n = is_named T n ≡ true

  record Into (l : List Step) : Type 0 where
    into : (n : ℕ) → is_named l n ≡ true → Has n

  left : (l r : List Step) → Into (l ++ r) → Into l
  left l r f = record { into = λ n h. f.into n (named-left l r n h) }

  right : (l r : List Step) → Into (l ++ r) → Into r
  right l r f = record { into = λ n h. f.into n (named-right l r n h) }

  -- a step leads to steps of T, and if it is a loop's, its word is not before the k-th
  record Sound (k : ℕ) (s : Step) : Type 0 where
    goes : GoesOn T s
    fits : OwnLoop k s

  one-sound : (k i : ℕ) (around : List ℕ) (after : ℕ) (a : Action) → Has after → Named T (targets_of a) → LoopFits k a → Every (Sound k) (step i around after a)
  unfolding step Named
  one-sound k i around after a h t f = also (record { goes = (h, t); fits = f }) done

  module _ (W : List Word) (M : Memory) where
    -- ---- simple statements
    simple-targets : (S : Scopes) (s : Simple) → Named T (targets_of (action_of W S s))
    unfolding Named targets_of action_of
    simple-targets S (assign t e) = tt
    simple-targets S (assign_call t f es) = tt
    simple-targets S (call p es) = tt
    simple-targets S (returns i e) = tt
    simple-targets S (raises i none) = tt
    simple-targets S (raises i (some e)) = tt
    simple-targets S (exits i) = tt
    simple-targets S (retries i) = tt
    simple-targets S (tries_next i) = tt
    simple-targets S (writes i s e) = tt
    simple-targets S (reads i t s) = tt

    simple-fits : (k : ℕ) (S : Scopes) (s : Simple) → LoopFits k (action_of W S s)
    unfolding LoopFits action_of
    simple-fits k S (assign t e) = tt
    simple-fits k S (assign_call t f es) = tt
    simple-fits k S (call p es) = tt
    simple-fits k S (returns i e) = tt
    simple-fits k S (raises i none) = tt
    simple-fits k S (raises i (some e)) = tt
    simple-fits k S (exits i) = tt
    simple-fits k S (retries i) = tt
    simple-fits k S (tries_next i) = tt
    simple-fits k S (writes i s e) = tt
    simple-fits k S (reads i t s) = tt

    simple-sound : (k : ℕ) (S : Scopes) (s : Simple) (around : List ℕ) (after : ℕ) → Has after → Every (Sound k) (simple_step W S s around after)
    unfolding simple_step
    simple-sound k S s around after h = one-sound k (first_simple s) around after (action_of W S s) h (simple-targets S s) (simple-fits k S s)

    simple-named : (S : Scopes) (s : Simple) (around : List ℕ) (after : ℕ) → is_named (simple_step W S s around after) (first_simple s) ≡ true
    unfolding simple_step
    simple-named S s around after = one-named (first_simple s) around after (action_of W S s)

    -- ---- first steps
    statement-named : (s : Statement) (S : Scopes) (n : ℕ) (around : List ℕ) (after : ℕ) → is_named (steps_of W M s S n around after) (first_word s) ≡ true
    unfolding steps_of first_word
    statement-named (simple s) S n around after = simple-named S s around after
    statement-named (compact_if i e s) S n around after = named-left _ _ i (one-named i around after _)
    statement-named (full_if i a o) S n around after = named-left _ _ i (named-left _ _ i (one-named i around after _))
    statement-named (for i v a b c body end) S n around after = named-left _ _ i (named-left _ _ i (one-named i around after _))
    statement-named (while i e body) S n around after = named-left _ _ i (one-named i around after _)
    statement-named (test i e c d) S n around after = named-left _ _ i (named-left _ _ i (one-named i around after _))

    begin-named : (l : Statements) (S : Scopes) (n : ℕ) (around : List ℕ) (after : ℕ) → Into (steps_of_list W M l S n around after) → Has after → Has (begin l after)
    unfolding steps_of_list begin
    begin-named empty S n around after f h = h
    begin-named (s then r) S n around after f h = (left _ _ f).into (first_word s) (statement-named s S n around (begin r after))

    arms-named : (a : Arms) (S : Scopes) (n : ℕ) (around : List ℕ) (after : ℕ) → Into (steps_of_arms W M a S n around after) → Has after → Named T (map where_of (conditions W S a after))
    unfolding steps_of_arms conditions Named
    arms-named no_arm S n around after f h = tt
    arms-named (arm e b r) S n around after f h = (begin-named b S n around after (left _ _ f) h, arms-named r S (n + fors_in_list b) around after (right (steps_of_list W M b S n around after) _ f) h)

    cases-named : (c : Cases) (S : Scopes) (n : ℕ) (around : List ℕ) (after : ℕ) → Into (steps_of_cases W M c S n around after) → Has after → Named T (map case_of (constants W S M c after))
    unfolding steps_of_cases constants Named
    cases-named no_case S n around after f h = tt
    cases-named (case es b r) S n around after f h = (begin-named b S n around after (left _ _ f) h, cases-named r S (n + fors_in_list b) around after (right (steps_of_list W M b S n around after) _ f) h)

    -- ---- the trees
    mutual
      unfolding steps_of steps_of_list steps_of_arms steps_of_cases Named targets_of LoopFits

      statement-sound : (k : ℕ) (s : Statement) (S : Scopes) (n : ℕ) (around : List ℕ) (after : ℕ) → k ≤ n → Into (steps_of W M s S n around after) → Has after → Every (Sound k) (steps_of W M s S n around after)
      statement-sound k (simple s) S n around after kn f h = simple-sound k S s around after h
      statement-sound k (compact_if i e s) S n around after kn f h =
          let x = step i around after (choose ((term_of W S e, first_simple s) ∷ []) after) in
          let t : Has (first_simple s) = (right x (simple_step W S s around after) f).into (first_simple s) (simple-named S s around after) in
          every-both _ _ (one-sound k i around after _ h (h, (t, tt)) tt) (simple-sound k S s around after h)
      statement-sound k (full_if i a o) S n around after kn f h =
          let x = step i around after (choose (conditions W S a after) (begin o after)) in
          let y = steps_of_arms W M a S n around after in
          let z = steps_of_list W M o S (n + fors_in_arms a) around after in
          let fy : Into y = right x y (left (x ++ y) z f) in
          let fz : Into z = right (x ++ y) z f in
          every-both _ _
          (every-both _ _
          (one-sound k i around after _ h (begin-named o S (n + fors_in_arms a) around after fz h, arms-named a S n around after fy h) tt)
          (arms-sound k a S n around after kn fy h))
          (list-sound k o S (n + fors_in_arms a) around after (omega arith) fz h)
      statement-sound k (for i v a b c body end) S n around after kn f h =
          let B : Scopes = enter (spelled W v) (of_routine n) S in
          let x = step i around after (enter_for n (term_of W S a) (term_of W S b) (optional_term W S c) (begin body end)) in
          let y = steps_of_list W M body B (suc n) (n ∷ around) end in
          let s : Step = record { name = end; place = i; after = after; around = n ∷ around; does = repeat_for n (begin body end) } in
          let fy : Into y = right x y (left (x ++ y) (s ∷ []) f) in
          let e : Has end = (right (x ++ y) (s ∷ []) f).into end (named_here s [] end refl) in
          let d : Has (begin body end) = begin-named body B (suc n) (n ∷ around) end fy e in
          every-both _ _
          (every-both _ _ (one-sound k i around after _ h (d, tt) kn) (list-sound k body B (suc n) (n ∷ around) end (omega arith) fy e))
          (also (record { goes = (h, (d, tt)); fits = kn }) done)
      statement-sound k (while i e body) S n around after kn f h =
          let x = step i around after (test_while (term_of W S e) (begin body i)) in
          let y = steps_of_list W M body S n around i in
          let fy : Into y = right x y f in
          let t : Has i = (left x y f).into i (one-named i around after _) in
          every-both _ _ (one-sound k i around after _ h (begin-named body S n around i fy t, tt) tt) (list-sound k body S n around i kn fy t)
      statement-sound k (test i e c d) S n around after kn f h =
          let x = step i around after (select (term_of W S e) (constants W S M c after) (begin d after)) in
          let y = steps_of_cases W M c S n around after in
          let z = steps_of_list W M d S (n + fors_in_cases c) around after in
          let fy : Into y = right x y (left (x ++ y) z f) in
          let fz : Into z = right (x ++ y) z f in
          every-both _ _
          (every-both _ _
          (one-sound k i around after _ h (begin-named d S (n + fors_in_cases c) around after fz h, cases-named c S n around after fy h) tt)
          (cases-sound k c S n around after kn fy h))
          (list-sound k d S (n + fors_in_cases c) around after (omega arith) fz h)

      list-sound : (k : ℕ) (l : Statements) (S : Scopes) (n : ℕ) (around : List ℕ) (after : ℕ) → k ≤ n → Into (steps_of_list W M l S n around after) → Has after → Every (Sound k) (steps_of_list W M l S n around after)
      list-sound k empty S n around after kn f h = done
      list-sound k (s then r) S n around after kn f h =
          let fr = right (steps_of W M s S n around (begin r after)) (steps_of_list W M r S (n + fors_in s) around after) f in
          every-both _ _
          (statement-sound k s S n around (begin r after) kn (left _ _ f) (begin-named r S (n + fors_in s) around after fr h))
          (list-sound k r S (n + fors_in s) around after (omega arith) fr h)

      arms-sound : (k : ℕ) (a : Arms) (S : Scopes) (n : ℕ) (around : List ℕ) (after : ℕ) → k ≤ n → Into (steps_of_arms W M a S n around after) → Has after → Every (Sound k) (steps_of_arms W M a S n around after)
      arms-sound k no_arm S n around after kn f h = done
      arms-sound k (arm e b r) S n around after kn f h =
          every-both _ _
          (list-sound k b S n around after kn (left _ _ f) h)
          (arms-sound k r S (n + fors_in_list b) around after (omega arith) (right (steps_of_list W M b S n around after) _ f) h)

      cases-sound : (k : ℕ) (c : Cases) (S : Scopes) (n : ℕ) (around : List ℕ) (after : ℕ) → k ≤ n → Into (steps_of_cases W M c S n around after) → Has after → Every (Sound k) (steps_of_cases W M c S n around after)
      cases-sound k no_case S n around after kn f h = done
      cases-sound k (case es b r) S n around after kn f h =
          every-both _ _
          (list-sound k b S n around after kn (left _ _ f) h)
          (cases-sound k r S (n + fors_in_list b) around after (omega arith) (right (steps_of_list W M b S n around after) _ f) h)

    -- ---- the lists of a routine
    end-targets : (which : WhichList) → Named T (targets_of (ending_of which))
    unfolding ending_of Named targets_of
    end-targets the_body = tt
    end-targets the_handler = tt
    end-targets the_undo = tt

    end_fits : (k : ℕ) (which : WhichList) → LoopFits k (ending_of which)
    unfolding ending_of LoopFits
    end_fits k the_body = tt
    end_fits k the_handler = tt
    end_fits k the_undo = tt

    module _ (which : WhichList) where
      abbrev end : Action
      end = ending_of which

      end-named : (l : RoutineList) (S : Scopes) (n : ℕ) → Into (list_steps W end M S n l) → Has l.closes
      unfolding list_steps
      end-named l S n f = (right (steps_of_list W M l.statements S n [] l.closes) _ f).into l.closes (one-named l.closes [] l.closes end)

      routine-list-sound : (k : ℕ) (l : RoutineList) (S : Scopes) (n : ℕ) → k ≤ n → Into (list_steps W end M S n l) → Every (Sound k) (list_steps W end M S n l)
      unfolding list_steps
      routine-list-sound k l S n kn f =
          let z : Has l.closes = end-named l S n f in
          every-both _ _ (list-sound k l.statements S n [] l.closes kn (left _ _ f) z) (one-sound k l.closes [] l.closes end z (end-targets which) (end_fits k which))

      optional-sound : (k : ℕ) (o : Option RoutineList) (S : Scopes) (n : ℕ) → k ≤ n → Into (optional_steps W end M S n o) → Every (Sound k) (optional_steps W end M S n o)
      unfolding optional_steps
      optional-sound k none S n kn f = done
      optional-sound k (some l) S n kn f = routine-list-sound k l S n kn f

      list-starts : (l : RoutineList) (S : Scopes) (n : ℕ) → Into (list_steps W end M S n l) → Has (first_step W l)
      unfolding list_steps first_step
      list-starts l S n f = begin-named l.statements S n [] l.closes (left _ _ f) (end-named l S n f)

      optional-starts : (o : Option RoutineList) (S : Scopes) (n h : ℕ) → Into (optional_steps W end M S n o) → optional_start W o ≡ some h → Has h
      unfolding optional_steps optional_start
      optional-starts none S n h f e = none-some h e
      optional-starts (some l) S n h f e = sym (rw (same_some (first_step W l) h e)) ∙ list-starts l S n f

-- ---- routines
module _ (W : List Word) (m : Module) (r : Routine) where
  abbrev T : List Step
  T = (code_of W m r).steps

  abbrev S : Scopes
  S = routine_scopes W m r

  abbrev M : Memory
  M = memory_of W m r

  abbrev n : ℕ
  n = length (routine_data W m r).words

  all : Into T T
  all = record { into = λ n h. h }

  abbrev body_steps : List Step
  body_steps = list_steps W end_list M S n r.body

  abbrev handler_steps : List Step
  handler_steps = optional_steps W end_list M S (n + fors_in_list r.body.statements) r.handler

  abbrev undo_steps : List Step
  undo_steps = optional_steps W end_undo M S (n + fors_in_list r.body.statements + fors_in_optional r.handler) r.undo

  -- all steps are those of the three lists
  in_both : Into T (body_steps ++ handler_steps)
  unfolding code_of
  in_both = left T (body_steps ++ handler_steps) undo_steps all

  in-undo : Into T undo_steps
  unfolding code_of
  in-undo = right T (body_steps ++ handler_steps) undo_steps all

  sound : Every (Sound T n) T
  unfolding code_of ending_of
  sound =
      every-both _ _
      (every-both _ _
      (routine-list-sound T W M the_body n r.body S n (omega arith) (left T body_steps handler_steps in_both))
      (optional-sound T W M the_handler n r.handler S _ (omega arith) (right T body_steps handler_steps in_both)))
      (optional-sound T W M the_undo n r.undo S _ (omega arith) in-undo)

  pub closed : Closed (code_of W m r)
  unfolding code_of ending_of
  closed =
      record {
        starts = list-starts T W M the_body r.body S n (left T body_steps handler_steps in_both);
        handles = λ h e. optional-starts T W M the_handler r.handler S _ h (right T body_steps handler_steps in_both) e;
        undoes = λ u e. optional-starts T W M the_undo r.undo S _ u in-undo e;
        goes-on = every-as (λ s x. x.goes) T sound;
      }

  pub loops-fit : Every (OwnLoop (length (code_of W m r).words)) T
  unfolding code_of
  loops-fit = every-as (λ s x. x.fits) T sound
