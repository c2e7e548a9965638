-- The tables of steps: each step stands at a word of its statement's sort, calls a routine of the module, and goes on at a step of its own list.
use mathlib.Core.Path.{◌≡◌, refl, ap, ◌∙◌}
use mathlib.Core.Bool.{Bool, true, false}
use mathlib.Core.List.{List, [], ◌∷◌, ◌++◌, map}
use mathlib.Core.Option.{Option, none, some}
use Prim.Native.Nat.{ℕ, zero, suc, ◌+◌, ◌<◌}
use native.Mathlib.Omega.{arith}
use lib.Dec.{eqb}
use borrow.Author.Tests.{eqb-true, eqb-false}
use lib.ListN.{length, get_or}
use Rattle.laws.specs.Options.{WhereSome}
use Rattle.laws.proofs.Tests.{apart}
use Rattle.paper.specs.Sorts.{NAME, IF, FOR, WHILE, TEST, RETURN, RAISE, EXIT, RETRY, TRYNEXT, TPWRITE, TPREADNUM}
use Rattle.paper.specs.Words.{Word}
use Rattle.paper.specs.Terms.{of_routine, Memory}
use Rattle.paper.specs.Trees.{Simple, first_simple, assign, assign_call, call, returns, raises, exits, retries, tries_next, writes, reads, Statement, Statements, Arms, Cases, simple, compact_if, full_if, for, while, test, empty, ◌then◌, no_arm, arm, no_case, case, RoutineList, Routine, Module}
use Rattle.paper.specs.Expressions.{starts_statement, starts_simple}
use Rattle.paper.specs.Names.{sort_in, spelled, enter, Scopes}
use Rattle.paper.specs.Types.{term_of}
use Rattle.paper.specs.Declarations.{routine_data, routine_scopes, routine_filling}
use Rattle.paper.specs.Checks.{is_some, fors_in_list, fors_in_optional}
use Rattle.paper.specs.Steps.{optional_term, conditions, constants, begin, first_word, first_step, Action, store, call_for, call_of, give_back, raise, hand_on, exit, retry, try_next, write, read, choose}
use Rattle.paper.specs.Steps.{select, test_while, enter_for, repeat_for, end_list, end_undo, parts_of, Step, step, action_of, simple_step, steps_of, steps_of_list, steps_of_arms, steps_of_cases, Code, list_steps, optional_steps, optional_start}
use Rattle.paper.specs.Steps.{code_of, program_of}
use Rattle.paper.specs.Running.{no_code, code_at, step_named}
use Rattle.raised.proofs.Choices.{forked, forked-by}
use Rattle.demands.proofs.Alls.{◌and◌, first_of, rest_of, front_of, back-of, all_map}
use Rattle.demands.proofs.Routines.{ScopesIn, meaning-in, routine-in, enter-in, scopes-in}
use Rattle.demands.proofs.Parsing.{SimpleSorts, Sorts, SortsOfList, SortsOfArms, SortsOfCases, SortsOfRoutineList, SortsOfOptional, SortsOfRoutine}
use Rattle.demands.specs.Vocabulary.{All, nothing, ◌also◌, Among, here, there, ClosesRoutine, Closes, ways_of}
use Rattle.demands.specs.Aborts.{own_steps, undo_steps, routine_at, own_steps_of, undo_steps_of, Undoable}

module _ (W : List Word) where
  -- A statement begins with the word i.
  abbrev pub Starts : ℕ → Type 0
  Starts i = starts_statement (sort_in W i) ≡ true

  starts_by : (sort i : ℕ) → sort_in W i ≡ sort → starts_statement sort ≡ true → Starts i
  starts_by sort i e h = ap starts_statement e ∙ h

-- What is at the end of a body or an ERROR list is not at that of an UNDO list, nor the reverse.
abbrev ListEnd : (undo : Bool) → (sort : ℕ) → (function : Bool) → Type 0
ListEnd true sort function = ⊥
ListEnd false sort function = Closes sort function

abbrev UndoEnd : (undo : Bool) → (sort : ℕ) → (function : Bool) → Type 0
UndoEnd true sort function = ClosesRoutine sort function
UndoEnd false sort function = ⊥

-- The steps of an UNDO list or of another one, of a function or of a procedure.
module _ (W : List Word) (undo function : Bool) where
  -- A step that does a stands at the word i.
  abbrev pub StandsAt : ℕ → Action → Type 0
  StandsAt i (store t e) = Starts W i
  StandsAt i (call_for t callee k es) = Starts W i × (sort_in W callee ≡ NAME)
  StandsAt i (call_of callee k es) = Starts W i × (sort_in W callee ≡ NAME)
  StandsAt i (give_back e) = Starts W i
  StandsAt i (raise e) = Starts W i
  StandsAt i hand_on = Starts W i
  StandsAt i exit = sort_in W i ≡ EXIT
  StandsAt i retry = Starts W i
  StandsAt i try_next = Starts W i
  StandsAt i (write text e) = sort_in W i ≡ TPWRITE
  StandsAt i (read t text) = sort_in W i ≡ TPREADNUM
  StandsAt i (choose arms otherwise) = Starts W i
  StandsAt i (select e cs otherwise) = Starts W i
  StandsAt i (test_while e body) = Starts W i
  StandsAt i (enter_for k from to d body) = Starts W i
  StandsAt i (repeat_for k body) = Starts W i
  StandsAt i end_list = ListEnd undo (sort_in W i) function
  StandsAt i end_undo = UndoEnd undo (sort_in W i) function

  abbrev pub Stands : Step → Type 0
  Stands s = StandsAt s.place s.does

  -- ---- simple statements
  simple-stands : (S : Scopes) (s : Simple) → SimpleSorts (sort_in W) s → StandsAt (first_simple s) (action_of W S s)
  unfolding action_of first_simple starts_statement starts_simple
  simple-stands S (assign t e) h = starts_by W NAME _ h.0.name refl
  simple-stands S (assign_call t f es) h = (starts_by W NAME _ h.0.name refl, h.1)
  simple-stands S (call p es) h = (starts_by W NAME _ h.0 refl, h.0)
  simple-stands S (returns i e) h = starts_by W RETURN _ h.0 refl
  simple-stands S (raises i none) h = starts_by W RAISE _ h.0 refl
  simple-stands S (raises i (some e)) h = starts_by W RAISE _ h.0 refl
  simple-stands S (exits i) h = h
  simple-stands S (retries i) h = starts_by W RETRY _ h refl
  simple-stands S (tries_next i) h = starts_by W TRYNEXT _ h refl
  simple-stands S (writes i s e) h = h.0
  simple-stands S (reads i t s) h = h.0

  -- ---- all that a step has to fit: n is the number of routines, N tells the names of the steps of its table.
  module _ (n : ℕ) (N : ℕ → Type 0) where
    abbrev pub CallsIn : Action → Type 0
    CallsIn a = WhereSome (λ c. c.1 < n) (parts_of a).callee

    pub record Fits (s : Step) : Type 0 where
      pub stands : Stands s
      pub calls : CallsIn s.does
      pub after : N s.after
      pub ways : All N (ways_of s.does)

    abbrev Named : Step → Type 0
    Named s = N s.name

    module _ (some-routine : 0 < n) where
      simple-calls : (S : Scopes) (s : Simple) → ScopesIn n S → CallsIn (action_of W S s)
      unfolding action_of
      simple-calls S (assign t e) h = tt
      simple-calls S (assign_call t f es) h = routine-in n _ (meaning-in n S _ h) some-routine
      simple-calls S (call p es) h = routine-in n _ (meaning-in n S _ h) some-routine
      simple-calls S (returns i e) h = tt
      simple-calls S (raises i none) h = tt
      simple-calls S (raises i (some e)) h = tt
      simple-calls S (exits i) h = tt
      simple-calls S (retries i) h = tt
      simple-calls S (tries_next i) h = tt
      simple-calls S (writes i s e) h = tt
      simple-calls S (reads i t s) h = tt

      simple-ways : (S : Scopes) (s : Simple) → All N (ways_of (action_of W S s))
      unfolding action_of ways_of
      simple-ways S (assign t e) = nothing
      simple-ways S (assign_call t f es) = nothing
      simple-ways S (call p es) = nothing
      simple-ways S (returns i e) = nothing
      simple-ways S (raises i none) = nothing
      simple-ways S (raises i (some e)) = nothing
      simple-ways S (exits i) = nothing
      simple-ways S (retries i) = nothing
      simple-ways S (tries_next i) = nothing
      simple-ways S (writes i s e) = nothing
      simple-ways S (reads i t s) = nothing

      one-step : (i : ℕ) (around : List ℕ) (after : ℕ) (a : Action) → StandsAt i a → CallsIn a → N after → All N (ways_of a) → All Fits (step i around after a)
      unfolding step
      one-step i around after a h c f w = record { stands = h; calls = c; after = f; ways = w } also nothing

      simple-fits : (S : Scopes) (s : Simple) (around : List ℕ) (after : ℕ) → SimpleSorts (sort_in W) s → ScopesIn n S → N after → All Fits (simple_step W S s around after)
      unfolding simple_step
      simple-fits S s around after h c f = one-step (first_simple s) around after _ (simple-stands S s h) (simple-calls S s c) f (simple-ways S s)

      module _ (M : Memory) where
        -- where a statement and a list begin
        first-named : (s : Statement) (S : Scopes) (k : ℕ) (around : List ℕ) (after : ℕ) → All Named (steps_of W M s S k around after) → N (first_word s)
        unfolding steps_of simple_step step first_word
        first-named (simple s) S k around after h = first_of h
        first-named (compact_if i e s) S k around after h = first_of h
        first-named (full_if i a o) S k around after h = first_of h
        first-named (for i v a b c body end) S k around after h = first_of h
        first-named (while i e body) S k around after h = first_of h
        first-named (test i e c d) S k around after h = first_of h

        begin-named : (l : Statements) (S : Scopes) (k : ℕ) (around : List ℕ) (after : ℕ) → N after → All Named (steps_of_list W M l S k around after) → N (begin l after)
        unfolding steps_of_list begin
        begin-named empty S k around after f h = f
        begin-named (s then r) S k around after f h = first-named s S k around (begin r after) (front_of (steps_of W M s S k around (begin r after)) _ h)

        arms-ways : (a : Arms) (S : Scopes) (k : ℕ) (around : List ℕ) (after : ℕ) → N after → All Named (steps_of_arms W M a S k around after)
            → All N (map (λ x. x.1) (conditions W S a after))
        unfolding steps_of_arms conditions
        arms-ways no_arm S k around after f h = nothing
        arms-ways (arm e b r) S k around after f h =
            begin-named b S k around after f (front_of (steps_of_list W M b S k around after) _ h)
            also arms-ways r S _ around after f (back-of (steps_of_list W M b S k around after) _ h)

        cases-ways : (c : Cases) (S : Scopes) (k : ℕ) (around : List ℕ) (after : ℕ) → N after → All Named (steps_of_cases W M c S k around after)
            → All N (map (λ x. x.1) (constants W S M c after))
        unfolding steps_of_cases constants
        cases-ways no_case S k around after f h = nothing
        cases-ways (case es b r) S k around after f h =
            begin-named b S k around after f (front_of (steps_of_list W M b S k around after) _ h)
            also cases-ways r S _ around after f (back-of (steps_of_list W M b S k around after) _ h)

        mutual
          unfolding steps_of starts_statement starts_simple step simple_step ways_of

          steps-fit : (s : Statement) (S : Scopes) (k : ℕ) (around : List ℕ) (after : ℕ) → Sorts (sort_in W) s → ScopesIn n S → N after
              → All Named (steps_of W M s S k around after) → All Fits (steps_of W M s S k around after)
          steps-fit (simple s) S k around after h c f g = simple-fits S s around after h c f
          steps-fit (compact_if i e s) S k around after h c f g =
              one-step i around after _ (starts_by W IF i h.0 refl) tt f (f also first_of (rest_of g) also nothing) and simple-fits S s around after h.2 c f
          steps-fit (full_if i a o) S k around after h c f g =
              let choice = choose (conditions W S a after) (begin o after) in
              let front = step i around after choice ++ steps_of_arms W M a S k around after in
              let g₁ = back-of (step i around after choice) _ (front_of front _ g) in
              let g₂ = back-of front _ g in
              one-step i around after _ (starts_by W IF i h.0 refl) tt f (begin-named o S _ around after f g₂ also arms-ways a S k around after f g₁)
              and arms-fit a S k around after h.1 c f g₁
              and list-fits o S _ around after h.2 c f g₂
          steps-fit (for i v a b d body end) S k around after h c f g =
              let head = step i around after (enter_for k (term_of W S a) (term_of W S b) (optional_term W S d) (begin body end)) in
              let S' = enter (spelled W v) (of_routine k) S in
              let middle = steps_of_list W M body S' (suc k) (k ∷ around) end in
              let g₁ = back-of head middle (front_of (head ++ middle) _ g) in
              let e : N end = first_of (back-of (head ++ middle) _ g) in
              let w = begin-named body S' (suc k) (k ∷ around) end e g₁ in
              one-step i around after _ (starts_by W FOR i h.0.for refl) tt f (w also nothing)
              and list-fits body S' (suc k) (k ∷ around) end h.1 (enter-in n _ _ S c) e g₁
              and (record { stands = starts_by W FOR i h.0.for refl; calls = tt; after = f; ways = w also nothing } also nothing)
          steps-fit (while i e body) S k around after h c f g =
              let head = step i around after (test_while (term_of W S e) (begin body i)) in
              let g₁ = back-of head _ g in
              one-step i around after _ (starts_by W WHILE i h.0 refl) tt f (begin-named body S k around i (first_of g) g₁ also nothing)
              and list-fits body S k around i h.2 c (first_of g) g₁
          steps-fit (test i e cs d) S k around after h c f g =
              let choice = select (term_of W S e) (constants W S M cs after) (begin d after) in
              let front = step i around after choice ++ steps_of_cases W M cs S k around after in
              let g₁ = back-of (step i around after choice) _ (front_of front _ g) in
              let g₂ = back-of front _ g in
              one-step i around after _ (starts_by W TEST i h.0 refl) tt f (begin-named d S _ around after f g₂ also cases-ways cs S k around after f g₁)
              and cases_fit cs S k around after h.2 c f g₁
              and list-fits d S _ around after h.3 c f g₂

          list-fits : (l : Statements) (S : Scopes) (k : ℕ) (around : List ℕ) (after : ℕ) → SortsOfList (sort_in W) l → ScopesIn n S → N after
              → All Named (steps_of_list W M l S k around after) → All Fits (steps_of_list W M l S k around after)
          list-fits empty S k around after h c f g = nothing
          list-fits (s then r) S k around after h c f g =
              let steps = steps_of W M s S k around (begin r after) in
              let g₁ = back-of steps _ g in
              steps-fit s S k around (begin r after) h.0 c (begin-named r S _ around after f g₁) (front_of steps _ g) and list-fits r S _ around after h.1 c f g₁

          arms-fit : (a : Arms) (S : Scopes) (k : ℕ) (around : List ℕ) (after : ℕ) → SortsOfArms (sort_in W) a → ScopesIn n S → N after
              → All Named (steps_of_arms W M a S k around after) → All Fits (steps_of_arms W M a S k around after)
          arms-fit no_arm S k around after h c f g = nothing
          arms-fit (arm e b r) S k around after h c f g =
              let steps = steps_of_list W M b S k around after in
              list-fits b S k around after h.1 c f (front_of steps _ g) and arms-fit r S _ around after h.2 c f (back-of steps _ g)

          cases_fit : (cs : Cases) (S : Scopes) (k : ℕ) (around : List ℕ) (after : ℕ) → SortsOfCases (sort_in W) cs → ScopesIn n S → N after
              → All Named (steps_of_cases W M cs S k around after) → All Fits (steps_of_cases W M cs S k around after)
          cases_fit no_case S k around after h c f g = nothing
          cases_fit (case es b r) S k around after h c f g =
              let steps = steps_of_list W M b S k around after in
              list-fits b S k around after h.1 c f (front_of steps _ g) and cases_fit r S _ around after h.2 c f (back-of steps _ g)

-- ---- a table, and its steps by name
abbrev pub Known : List Step → ℕ → Type 0
Known steps i = Among i (map (λ s. s.name) steps)

names-known : (l : List Step) → All (λ s. Known l s.name) l
names-known [] = nothing
names-known (s ∷ l) = here also all_map (λ x m. there m) (names-known l)

known_step : (Q : Step → Type 0) (l : List Step) (i : ℕ) → All Q l → Known l i → Q (step_named l i)
unfolding step_named
known_step Q [] i h m = elim m [ ]
known_step Q (s ∷ l) i h here = forked-by Q (eqb s.name s.name) _ _ (λ t. first_of h) (λ t. absurd (eqb-false s.name s.name t refl))
known_step Q (s ∷ l) i h (there m) = forked Q (eqb s.name i) _ _ (first_of h) (known_step Q l i (rest_of h) m)

-- in the first of two parts of a table; in the second, if its name is none of the first
pub known-first : (Q : Step → Type 0) (l r : List Step) (i : ℕ) → All Q l → Known l i → Q (step_named (l ++ r) i)
unfolding step_named
known-first Q [] r i h m = elim m [ ]
known-first Q (s ∷ l) r i h here = forked-by Q (eqb s.name s.name) _ _ (λ t. first_of h) (λ t. absurd (eqb-false s.name s.name t refl))
known-first Q (s ∷ l) r i h (there m) = forked Q (eqb s.name i) _ _ (first_of h) (known-first Q l r i (rest_of h) m)

pub known-second : (Q : Step → Type 0) (l r : List Step) (i : ℕ) → (Known l i → ⊥) → All Q r → Known r i → Q (step_named (l ++ r) i)
unfolding step_named
known-second Q [] r i f h m = known_step Q r i h m
known-second Q (s ∷ l) r i f h m =
    forked-by Q (eqb s.name i) _ _
    (λ t. absurd (f (rw (← eqb-true s.name i t) here)))
    (λ t. known-second Q l r i (λ k. f (there k)) h m)

-- ---- routines and the module
-- A routine's code: its table has the steps of its body and ERROR list, then those of its UNDO list. Its lists begin in their parts, and each step goes on in its own.
pub record CodeFits (W : List Word) (n : ℕ) (own undoing : List Step) (code : Code) : Type 0 where
  pub table : code.steps ≡ own ++ undoing
  pub start : Known own code.start
  pub handler : (h : ℕ) → code.handler ≡ some h → Known own h
  pub undo : (u : ℕ) → code.undo ≡ some u → Known undoing u
  pub own-fit : All (Fits W false code.function n (Known own)) own
  pub undo-fit : All (Fits W true code.function n (Known undoing)) undoing
  -- no name is in both
  pub apart : (i : ℕ) → Known own i → Known undoing i → ⊥
  -- rule 17
  pub undoable : All (λ s. Undoable s.does) undoing

-- Lists that all end with one action: what closes them is such.
module _ (W : List Word) (undo function : Bool) (n : ℕ) (N : ℕ → Type 0) (some-routine : 0 < n) (M : Memory) (S : Scopes) (c : ScopesIn n S)
    (end : Action) (closing : ℕ → Type 0) (stands : (i : ℕ) → closing (sort_in W i) → StandsAt W undo function i end) (calls : CallsIn W undo function n N end) (ways : All N (ways_of end)) where
  abbrev NamedAll : List Step → Type 0
  NamedAll l = All (Named W undo function n N) l

  module _ (k : ℕ) (l : RoutineList) where
    closing-named : NamedAll (list_steps W end M S k l) → N l.closes
    unfolding list_steps step
    closing-named g = first_of (back-of (steps_of_list W M l.statements S k [] l.closes) _ g)

    first-step-named : NamedAll (list_steps W end M S k l) → N (first_step W l)
    unfolding list_steps first_step
    first-step-named g =
        begin-named W undo function n N some-routine M l.statements S k [] l.closes (closing-named g) (front_of (steps_of_list W M l.statements S k [] l.closes) _ g)

    routine-list-fits : SortsOfRoutineList (sort_in W) closing l → NamedAll (list_steps W end M S k l) → All (Fits W undo function n N) (list_steps W end M S k l)
    unfolding list_steps
    routine-list-fits h g =
        let f = closing-named g in
        list-fits W undo function n N some-routine M l.statements S k [] l.closes h.statements c f (front_of (steps_of_list W M l.statements S k [] l.closes) _ g)
        and one-step W undo function n N some-routine l.closes [] l.closes end (stands l.closes h.closes) calls f ways

  -- a list that a routine may have or not
  optional-start-named : (k : ℕ) (o : Option RoutineList) (i : ℕ) → NamedAll (optional_steps W end M S k o) → optional_start W o ≡ some i → N i
  unfolding optional_steps optional_start
  optional-start-named k none i g e = apart (cc)
  optional-start-named k (some l) i g e =
      let q : first_step W l ≡ i = cc in
      rw q at (first-step-named k l g)

  optional-fits : (k : ℕ) (o : Option RoutineList) → SortsOfOptional (sort_in W) closing o → NamedAll (optional_steps W end M S k o) → All (Fits W undo function n N) (optional_steps W end M S k o)
  unfolding optional_steps
  optional-fits k none h g = nothing
  optional-fits k (some l) h g = routine-list-fits k l h g

module _ (W : List Word) (m : Module) where
  abbrev count : ℕ
  count = length m.routines

  -- No name of a step of a routine's UNDO list is one of its other steps', and none of its actions is barred.
  pub record UndoFits (r : Routine) : Type 0 where
    pub apart : (i : ℕ) → Known (own_steps W m r) i → Known (undo_steps W m r) i → ⊥
    pub undoable : All (λ s. Undoable s.does) (undo_steps W m r)

  code_fits : (r : Routine) → 0 < count → SortsOfRoutine (sort_in W) r → UndoFits r → CodeFits W count (own_steps W m r) (undo_steps W m r) (code_of W m r)
  unfolding code_of own_steps undo_steps ways_of
  code_fits r z h u =
      let S = routine_scopes W m r in
      let words = (routine_data W m r).words in
      let M = (routine_filling W m).memory_with words in
      let A = list_steps W end_list M S (length words) r.body in
      let B = optional_steps W end_list M S (length words + fors_in_list r.body.statements) r.handler in
      let U = optional_steps W end_undo M S (length words + fors_in_list r.body.statements + fors_in_optional r.handler) r.undo in
      let N = Known (A ++ B) in
      let f = is_some r.result in
      let front = front_of A B (names-known (A ++ B)) in
      let back = back-of A B (names-known (A ++ B)) in
      let closes : ℕ → Type 0 = λ s. Closes s f in
      let closes-routine : ℕ → Type 0 = λ s. ClosesRoutine s f in
      record {
        table = refl;
        start = first-step-named W false f count N z M S (scopes-in W m r) end_list closes (λ i k. k) tt nothing (length words) r.body front;
        handler = λ i e. optional-start-named W false f count N z M S (scopes-in W m r) end_list closes (λ i k. k) tt nothing _ r.handler i back e;
        undo = λ i e. optional-start-named W true f count (Known U) z M S (scopes-in W m r) end_undo closes-routine (λ i k. k) tt nothing _ r.undo i (names-known U) e;
        own-fit =
            routine-list-fits W false f count N z M S (scopes-in W m r) end_list closes (λ i k. k) tt nothing (length words) r.body h.body front
            and optional-fits W false f count N z M S (scopes-in W m r) end_list closes (λ i k. k) tt nothing _ r.handler h.handler back;
        undo-fit = optional-fits W true f count (Known U) z M S (scopes-in W m r) end_undo closes-routine (λ i k. k) tt nothing _ r.undo h.undo (names-known U);
        apart = u.apart;
        undoable = u.undoable;
      }

  -- A module ready to run.
  pub record ModuleFits : Type 0 where
    pub some-routine : 0 < count
    pub codes : All (λ r. CodeFits W count (own_steps W m r) (undo_steps W m r) (code_of W m r)) m.routines

  pub module-fits : 0 < count → All (SortsOfRoutine (sort_in W)) m.routines → All UndoFits m.routines → ModuleFits
  module-fits z h u = record { some-routine = z; codes = both m.routines h u }
    where
      both : (rs : List Routine) → All (SortsOfRoutine (sort_in W)) rs → All UndoFits rs → All (λ r. CodeFits W count (own_steps W m r) (undo_steps W m r) (code_of W m r)) rs
      both [] h u = nothing
      both (r ∷ rs) h u = code_fits r z (first_of h) (first_of u) also both rs (rest_of h) (rest_of u)

  -- the code of routine k
  abbrev steps_by : (Routine → List Step) → Option Routine → List Step
  steps_by f o = elim o [ none ↦ [] | some r ↦ f r ]

  code-among : (rs : List Routine) (k : ℕ) → All (λ r. CodeFits W count (own_steps W m r) (undo_steps W m r) (code_of W m r)) rs → k < length rs
      → CodeFits W count (steps_by (own_steps W m) (routine_at rs k)) (steps_by (undo_steps W m) (routine_at rs k)) (get_or (map (code_of W m) rs) k no_code)
  unfolding routine_at
  code-among [] k a g = absurd (omega arith)
  code-among (r ∷ rs) zero a g = first_of a
  code-among (r ∷ rs) (suc k) a g = code-among rs k (rest_of a) (omega arith)

  pub code-at : ModuleFits → (k : ℕ) → k < count → CodeFits W count (own_steps_of W m k) (undo_steps_of W m k) (code_at (program_of W m) k)
  unfolding code_at program_of own_steps_of undo_steps_of
  code-at fits k h = code-among m.routines k fits.codes h
