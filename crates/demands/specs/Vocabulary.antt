-- The words that the demands are written in.
use Rattle.std.specs.Prelude.{◌≡◌, Bool, true, false, List, [], ◌∷◌, ◌++◌, map, ℕ, ◌+◌, ◌*◌, ◌≤◌, ◌<◌, ℤ, length, take, drop}
use Rattle.std.proofs.Math.Option.{Option, none, some}
use Rattle.paper.specs.Sorts.{NAME, ERROR, EXIT, ENDPROC, ENDFUNC, TPWRITE, TPREADNUM, UNDO}
use Rattle.paper.specs.Words.{Word}
use Rattle.paper.specs.Expressions.{starts_statement}
use Rattle.paper.specs.Names.{nth, sort_in}
use Rattle.paper.specs.Terms.{Term}
use Rattle.paper.specs.Steps.{Spot, Action, call_for, call_of, give_back, hand_on, retry, try_next, end_list, parts_of, Program}
use Rattle.paper.specs.States.{Location, Call, State, Rooms, Effect, go_to, set_failed}
use Rattle.paper.specs.Running.{code_at, step_of, next_step, new_call, resume, takes, perform, goes_on, take_step, started}

-- A list begins with another.
pub record Begins {A : Type 0} (first second : List A) : Type 0 where
  pub rest : List A
  pub whole : first ++ rest ≡ second

-- "RAISE e raises e in 1..90"; the errors with names are 1001 to 1004.
pub data ErrorNumber (e : ℕ) : Type 0 where
  by-raise : 1 ≤ e → e ≤ 90 → ErrorNumber e
  named : 1001 ≤ e → e ≤ 1004 → ErrorNumber e

-- "ERRNO is the latest error number, 0 before any."
pub data Errno (e : ℕ) : Type 0 where
  before-any : e ≡ 0 → Errno e
  latest : ErrorNumber e → Errno e

-- Each of a list has a property.
infixr 5 ◌also◌
pub data All {A : Type 0} (such : A → Type 0) : List A → Type 0 where
  nothing : All such []
  ◌also◌ : {a : A} {r : List A} → such a → All such r → All such (a ∷ r)

pub data Among {A : Type 0} (a : A) : List A → Type 0 where
  here : {l : List A} → Among a (a ∷ l)
  there : {b : A} {l : List A} → Among a l → Among a (b ∷ l)

-- ---- bytes
abbrev pub IsByte : ℕ → Type 0
IsByte b = b < 256

-- The number that bytes write, the low one first.
unfoldable pub number : List ℕ → ℕ
number [] = 0
number (b ∷ r) = b + 256 * number r

-- Field i of a record's bytes: "eight a field", counted from 0.
unfoldable pub field_in : ℕ → List ℕ → ℕ
field_in i bytes = number (take 8 (drop (8 * i) bytes))

-- ---- words
-- The word that closes a routine: ENDPROC in a PROC and ENDFUNC in a FUNC. It closes an UNDO list, which is a routine's last.
pub data ClosesRoutine (sort : ℕ) : (function : Bool) → Type 0 where
  by-endproc : sort ≡ ENDPROC → ClosesRoutine sort false
  by-endfunc : sort ≡ ENDFUNC → ClosesRoutine sort true

-- "the word that closes the list", of a body or an ERROR list: ERROR, UNDO, or else the word that closes the routine.
pub data Closes (sort : ℕ) (function : Bool) : Type 0 where
  by-error : sort ≡ ERROR → Closes sort function
  by-undo : sort ≡ UNDO → Closes sort function
  by-end : ClosesRoutine sort function → Closes sort function

-- TPWrite and TPReadNum write a line.
pub data WritesLine (sort : ℕ) : Type 0 where
  by-tpwrite : sort ≡ TPWRITE → WritesLine sort
  by-tpreadnum : sort ≡ TPREADNUM → WritesLine sort

-- The next step's place is a statement's first word, or the word that closes a list.
pub data Next (sort : ℕ) : Type 0 where
  a-statement : starts_statement sort ≡ true → Next sort
  the_end : (function : Bool) → Closes sort function → Next sort

-- The same of the next step of an UNDO list.
pub data NextUndo (sort : ℕ) : Type 0 where
  undo-statement : starts_statement sort ≡ true → NextUndo sort
  undo-end : (function : Bool) → ClosesRoutine sort function → NextUndo sort

-- The table of endings: the sort of the word at the offset.
pub data EndsWith : (ending sort : ℕ) → Type 0 where
  -- "2: EXIT: of EXIT"
  at_exit : {s : ℕ} → s ≡ EXIT → EndsWith 2 s
  -- "3: error unhandled: statement it arose in"
  at-statement : {s : ℕ} → starts_statement s ≡ true → EndsWith 3 s
  -- "4: FUNC reached a list's end: the word there"
  at-list-end : {s : ℕ} → Closes s true → EndsWith 4 s
  -- "5: steps spent: the next step's place"
  at_next : {s : ℕ} → Next s → EndsWith 5 s
  -- "6: call beyond the depth, arguments done: the callee"
  at-callee : {s : ℕ} → s ≡ NAME → EndsWith 6 s
  -- "7: no input left for TPReadNum: statement"
  at_read : {s : ℕ} → s ≡ TPREADNUM → EndsWith 7 s
  -- "8: a whole line lacks output room: statement"
  at-line : {s : ℕ} → WritesLine s → EndsWith 8 s
  -- "spent UNDO steps give 10, at the next step's place"
  at-undo : {s : ℕ} → NextUndo s → EndsWith 10 s

-- At an offset there is a word of W, of such a sort.
pub record WordAt (W : List Word) (offset : ℕ) (such : ℕ → Type 0) : Type 0 where
  pub index : ℕ
  pub inside : index < length W
  pub place : (nth W index).place ≡ offset
  pub sort : such (sort_in W index)

-- ---- calls
-- A call but for its words.
abbrev pub bare : Call → Call
bare c = record { routine = c.routine; next = c.next; words = []; loops = c.loops; failed = c.failed; result = c.result }

-- What the next step of the newest call c comes to, whose callers are r.
abbrev pub effect_of : Program → Rooms → Call → List Call → State → Effect
effect_of P R c r s = perform P R c r (next_step P c).place (next_step P c).after (next_step P c).does s

-- The statement is a call of routine k.
pub data CallsRoutine (k : ℕ) : Action → Type 0 where
  for-result : (t : Spot) (callee : ℕ) (es : List Term) → CallsRoutine k (call_for t callee k es)
  for-nothing : (callee : ℕ) (es : List Term) → CallsRoutine k (call_of callee k es)

-- The step returns: a RETURN, or the end of a list.
pub data Returns : Action → Type 0 where
  by-return : (e : Option Term) → Returns (give_back e)
  at-its-end : Returns end_list

-- A call waits for a call that it has made: its next step is that call statement.
pub record Waits (P : Program) (c : Call) : Type 0 where
  pub routine : ℕ
  pub statement : CallsRoutine routine (next_step P c).does

-- The calls `before` are live as an error arises; one of them takes it, and `after` are live then.
pub record Taken (P : Program) (before after : List Call) : Type 0 where
  pub dropped : List Call
  pub taker : Call
  pub callers : List Call
  -- where its ERROR list begins
  pub list : ℕ
  pub found : before ≡ dropped ++ (taker ∷ callers)
  -- "the nearest routine up the call chain, the one it arose in first, that has an ERROR list": no newer one has one
  pub nearest : All (λ c. (code_at P c.routine).handler ≡ none) dropped
  pub has-list : (code_at P taker.routine).handler ≡ some list
  pub not-in-it : taker.failed ≡ none
  -- "those below are dropped"; the routine begins its ERROR list, and the statement that it was at is the failed one
  pub left : after ≡ takes list taker ∷ callers

-- Where a step says itself that its call goes on, besides the step after its statement.
unfoldable pub ways_of : Action → List ℕ
ways_of a = (parts_of a).ways

-- The newest call goes on in its routine; its callers are as they were.
pub record GoesOn (c : Call) (r : List Call) (ways : List ℕ) (after : List Call) : Type 0 where
  pub newest : Call
  pub live : after ≡ newest ∷ r
  pub routine : newest.routine ≡ c.routine
  pub failed : newest.failed ≡ c.failed
  pub result : newest.result ≡ c.result
  pub goes_to : Among newest.next ways

-- What a step can do to the live calls: c is the newest one, whose step it is, r are its callers, `after` are live then. `onward` is the step after its statement.
pub data CallsAfter (P : Program) (c : Call) (r : List Call) (onward : ℕ) (does : Action) (after : List Call) : Type 0 where
  goes-on : GoesOn c r (c.next ∷ onward ∷ ways_of does) after → CallsAfter P c r onward does after
  -- a call statement begins a new call
  begins : (k : ℕ) (arguments : List ℤ) (result : Option Location) → CallsRoutine k does → after ≡ new_call P k arguments result ∷ c ∷ r → CallsAfter P c r onward does after
  -- it returns: its caller goes on after the call
  returns : (d : Call) (older : List Call) → Returns does → r ≡ d ∷ older → map bare after ≡ map bare (resume P d ∷ older) → CallsAfter P c r onward does after
  -- "RETRY begins the failed statement of this routine again; TRYNEXT goes to the one after it."
  retries : (f : ℕ) → does ≡ retry → c.failed ≡ some f → after ≡ go_to f (set_failed none c) ∷ r → CallsAfter P c r onward does after
  tries-next : (f : ℕ) → does ≡ try_next → c.failed ≡ some f → after ≡ go_to (step_of P c f).after (set_failed none c) ∷ r → CallsAfter P c r onward does after
  -- an error arises in it
  fails : Taken P (c ∷ r) after → CallsAfter P c r onward does after
  -- "plain RAISE drops its routine and hands the number in ERRNO to the caller"
  hands-on : does ≡ hand_on → Taken P r after → CallsAfter P c r onward does after

-- The states of a run.
pub data Reached (P : Program) (R : Rooms) (main : ℕ) : State → Type 0 where
  at-start : Reached P R main (started P main)
  by-step : {s s' : State} → Reached P R main s → take_step P R s ≡ goes_on s' → Reached P R main s'

-- From a state of a run to a later one, by states of which each is such.
pub data Leads (P : Program) (R : Rooms) (such : State → Type 0) (s : State) : State → Type 0 where
  at_once : such s → Leads P R such s s
  and_then : {s₁ s₂ : State} → Leads P R such s s₁ → take_step P R s₁ ≡ goes_on s₂ → such s₂ → Leads P R such s s₂
