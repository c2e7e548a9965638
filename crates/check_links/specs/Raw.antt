-- What the walk over a routine's statements writes, in the shape of their trees: a statement stands from the word `at` up to the word `to`, and where it
-- leads on it leads to `to`. Nothing is said of cells outside.
use Rattle.std.specs.Prelude.{◌≡◌, Bool, true, false, List, [], ◌∷◌, map, ℕ, suc, ◌+◌, ◌*◌, ◌<◌, ◌≤◌, length}
use Rattle.std.proofs.Math.Option.{Option, none, some}
use Rattle.paper.specs.Words.{Word}
use Rattle.paper.specs.Terms.{of_routine, Memory}
use Rattle.paper.specs.Trees.{Expr, Target, Simple, first_simple, assign, assign_call, call, returns, raises, exits, retries, tries_next, writes, reads, Statement, Statements, Arms, Cases, simple, compact_if, full_if, for, while, test, empty, ◌then◌, no_arm, arm, no_case, case, RoutineList}
use Rattle.paper.specs.Names.{routine_in, Scopes, spelled, meaning, enter}
use Rattle.paper.specs.Types.{term_of, constant_value}
use Rattle.paper.specs.Checks.{WhichList, the_body, the_handler, the_undo, fors_in, fors_in_list, fors_in_arms, fors_in_cases}
use Rattle.paper.specs.Steps.{Action, end_list, end_undo, routine_of, characters, spot_of}
use Rattle.code.specs.Cells.{head_at, tail_at, op_at, value_at, place_at, link_at}
use Rattle.code.specs.Spans.{term_in}
use Rattle.code.specs.Steps.{a_target, a_call_target, a_procedure_call, a_return_of, a_return, a_raise_of, a_raise, an_exit, a_retry, a_try_next, a_write, a_write_of, a_read, a_compact_if, an_if, a_while, a_for, a_for_test, a_test, an_end, a_function_end, an_undo_end, an_else_if, a_step, a_case, a_next_value, a_then, a_do, a_pass, an_otherwise, a_close, Head, constant_at, target_in, any_arguments, callee_in, characters_in}
use Rattle.check_links.specs.Resolved.{is_led}

-- What does not change while a routine is walked: the words of data that its module has, whether it is a function, the module's text and routines, what its
-- words are, the constants' values, and the offset of each word.
pub record Ground : Type 0 where
  pub m : ℕ
  pub function : Bool
  pub text : List ℕ
  pub R : List Head
  pub W : List Word
  pub M : Memory
  pub offset : ℕ → ℕ

-- ---- cells
-- Two stores have the same words from a up to b.
pub record SameWords (C D : List ℕ) (a b : ℕ) : Type 0 where
  pub heads : (i : ℕ) → a ≤ i → i < b → head_at C i ≡ head_at D i
  pub tails : (i : ℕ) → a ≤ i → i < b → tail_at C i ≡ tail_at D i

module _ (C : List ℕ) where
  -- no word from a up to b leads on
  abbrev pub Quiet : (a b : ℕ) → Type 0
  Quiet a b = (i : ℕ) → a ≤ i → i < b → is_led (op_at C i) ≡ false

  -- a word with an op that leads to a word
  pub record RawWord (op i out : ℕ) : Type 0 where
    pub is : op_at C i ≡ op
    pub leaves : link_at C i ≡ out

  -- DO before a list
  pub record RawDo (d : ℕ) : Type 0 where
    pub op : op_at C d ≡ a_do
    pub value : value_at C d ≡ d + 1

  -- A last list ends at z: with the statement, or at a word that closes both.
  pub data Ends (z to : ℕ) : Type 0 where
    at_once : z ≡ to → Ends z to
    closed : RawWord a_pass z to → to ≡ z + 1 → Ends z to

  -- The last word that closes a list of an IF's arms. ELSE: its list begins behind it and ends at ENDIF, where it leads. ENDIF: it is where an empty list begins and ends. (What stands
  -- behind ENDIF may be an ELSEIF of an IF around this one, so no THEN leads there.)
  pub data LastOf (last first z : ℕ) : Type 0 where
    an-else : RawWord a_pass last z → first ≡ last + 1 → LastOf last first z
    no-else : last ≡ z → first ≡ z → LastOf last first z

-- the end of a list: its op, and what it does
unfoldable pub end_of : WhichList → (function : Bool) → ℕ
end_of the_body true = a_function_end
end_of the_body false = an_end
end_of the_handler true = a_function_end
end_of the_handler false = an_end
end_of the_undo function = an_undo_end

unfoldable pub ending_of : WhichList → Action
ending_of the_body = end_list
ending_of the_handler = end_list
ending_of the_undo = end_undo

-- The routine has n words of data in the end.
module _ (g : Ground) (n : ℕ) (C : List ℕ) where
  -- ---- parts of simple statements
  pub record RawTerm (S : Scopes) (e : Expr) (a b : ℕ) : Type 0 where
    pub is : term_in g.m n C a b ≡ some (term_of g.W S e)
    pub quiet : Quiet C a b

  -- an expression behind a word whose link is its end
  pub record RawBound (S : Scopes) (e : Expr) (w z : ℕ) : Type 0 where
    pub link : link_at C w ≡ z
    pub still : is_led (op_at C w) ≡ false
    pub term : RawTerm S e (w + 1) z

  -- a target whose ops are counted from `ops`
  pub record RawTarget (S : Scopes) (ops : ℕ) (t : Target) (a b : ℕ) : Type 0 where
    pub low : ops ≤ op_at C a
    pub high : op_at C a < ops + 4
    pub is : target_in g.m n g.function g.text g.R C ops a ≡ some (spot_of g.W S t, b)
    pub quiet : Quiet C (a + 1) b

  -- Arguments from a on, the first up to b, and z closes them; a, b and z are one word where there are none.
  pub record RawArguments (S : Scopes) (es : List Expr) (a b z : ℕ) : Type 0 where
    pub is : any_arguments g.m n g.function g.text g.R C a b ≡ some (map (term_of g.W S) es, z)
    pub quiet : Quiet C a z

  pub record RawCallee (S : Scopes) (wants_function : Bool) (f : ℕ) (es : List Expr) : Type 0 where
    pub is : callee_in g.m n g.function g.text g.R C wants_function f (map (term_of g.W S) es) ≡ some (routine_of (routine_in (meaning S (spelled g.W f))))
    pub among : routine_of (routine_in (meaning S (spelled g.W f))) < length g.R
    pub place : place_at C f ≡ g.offset f

  -- the string s, at word i
  pub record RawText (s i : ℕ) : Type 0 where
    pub is : characters_in g.m n g.function g.text g.R C i ≡ some (characters g.W s)
    pub still : is_led (op_at C i) ≡ false

  -- ---- simple statements
  -- From `at` up to `to`, its semicolon included. It goes on at `out`, which is `to` as the walk leaves it.
  pub record RawAssign (S : Scopes) (t : Target) (e : Expr) (at to out : ℕ) : Type 0 where
    pub b : ℕ
    pub z : ℕ
    pub target : RawTarget S a_target t at b
    pub term : RawBound S e b z
    pub within : z ≤ to
    pub leaves : link_at C at ≡ out

  pub record RawAssignCall (S : Scopes) (t : Target) (f : ℕ) (es : List Expr) (at to out : ℕ) : Type 0 where
    pub b : ℕ
    pub z : ℕ
    pub target : RawTarget S a_call_target t at b
    pub callee : RawCallee S true f es
    pub name : f ≡ b + 1
    pub still : is_led (op_at C f) ≡ false
    pub arguments : RawArguments S es (b + 3) (link_at C f) z
    pub within : z < to
    pub leaves : link_at C at ≡ out

  -- it goes on by its semicolon
  pub record RawCall (S : Scopes) (p : ℕ) (es : List Expr) (at to out : ℕ) : Type 0 where
    pub z : ℕ
    pub op : op_at C at ≡ a_procedure_call
    pub callee : RawCallee S false p es
    pub arguments : RawArguments S es (at + 1) (link_at C at) z
    pub closes : RawWord C a_close z out
    pub within : z < to

  -- an expression stands behind a word, from a word on up to its value
  pub record RawValued (S : Scopes) (op : ℕ) (e : Expr) (from at to out : ℕ) : Type 0 where
    pub word : RawWord C op at out
    pub term : RawTerm S e from (value_at C at)
    pub within : value_at C at ≤ to

  pub record RawReturn (at out : ℕ) : Type 0 where
    pub word : RawWord C a_return at out
    pub no-function : g.function ≡ false

  pub record RawReturnOf (S : Scopes) (e : Expr) (at to out : ℕ) : Type 0 where
    pub valued : RawValued S a_return_of e (at + 1) at to out
    pub a-function : g.function ≡ true

  pub record RawWrite (s at to out : ℕ) : Type 0 where
    pub word : RawWord C a_write at out
    pub text : RawText s (at + 1)
    pub within : at + 1 < to

  pub record RawWriteOf (S : Scopes) (s : ℕ) (e : Expr) (at to out : ℕ) : Type 0 where
    pub valued : RawValued S a_write_of e (at + 5) at to out
    pub text : RawText s (at + 1)
    pub within : at + 1 < to

  pub record RawRead (S : Scopes) (t : Target) (s at to out : ℕ) : Type 0 where
    pub word : RawWord C a_read at out
    pub b : ℕ
    pub target : RawTarget S a_target t (at + 1) b
    pub target-within : b ≤ to
    pub text : RawText s (value_at C at)
    pub behind : at < value_at C at
    pub within : value_at C at < to

  unfoldable pub RawDoes : Scopes → Simple → (at to out : ℕ) → Type 0
  RawDoes S (assign t e) at to out = RawAssign S t e at to out
  RawDoes S (assign_call t f es) at to out = RawAssignCall S t f es at to out
  RawDoes S (call p es) at to out = RawCall S p es at to out
  RawDoes S (returns i none) at to out = RawReturn at out
  RawDoes S (returns i (some e)) at to out = RawReturnOf S e at to out
  RawDoes S (raises i none) at to out = RawWord C a_raise at out
  RawDoes S (raises i (some e)) at to out = RawValued S a_raise_of e (at + 1) at to out
  RawDoes S (exits i) at to out = RawWord C an_exit at out
  RawDoes S (retries i) at to out = RawWord C a_retry at out
  RawDoes S (tries_next i) at to out = RawWord C a_try_next at out
  RawDoes S (writes i s none) at to out = RawWrite s at to out
  RawDoes S (writes i s (some e)) at to out = RawWriteOf S s e at to out
  RawDoes S (reads i t s) at to out = RawRead S t s at to out

  pub record RawSimple (S : Scopes) (s : Simple) (at to : ℕ) : Type 0 where
    pub first : first_simple s ≡ at
    pub place : place_at C at ≡ g.offset at
    pub forward : at < to
    pub does : RawDoes S s at to to

  -- ---- statements that hold lists: a list stands between two words
  abbrev pub Listed : Type 1
  Listed = (at to : ℕ) → Type 0

  -- the first word of a statement
  pub record RawFirst (op i at to : ℕ) : Type 0 where
    pub first : i ≡ at
    pub place : place_at C at ≡ g.offset at
    pub word : RawWord C op at to

  pub record RawCompactIf (S : Scopes) (i : ℕ) (e : Expr) (s : Simple) (at to : ℕ) : Type 0 where
    pub head : RawFirst a_compact_if i at to
    pub term : RawTerm S e (at + 1) (value_at C at)
    pub does : RawSimple S s (value_at C at) to

  pub record RawWhile (S : Scopes) (i : ℕ) (e : Expr) (body : Listed) (at to : ℕ) : Type 0 where
    pub head : RawFirst a_while i at to
    pub term : RawTerm S e (at + 1) (value_at C at)
    pub do-is : RawDo C (value_at C at)
    -- its ENDWHILE
    pub z : ℕ
    pub list : body (value_at C at + 1) z
    pub again : RawWord C a_pass z at
    pub end : to ≡ z + 1

  -- STEP, if there is one
  unfoldable pub RawStep : Scopes → Option Expr → (s d : ℕ) → Type 0
  RawStep S none s d = s ≡ d
  RawStep S (some e) s d = (op_at C s ≡ a_step) × RawBound S e s d

  pub record RawFor (S : Scopes) (used i : ℕ) (from till : Expr) (step : Option Expr) (body : Listed) (end at to : ℕ) : Type 0 where
    pub head : RawFirst a_for i at to
    pub value : value_at C at ≡ used
    pub room : used < n
    pub small : used < 256
    -- its TO, what comes after the bound, its DO
    pub t : ℕ
    pub s : ℕ
    pub d : ℕ
    pub lower : RawBound S from (at + 2) t
    pub upper : RawBound S till t s
    pub steps : RawStep S step s d
    pub do-is : RawDo C d
    pub list : body (d + 1) end
    -- its ENDFOR
    pub test : RawWord C a_for_test end (d + 1)
    pub test-value : value_at C end ≡ used + 256 * at
    pub test-place : place_at C end ≡ g.offset at
    pub ends : to ≡ end + 1

  -- ---- IF
  -- An ELSEIF, behind the list of a THEN: where a list goes on that ends there is where the next one goes on, which y closes.
  pub record RawElseIf (t c y : ℕ) : Type 0 where
    pub then-leaves : link_at C t ≡ c
    pub word : RawWord C an_else_if c y

  -- no ELSEIF behind the list of a THEN: what closes it is ELSE or ENDIF, and the THEN leads to where ELSE's list is found
  pub record RawNoMore (first t c last : ℕ) : Type 0 where
    pub is_last : c ≡ last
    pub then-leaves : link_at C t ≡ first

  -- An arm begins with IF, where there is no THEN before it, or with ELSEIF.
  unfoldable pub Begins : (before : Option ℕ) → (c y : ℕ) → Type 0
  Begins none c y = Unit {0}
  Begins (some t) c y = RawElseIf t c y

  unfoldable pub NoMore : (first : ℕ) → (before : Option ℕ) → (c last : ℕ) → Type 0
  NoMore first none c last = ⊥
  NoMore first (some t) c last = RawNoMore first t c last

  -- A condition behind the word c, its THEN, its list, and then the other arms.
  pub record RawArm (S : Scopes) (e : Expr) (body : Listed) (more : (before : Option ℕ) → Listed) (before : Option ℕ) (c last : ℕ) : Type 0 where
    pub t : ℕ
    pub y : ℕ
    pub value : value_at C c ≡ t
    pub term : RawTerm S e (c + 1) t
    pub then-op : op_at C t ≡ a_then
    pub then-value : value_at C t ≡ t + 1
    pub list : body (t + 1) y
    pub begins : Begins before c y
    pub rest : more (some t) y last

  pub record RawElse (otherwise : Listed) (last first to : ℕ) : Type 0 where
    -- its ENDIF
    pub z : ℕ
    pub begins : LastOf C last first z
    pub list : otherwise first z
    pub word : RawWord C a_pass z to
    pub end : to ≡ z + 1

  pub record RawFullIf (i : ℕ) (arms : (first : ℕ) → Listed) (otherwise : Listed) (at to : ℕ) : Type 0 where
    pub head : RawFirst an_if i at to
    pub last : ℕ
    pub first : ℕ
    pub arms-are : arms first at last
    pub otherwise-is : RawElse otherwise last first to

  -- ---- TEST
  -- The values of a CASE behind the one at w, each at its comma. All have the list's first word as their place; the last one leads to what comes after it.
  pub record RawValue (S : Scopes) (e : Expr) (more : ℕ → Type 0) (w first : ℕ) : Type 0 where
    pub v : ℕ
    pub leaves : link_at C w ≡ v
    pub on : w < v
    pub before : v < first
    pub op : op_at C v ≡ a_next_value
    pub constant : constant_at C v ≡ constant_value g.W S g.M e
    pub place : place_at C v ≡ first
    pub rest : more v

  unfoldable pub RawValues : Scopes → List Expr → (first next w : ℕ) → Type 0
  RawValues S [] first next w = link_at C w ≡ next
  RawValues S (e ∷ es) first next w = RawValue S e (RawValues S es first next) w first

  -- the values of a CASE at w, of which there is one at least
  unfoldable pub RawConstants : Scopes → List Expr → (first next w : ℕ) → Type 0
  RawConstants S [] first next w = ⊥
  RawConstants S (e ∷ es) first next w = (constant_at C w ≡ constant_value g.W S g.M e) × RawValues S es first next w

  -- A CASE at c. A list that ends there goes on where the word behind it leads: where the CASE's own list goes on.
  pub record RawCase (S : Scopes) (es : List Expr) (body more : Listed) (c last : ℕ) : Type 0 where
    pub first : ℕ
    pub next : ℕ
    pub op : op_at C c ≡ a_case
    pub place : place_at C c ≡ first
    pub values : RawConstants S es first next c
    pub behind : RawWord C a_pass (c + 1) next
    pub before : c + 1 < first
    pub list : body first next
    pub rest : more next last

  -- DEFAULT with its list, or ENDTEST, which is an empty list that ends with the statement
  pub record RawDefault (default : Listed) (last to : ℕ) : Type 0 where
    pub z : ℕ
    pub first : ℕ
    pub word : RawWord C an_otherwise last z
    pub place : place_at C last ≡ first
    pub before : last < first
    pub list : default first z
    pub ends : Ends C z to

  pub record RawTest (S : Scopes) (i : ℕ) (e : Expr) (cases default : Listed) (at to : ℕ) : Type 0 where
    pub head : RawFirst a_test i at to
    pub term : RawTerm S e (at + 1) (value_at C at)
    pub last : ℕ
    pub cases-are : cases (value_at C at) last
    pub default-is : RawDefault default last to

  -- ---- the trees
  -- a statement up to `mid`, and the rest of its list
  pub record RawThen (one rest : Listed) (at to : ℕ) : Type 0 where
    pub mid : ℕ
    pub first : one at mid
    pub others : rest mid to

  -- Names mean what `S` says, and the routine has used so many words before, as in the paper's table of steps.
  unfoldable mutual
    pub RawStatement : Statement → Scopes → (used : ℕ) → Listed
    RawStatement (simple s) S used at to = RawSimple S s at to
    RawStatement (compact_if i e s) S used at to = RawCompactIf S i e s at to
    RawStatement (full_if i a o) S used at to = RawFullIf i (λ first c last. RawArms a S used first none c last) (λ x y. RawList o S (used + fors_in_arms a) x y) at to
    RawStatement (for i v a b c body end) S used at to =
        RawFor S used i a b c (λ x y. RawList body (enter (spelled g.W v) (of_routine used) S) (suc used) x y) end at to
    RawStatement (while i e body) S used at to = RawWhile S i e (λ x y. RawList body S used x y) at to
    RawStatement (test i e c d) S used at to = RawTest S i e (λ x last. RawCases c S used x last) (λ x y. RawList d S (used + fors_in_cases c) x y) at to

    pub RawList : Statements → Scopes → (used : ℕ) → Listed
    RawList empty S used at to = at ≡ to
    RawList (s then r) S used at to = RawThen (λ x y. RawStatement s S used x y) (λ x y. RawList r S (used + fors_in s) x y) at to

    -- The arms of an IF from the word c on, behind a THEN or none; `last` is its ELSE or ENDIF. ELSE's list begins with the word `first`.
    pub RawArms : Arms → Scopes → (used first : ℕ) → (before : Option ℕ) → Listed
    RawArms no_arm S used first before c last = NoMore first before c last
    RawArms (arm e b r) S used first before c last = RawArm S e (λ x y. RawList b S used x y) (λ t x last. RawArms r S (used + fors_in_list b) first t x last) before c last

    -- the cases of a TEST from the word c on; `last` is its DEFAULT or ENDTEST
    pub RawCases : Cases → Scopes → (used : ℕ) → Listed
    RawCases no_case S used c last = c ≡ last
    RawCases (case es b r) S used c last = RawCase S es (λ x y. RawList b S used x y) (λ x last. RawCases r S (used + fors_in_list b) x last) c last

  -- A list of a routine, with the word that closes it, which is a step of its own.
  pub record RawRoutineList (which : WhichList) (l : RoutineList) (S : Scopes) (used at : ℕ) : Type 0 where
    pub list : RawList l.statements S used at l.closes
    pub op : op_at C l.closes ≡ end_of which g.function
    pub place : place_at C l.closes ≡ g.offset l.closes
