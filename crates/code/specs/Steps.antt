-- What the code store says of a run's steps. A step's word has an op that says what is done; what belongs to it is found by links.
use Rattle.std.specs.Prelude.{Bool, true, false, not, List, [], ◌∷◌, ℕ, zero, suc, ◌+◌, ◌-◌, ◌/◌, ◌%◌, eqb, ltb, leb, length, get_or, take, drop, ℤ, pos, ◌-ℤ◌, if◌then◌else◌}
use Rattle.std.proofs.Math.Option.{Option, none, some}
use Rattle.paper.specs.Terms.{of_module, of_routine, Term}
use Rattle.paper.specs.Steps.{Spot, scalar, element_of, Action, store, call_for, call_of, give_back, raise, hand_on, exit, retry, try_next, write, read, choose, select, test_while, enter_for, repeat_for, end_list, end_undo, unquoted}
use Rattle.code.specs.Cells.{op_at, value_at, place_at, link_at}
use Rattle.code.specs.Spans.{guard, ◌then◌, bias, first_in, size_in, term_in}

-- ---- ops
-- No word's sort is as high, so that what the check has passed is told from what it has not.
-- A target. Its op is one of these, or one of the next four where a call's result goes to it: a word of the module, of the call; an element of the module's,
-- of the call's.
abbrev pub a_target : ℕ
a_target = 128

abbrev pub a_call_target : ℕ
a_call_target = 132

abbrev pub a_procedure_call : ℕ
a_procedure_call = 136

abbrev pub a_return_of : ℕ
a_return_of = 137

abbrev pub a_return : ℕ
a_return = 138

abbrev pub a_raise_of : ℕ
a_raise_of = 139

abbrev pub a_raise : ℕ
a_raise = 140

abbrev pub an_exit : ℕ
an_exit = 141

abbrev pub a_retry : ℕ
a_retry = 142

abbrev pub a_try_next : ℕ
a_try_next = 143

abbrev pub a_write : ℕ
a_write = 144

abbrev pub a_write_of : ℕ
a_write_of = 145

abbrev pub a_read : ℕ
a_read = 146

abbrev pub a_compact_if : ℕ
a_compact_if = 147

abbrev pub an_if : ℕ
an_if = 148

abbrev pub a_while : ℕ
a_while = 149

abbrev pub a_for : ℕ
a_for = 150

abbrev pub a_for_test : ℕ
a_for_test = 151

abbrev pub a_test : ℕ
a_test = 152

abbrev pub an_end : ℕ
an_end = 153

-- the end of a FUNC's list
abbrev pub a_function_end : ℕ
a_function_end = 154

-- the end of an UNDO list
abbrev pub an_undo_end : ℕ
an_undo_end = 155

-- Words that are no steps have the highest ops, from that of ELSEIF on: below them there is room for more steps.
abbrev pub an_else_if : ℕ
an_else_if = 240

abbrev pub a_step : ℕ
a_step = 241

-- CASE, and a comma between the values of one
abbrev pub a_case : ℕ
a_case = 242

abbrev pub a_next_value : ℕ
a_next_value = 243

-- a comma between two arguments
abbrev pub a_next_argument : ℕ
a_next_argument = 244

-- VAR or CONST of a routine, and the parenthesis before its parameters
abbrev pub a_datum : ℕ
a_datum = 245

abbrev pub the_parameters : ℕ
the_parameters = 246

abbrev pub a_then : ℕ
a_then = 247

abbrev pub a_do : ℕ
a_do = 248

-- ELSE, ENDIF, ENDWHILE, and ENDTEST behind a DEFAULT: its link is where a list goes on that ends there
abbrev pub a_pass : ℕ
a_pass = 249

-- DEFAULT, or an ENDTEST without one
abbrev pub an_otherwise : ℕ
an_otherwise = 250

-- the semicolon of a procedure call
abbrev pub a_close : ℕ
a_close = 251

-- ---- what a step's word says
-- A routine, as calls know it: the word that it begins with, how many parameters it has, and whether it is a FUNC.
pub record Head : Type 0 where
  pub word : ℕ
  pub parameters : ℕ
  pub function : Bool

-- The number of the routine that begins with a word.
unfoldable pub numbered : List Head → (word : ℕ) → ℕ
numbered [] h = 0
numbered (r ∷ rs) h = elim (eqb r.word h) [ true ↦ 0 | false ↦ suc (numbered rs h) ]

unfoldable pub no_head : Head
no_head = record { word = 0; parameters = 0; function = false }

unfoldable pub agree : Bool → Bool → Bool
agree true true = true
agree true false = false
agree false true = false
agree false false = true

-- A step as a run knows it: the offset of its place, the step after its statement, and what it does.
pub record Stands : Type 0 where
  pub offset : ℕ
  pub after : ℕ
  pub does : Action

-- No list is longer than a text has words.
abbrev pub parts : ℕ
parts = 8192

-- A number that a word has as its value.
unfoldable pub constant_at : (C : List ℕ) → (i : ℕ) → ℤ
constant_at C i = pos (value_at C i) -ℤ pos bias

-- The module has m words, the routine n, and it is a function or is none; `text` is the module's, `R` its routines, `C` the cells.
module _ (m n : ℕ) (function : Bool) (text : List ℕ) (R : List Head) (C : List ℕ) where
  -- A target with an op counted from `ops`, and the word after it.
  unfoldable pub scalar_in : (ops i : ℕ) → Option Spot
  scalar_in ops i =
      if eqb (op_at C i) ops then guard (ltb (value_at C i) m) (scalar (of_module (value_at C i)))
      else guard (ltb (value_at C i) n) (scalar (of_routine (value_at C i)))

  unfoldable pub element_in : (ops i : ℕ) → Term → Option Spot
  element_in ops i t =
      let v = value_at C i in
      if eqb (op_at C i) (ops + 2) then guard (leb (first_in v + size_in v) m) (element_of (of_module (first_in v)) (size_in v) t)
      else guard (leb (first_in v + size_in v) n) (element_of (of_routine (first_in v)) (size_in v) t)

  -- The link of an element's brace is its closing brace.
  unfoldable pub target_in : (ops i : ℕ) → Option (Spot × ℕ)
  target_in ops i =
      elim (ltb (op_at C i) (ops + 2)) [
        | true ↦ scalar_in ops i then (λ s. some (s, i + 1))
        | false ↦ term_in m n C (i + 2) (link_at C (i + 1)) then (λ t. element_in ops i t then (λ s. some (s, link_at C (i + 1) + 1)))
      ]

  -- The arguments from a on, the first up to b, and the word that closes them. A comma's link is the end of the argument after it.
  unfoldable pub arguments_in : (fuel : ℕ) → (a b : ℕ) → Option (List Term × ℕ)
  arguments_in zero a b = none
  arguments_in (suc f) a b =
      term_in m n C a b then (λ t.
      elim (eqb (op_at C b) a_next_argument) [
        | true ↦ arguments_in f (b + 1) (link_at C b) then (λ r. some (t ∷ r.0, r.1))
        | false ↦ some (t ∷ [], b)
      ])

  -- none where the closing word follows at once
  unfoldable pub any_arguments : (a b : ℕ) → Option (List Term × ℕ)
  any_arguments a b = elim (eqb a b) [ true ↦ some ([], b) | false ↦ arguments_in parts a b ]

  -- A callee has as many parameters as it is given arguments, and is a FUNC where its result is asked for. Its value is the word that it begins with.
  unfoldable pub callee_in : (wants_function : Bool) → (callee : ℕ) → List Term → Option ℕ
  callee_in f i es =
      let k = numbered R (value_at C i) in
      let h = get_or R k no_head in
      elim (eqb h.word (value_at C i)) [
        | false ↦ none
        | true ↦
            elim (agree f h.function) [ false ↦ none | true ↦ guard (eqb (length es) h.parameters) k ]
      ]

  -- A string's value has its bytes, quotes included, and above them its characters. What it says is in the text.
  unfoldable pub characters_in : (i : ℕ) → Option (List ℕ)
  characters_in i =
      let s = unquoted (take (value_at C i % 256 - 2) (drop (place_at C i + 1) text)) in
      guard (eqb (value_at C i / 256) (length s)) s

  -- The conditions of an IF, from a word whose THEN is t: a THEN's value is the first step of its list, its link an ELSEIF or the step to go on with.
  unfoldable pub conditions_in : (fuel : ℕ) → (i t : ℕ) → Option (List (Term × ℕ) × ℕ)
  conditions_in zero i t = none
  conditions_in (suc f) i t =
      term_in m n C (i + 1) t then (λ e.
      elim (eqb (op_at C (link_at C t)) an_else_if) [
        | true ↦ conditions_in f (link_at C t) (value_at C (link_at C t)) then (λ r. some ((e, value_at C t) ∷ r.0, r.1))
        | false ↦ some ((e, value_at C t) ∷ [], link_at C t)
      ])

  -- The values of a TEST. In place of its offset a CASE, and a comma in one, has the first step of its list, and DEFAULT or ENDTEST the step to go on with.
  unfoldable pub values_in : (fuel step i : ℕ) → Option (List ℤ × ℕ)
  values_in zero step i = none
  values_in (suc f) step i =
      elim (eqb (op_at C i) a_next_value) [
        | false ↦ some ([], i)
        | true ↦ elim (eqb (place_at C i) step) [ false ↦ none | true ↦ values_in f step (link_at C i) then (λ r. some (constant_at C i ∷ r.0, r.1)) ]
      ]

  unfoldable pub cases_in : (fuel i : ℕ) → Option (List (List ℤ × ℕ) × ℕ)
  cases_in zero i = none
  cases_in (suc f) i =
      elim (eqb (op_at C i) a_case) [
        | false ↦ guard (eqb (op_at C i) an_otherwise) ([], place_at C i)
        | true ↦
            values_in parts (place_at C i) (link_at C i) then (λ v.
            cases_in f v.1 then (λ r. some ((constant_at C i ∷ v.0, place_at C i) ∷ r.0, r.1)))
      ]

  -- A FOR's head: FROM, TO and STEP are linked to where their expressions end. A DO's value is the first step of its list.
  unfoldable pub for_step : (i : ℕ) → Option (Option Term × ℕ)
  for_step i =
      elim (eqb (op_at C i) a_step) [
        | true ↦ term_in m n C (i + 1) (link_at C i) then (λ c. some (some c, link_at C i))
        | false ↦ some (none, i)
      ]

  unfoldable pub for_in : (i : ℕ) → Option Action
  for_in i =
      let b = link_at C (i + 2) in
      term_in m n C (i + 3) b then (λ from.
      term_in m n C (b + 1) (link_at C b) then (λ to.
      for_step (link_at C b) then (λ s.
      guard (ltb (value_at C i) n) (enter_for (value_at C i) from to s.0 (value_at C s.1)))))

  -- ---- actions by their ops
  abbrev pub Reading : Type 0
  Reading = Option (ℕ × Action)

  -- what does one thing and goes on with the word's link
  unfoldable pub linked : ℕ → Action → ℕ × Action
  linked i a = (link_at C i, a)

  unfoldable pub store_in : ℕ → Reading
  store_in i =
      target_in a_target i then (λ s.
      term_in m n C (s.1 + 1) (link_at C s.1) then (λ e. some (linked i (store s.0 e))))

  unfoldable pub call_for_in : ℕ → Reading
  call_for_in i =
      target_in a_call_target i then (λ s.
      any_arguments (s.1 + 3) (link_at C (s.1 + 1)) then (λ es.
      callee_in true (s.1 + 1) es.0 then (λ k. some (linked i (call_for s.0 (s.1 + 1) k es.0)))))

  -- A procedure call's own link ends its first argument; the step after it is the link of the word that closes it.
  unfoldable pub call_of_in : ℕ → Reading
  call_of_in i =
      any_arguments (i + 1) (link_at C i) then (λ es.
      callee_in false i es.0 then (λ k. some (link_at C es.1, call_of i k es.0)))

  -- an expression from the next word up to the word's value
  unfoldable pub with_term : ℕ → (Term → Action) → Reading
  with_term i f = term_in m n C (i + 1) (value_at C i) then (λ e. some (linked i (f e)))

  unfoldable pub write_in : ℕ → Reading
  write_in i = characters_in (i + 1) then (λ s. some (linked i (write s none)))

  -- TPWrite, the string, `\`, num, `:=`, and then the expression
  unfoldable pub write_of_in : ℕ → Reading
  write_of_in i =
      characters_in (i + 1) then (λ s.
      term_in m n C (i + 5) (value_at C i) then (λ e. some (linked i (write s (some e)))))

  unfoldable pub read_in : ℕ → Reading
  read_in i =
      target_in a_target (i + 1) then (λ s.
      characters_in (value_at C i) then (λ t. some (linked i (read s.0 t))))

  -- What follows a compact IF's condition is its statement.
  unfoldable pub compact_if_in : ℕ → Reading
  compact_if_in i = with_term i (λ e. choose ((e, value_at C i) ∷ []) (link_at C i))

  unfoldable pub if_in : ℕ → Reading
  if_in i = conditions_in parts i (value_at C i) then (λ r. some (linked i (choose r.0 r.1)))

  unfoldable pub while_in : ℕ → Reading
  while_in i = with_term i (λ e. test_while e (value_at C (value_at C i)))

  -- An ENDFOR's value has the variable's word, and above it the FOR.
  unfoldable pub for_test_in : ℕ → Reading
  for_test_in i =
      let v = value_at C i in
      guard (ltb (v % 256) n) (link_at C (v / 256), repeat_for (v % 256) (link_at C i))

  unfoldable pub test_in : ℕ → Reading
  test_in i =
      term_in m n C (i + 1) (value_at C i) then (λ e.
      cases_in parts (value_at C i) then (λ r. some (linked i (select e r.0 r.1))))

  unfoldable pub action_in : ℕ → Reading
  action_in i =
      let op = op_at C i in
      if ltb op a_target then none
      else if ltb op a_call_target then store_in i
      else if ltb op a_procedure_call then call_for_in i
      else if eqb op a_procedure_call then call_of_in i
      else if eqb op a_return_of then guard function i then (λ j. with_term j (λ e. give_back (some e)))
      else if eqb op a_return then guard (not function) (linked i (give_back none))
      else if eqb op a_raise_of then with_term i raise
      else if eqb op a_raise then some (linked i hand_on)
      else if eqb op an_exit then some (linked i exit)
      else if eqb op a_retry then some (linked i retry)
      else if eqb op a_try_next then some (linked i try_next)
      else if eqb op a_write then write_in i
      else if eqb op a_write_of then write_of_in i
      else if eqb op a_read then read_in i
      else if eqb op a_compact_if then compact_if_in i
      else if eqb op an_if then if_in i
      else if eqb op a_while then while_in i
      else if eqb op a_for then for_in i then (λ a. some (linked i a))
      else if eqb op a_for_test then for_test_in i
      else if eqb op a_test then test_in i
      else if eqb op an_end then guard (not function) (i, end_list)
      else if eqb op a_function_end then guard function (i, end_list)
      else if eqb op an_undo_end then some (i, end_undo)
      else none

  -- What the cells say at the word of a step.
  unfoldable pub step_in : ℕ → Option Stands
  step_in i = action_in i then (λ r. some (record { offset = place_at C i; after = r.0; does = r.1 }))
