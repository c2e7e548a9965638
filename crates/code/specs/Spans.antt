-- What the code store says of expressions. An expression stands in a span of words: an operand, and then operators, each with its right side. A word that
-- opens something knows where it ends.
use Rattle.std.specs.Prelude.{Bool, true, false, List, [], ◌∷◌, map, ℕ, zero, suc, ◌+◌, ◌-◌, ◌*◌, ◌/◌, ◌%◌, eqb, ltb, leb, get_or, take, drop, pos, ◌-ℤ◌, if◌then◌else◌}
use Rattle.std.proofs.Math.Option.{Option, none, some}
use Rattle.std.specs.Int.{w32}
use Rattle.std.proofs.Common.{to_z}
use Rattle.paper.specs.Expressions.{nestings}
use Rattle.paper.specs.Sorts.{equal, less, less_equal, unequal, greater, greater_equal, plus, minus_sign, times, DIV, MOD, AND, OR, NOT, XOR}
use Rattle.paper.specs.Terms.{of_module, of_routine, Term, literal, errno, stored, element_at, unary, binary, Memory}
use Rattle.code.specs.Cells.{op_in, value_in, head_at, op_at, value_at, link_at, errno_cell}

-- ---- ops
-- an operand of one word: a number, a slot of the module or ERRNO, a slot of the call
abbrev pub a_literal : ℕ
a_literal = 1

abbrev pub a_module_slot : ℕ
a_module_slot = 2

abbrev pub a_call_slot : ℕ
a_call_slot = 3

-- an element: its link is its closing brace
abbrev pub a_module_element : ℕ
a_module_element = 4

abbrev pub a_call_element : ℕ
a_call_element = 5

-- its link is its closing parenthesis
abbrev pub a_parenthesis : ℕ
a_parenthesis = 6

-- what stands before: its link is the word after what it covers
abbrev pub a_not : ℕ
a_not = 7

abbrev pub a_plus : ℕ
a_plus = 8

abbrev pub a_minus : ℕ
a_minus = 9

-- An operator between two sides: its number among these in the low four bits, and above it how its right side is given. a_span: it stands from the next word
-- up to the link. a_literal, a_module_slot, a_call_slot: it is the next word alone, and the operator has its value. (Four whole bits for the number make the
-- choice of an operator one jump with no test.)
abbrev pub an_operator : ℕ
an_operator = 64

abbrev pub a_span : ℕ
a_span = 0

unfoldable pub operators : List ℕ
operators =
    plus ∷ minus_sign ∷ times ∷ DIV ∷ MOD ∷ less ∷ less_equal ∷ greater ∷ greater_equal ∷ equal ∷ unequal ∷ XOR ∷ AND ∷ OR ∷ []

abbrev pub number_in : (op : ℕ) → ℕ
number_in op = op % 16

abbrev pub right_in : (op : ℕ) → ℕ
right_in op = op / 16 % 4

-- the sort of the operator with a number, and with an op
unfoldable pub operator_of : (number : ℕ) → ℕ
operator_of k = get_or operators k XOR

abbrev pub operator_in : (op : ℕ) → ℕ
operator_in op = operator_of (number_in op)

-- the op of an operator
abbrev pub op_of : (number right : ℕ) → ℕ
op_of k r = an_operator + 16 * r + k

-- numbers are held as how far they are from the lowest
abbrev pub bias : ℕ
bias = 8388607

unfoldable pub guard : {A : Type 0} → Bool → A → Option A
guard true a = some a
guard false a = none

infixl 20 ◌then◌
unfoldable pub ◌then◌ : {A B : Type 0} → Option A → (A → Option B) → Option B
none then f = none
(some a) then f = f a

-- of an array: its first word, and its size
abbrev pub first_in : (value : ℕ) → ℕ
first_in v = v % 1024

abbrev pub size_in : (value : ℕ) → ℕ
size_in v = v / 1024

-- what stands before, by its op
unfoldable pub prefix_in : (op : ℕ) → ℕ
prefix_in op =
    if eqb op a_not then NOT
    else if eqb op a_minus then minus_sign
    else plus

-- the word after the operator at i and its right side, which is the next word alone or a span
unfoldable pub right_end : (C : List ℕ) → ℕ → ℕ
right_end C i = elim (eqb (right_in (op_at C i)) a_span) [ true ↦ link_at C i | false ↦ i + 2 ]

-- What stands in parentheses or braces, where so many may still open: `inner` reads it with one less.
unfoldable pub within : (inner : (nesting from to : ℕ) → Option Term) → (nesting from to : ℕ) → Option Term
within inner zero from to = none
within inner (suc d) from to = inner d from to

-- The module has m words, the routine n.
module _ (m n : ℕ) where
  unfoldable pub module_leaf : (value : ℕ) → Option Term
  module_leaf v = if eqb v errno_cell then some errno else guard (ltb v m) (stored (of_module v))

  unfoldable pub leaf_term : (op value : ℕ) → Option Term
  leaf_term op v =
      if eqb op a_literal then some (literal (pos v -ℤ pos bias))
      else if eqb op a_module_slot then module_leaf v
      else if eqb op a_call_slot then guard (ltb v n) (stored (of_routine v))
      else none

  unfoldable pub element_term : (op value : ℕ) → Term → Option Term
  element_term op v t =
      if eqb op a_module_element then guard (leb (first_in v + size_in v) m) (element_at (of_module (first_in v)) (size_in v) t)
      else guard (leb (first_in v + size_in v) n) (element_at (of_routine (first_in v)) (size_in v) t)

  -- ---- spans
  -- The operand at a word with this head and this link, and the word after it. `inside` reads what stands in parentheses or braces, `covered` what NOT or a
  -- sign covers.
  unfoldable pub operand_of : (head link : ℕ) → (inside covered : ℕ → ℕ → Option Term) → (at : ℕ) → Option (Term × ℕ)
  operand_of w l inside covered at =
      elim (leb (op_in w) a_call_slot) [
        | true ↦ leaf_term (op_in w) (value_in w) then (λ t. some (t, at + 1))
        | false ↦
            elim (leb (op_in w) a_call_element) [
              | true ↦ inside (at + 2) l then (λ x. element_term (op_in w) (value_in w) x then (λ t. some (t, l + 1)))
              | false ↦
                  elim (eqb (op_in w) a_parenthesis) [ true ↦ inside (at + 1) l then (λ t. some (t, l + 1)) | false ↦ covered (at + 1) l then (λ t. some (unary (prefix_in (op_in w)) t, l)) ]
            ]
      ]

  module _ (C : List ℕ) where
    -- `inner` reads with a nesting, and so many parentheses and braces may still open here
    abbrev pub operand_term : (inner : (nesting from to : ℕ) → Option Term) → (nesting at : ℕ) → Option (Term × ℕ)
    operand_term inner d at = operand_of (head_at C at) (link_at C at) (within inner d) (inner d) at

    -- the right side of the operator at i
    unfoldable pub right_term : (inner : ℕ → ℕ → Option Term) → ℕ → Option Term
    right_term inner i =
        elim (eqb (right_in (op_at C i)) a_span) [ true ↦ inner (i + 1) (link_at C i) | false ↦ leaf_term (right_in (op_at C i)) (value_at C i) ]

    -- what is read so far, and the operators from i on
    unfoldable pub chain : (inner : ℕ → ℕ → Option Term) → (fuel : ℕ) → Term → (i to : ℕ) → Option Term
    chain inner zero t i to = elim (eqb i to) [ true ↦ some t | false ↦ none ]
    chain inner (suc f) t i to =
        elim (eqb i to) [
          | true ↦ some t
          | false ↦
              elim (leb (right_end C i) to) [
                | false ↦ none
                | true ↦
                    right_term inner i then (λ u. chain inner f (binary (operator_in (op_at C i)) t u) (right_end C i) to)
              ]
        ]

    unfoldable pub span_term : (fuel nesting : ℕ) → (from to : ℕ) → Option Term
    span_term zero d from to = none
    span_term (suc f) d from to = operand_term (span_term f) d from then (λ x. chain (span_term f d) f x.0 x.1 to)

    -- The expression that stands in a span of words, in which so many parentheses and braces may nest. As many words as it has are fuel enough.
    unfoldable pub term_within : (nesting from to : ℕ) → Option Term
    term_within d from to = span_term (to - from) d from to

    -- "parentheses and braces in an expression nest to 16"
    abbrev pub term_in : (from to : ℕ) → Option Term
    term_in from to = term_within nestings from to

-- ---- memory: the module's words are the first cells, the call's stand at `base`
unfoldable pub memory_in : (m n : ℕ) → (values : List ℕ) → (base : ℕ) → Memory
memory_in m n X base =
    record { module-words = map (to_z w32) (take m X); routine-words = map (to_z w32) (take n (drop base X)); error-number = get_or X errno_cell 0 }
