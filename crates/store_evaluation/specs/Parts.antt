-- What the inner functions ask and tell. No promise of a public function rests on this.
use Rattle.std.specs.Prelude.{◌≡◌, Bool, true, false, List, ℕ, ◌+◌, ◌-◌, ◌%◌, ◌<◌, ◌≤◌, eqb, leb, ltb, length, ℤ, if◌then◌else◌}
use Rattle.std.proofs.Math.Option.{Option, some}
use Rattle.std.specs.Int.Signed.{lt_z}
use Rattle.std.specs.Int.{w32}
use Rattle.std.proofs.Common.{SFits}
use Rattle.paper.specs.Numbers.{num, Value, value, error, is_zero, overflow, div_zero}
use Rattle.paper.specs.Terms.{Term, unary, known, combined, worth}
use Rattle.store_cells.specs.Cells.{cells_of}
use Rattle.code.specs.Cells.{op_in, value_in, op_at}
use Rattle.code.specs.Spans.{a_span, a_call_slot, a_call_element, a_parenthesis, right_in, prefix_in, operator_of, operator_in, leaf_term, element_term, chain, term_within}
use Rattle.store_reading.specs.Reading.{value_end}
use Rattle.store_evaluation.specs.Answers.{decoded, Small, Counts, term_under, memory_of}

-- ---- operators
-- a number that num does not hold
unfoldable pub outside : ℤ → Bool
outside z = if lt_z z num.low then true else lt_z num.high z

-- two sides, by what they are worth
unfoldable pub joined : (operator : ℕ) → (left right : Value) → Value
joined op a b = elim (known op a) [ true ↦ a | false ↦ combined op a b ]

-- operators by their numbers: DIV is the first that can divide; AND and OR are the last
abbrev pub div_number : ℕ
div_number = 3

abbrev pub and_number : ℕ
and_number = 12

abbrev pub or_number : ℕ
or_number = 13

-- what fails where an operator's result is outside: DIV and MOD by zero
unfoldable pub failure_of : (number : ℕ) → ℤ → ℕ
failure_of k b =
    if leb div_number k then (if is_zero b then div_zero else overflow)
    else overflow

-- AND and OR give one of their sides, which need not be in num
unfoldable pub failing : (number : ℕ) → ℤ → Bool
failing k z = if outside z then ltb k and_number else false

-- z, worked out with no regard to num, tells what the operator gives between a and b.
pub record Worked (number : ℕ) (a b z : ℤ) : Type 0 where
  pub is : failing number z ≡ false → joined (operator_of number) (value a) (value b) ≡ value z
  pub small : failing number z ≡ false → SFits w32 z
  pub fails : failing number z ≡ true → joined (operator_of number) (value a) (value b) ≡ error (failure_of number b)

-- y: an operator with this number answers by its right side alone, unless its left one tells the answer; no other operator's left side does
pub record Skips (number : ℕ) (y : Bool) : Type 0 where
  pub right : y ≡ true → (a : ℤ) (b : Value) → known (operator_of number) (value a) ≡ false → joined (operator_of number) (value a) b ≡ b
  pub plain : y ≡ false → (a : ℤ) → known (operator_of number) (value a) ≡ false

-- z is the exact quotient or remainder, and outside where there is none
pub record Divided (b exact z : ℤ) : Type 0 where
  pub none : is_zero b ≡ true → outside z ≡ true
  pub is : is_zero b ≡ false → z ≡ exact

-- ---- operands
-- what a usize counts to
abbrev pub addresses : ℕ
addresses = 18446744073709551616

pub record Leaf (op v : ℕ) : Type 0 where
  pub c : Counts
  pub t : Term
  pub is : leaf_term c.m c.n op v ≡ some t
  pub bits : v < value_end

pub record Read (values : List ℕ) (base op v : ℕ) (z : ℤ) : Type 0 where
  pub is : (c : Counts) (t : Term) → leaf_term c.m c.n op v ≡ some t → worth (memory_of c values base) t ≡ value z
  pub small : SFits w32 z

-- what the operator with an op gives, whose right side is the leaf of that class with the value v
pub record Fused (values : List ℕ) (base op v : ℕ) (a r : ℤ) : Type 0 where
  pub is : (c : Counts) (t : Term) → leaf_term c.m c.n (right_in op) v ≡ some t → decoded r ≡ joined (operator_in op) (value a) (worth (memory_of c values base) t)
  pub small : Small r

-- the cell of a word with an op: the op `own` is the module's
unfoldable pub cell_of : (base op own word : ℕ) → ℕ
cell_of base op own k = if eqb op own then k else base + k

-- what an operand of several words is, by what stands inside it; where that begins; and the word after it
unfoldable pub closed_term : Counts → (op value : ℕ) → Term → Option Term
closed_term c op v t =
    if leb op a_call_element then element_term c.m c.n op v t
    else if eqb op a_parenthesis then some t
    else some (unary (prefix_in op) t)

unfoldable pub opens_at : (op at : ℕ) → ℕ
opens_at op at = if leb op a_call_element then at + 2 else at + 1

unfoldable pub ends_at : (op link : ℕ) → ℕ
ends_at op l = if leb op a_parenthesis then l + 1 else l

-- how many parentheses and braces may still open inside it, where so many may around it
unfoldable pub nests_in : (op nesting : ℕ) → ℕ
nests_in op d = if leb op a_parenthesis then d - 1 else d

-- in parentheses and braces one less, so there has to be one
abbrev pub Nests : (op nesting : ℕ) → Type 0
Nests op d = op ≤ a_parenthesis → 0 < d

pub record Array (w : ℕ) : Type 0 where
  pub c : Counts
  pub t : Term
  pub u : Term
  pub is : element_term c.m c.n (op_in w) (value_in w) t ≡ some u

pub record Indexed (values : List ℕ) (base w : ℕ) (x r : ℤ) : Type 0 where
  pub is : (c : Counts) (t u : Term) → element_term c.m c.n (op_in w) (value_in w) t ≡ some u → decoded x ≡ worth (memory_of c values base) t
      → decoded r ≡ worth (memory_of c values base) u
  pub small : Small r

pub record Closes (w : ℕ) : Type 0 where
  pub c : Counts
  pub t : Term
  pub u : Term
  pub is : closed_term c (op_in w) (value_in w) t ≡ some u

pub record Closed (values : List ℕ) (base w : ℕ) (x r : ℤ) : Type 0 where
  pub is : (c : Counts) (t u : Term) → closed_term c (op_in w) (value_in w) t ≡ some u → decoded x ≡ worth (memory_of c values base) t
      → decoded r ≡ worth (memory_of c values base) u
  pub small : Small r

-- where r is true, one operator stands between two words
pub record Shorts (code : List ℕ) (from to : ℕ) (r : Bool) : Type 0 where
  pub end : r ≡ true → to ≡ from + 3
  pub first : r ≡ true → op_at (cells_of code) from ≤ a_call_slot
  pub carried : r ≡ true → right_in (op_at (cells_of code) (from + 1)) ≡ a_span → ⊥

-- an operand of several words begins at a word with the head w: what stands inside it ends at l
pub record Encloses (nesting : ℕ) (code : List ℕ) (at w l : ℕ) : Type 0 where
  pub c : Counts
  pub t : Term
  pub u : Term
  pub nests : Nests (op_in w) nesting
  pub inside : term_under (nests_in (op_in w) nesting) c code (opens_at (op_in w) at) l ≡ some t
  pub is : closed_term c (op_in w) (value_in w) t ≡ some u
  pub whole : length code % 8 ≡ 0

pub record Entered (nesting : ℕ) (code values : List ℕ) (base at w l : ℕ) (r : ℤ) : Type 0 where
  pub is : (c : Counts) (t u : Term) → term_under (nests_in (op_in w) nesting) c code (opens_at (op_in w) at) l ≡ some t → closed_term c (op_in w) (value_in w) t ≡ some u
      → decoded r ≡ worth (memory_of c values base) u
  pub small : Small r

-- ---- operators after an operand
-- a term that is worth a, and the operators from i on, up to `to`, read as t
pub record Left (nesting : ℕ) (c : Counts) (code values : List ℕ) (base : ℕ) (a : ℤ) (i to : ℕ) (t : Term) : Type 0 where
  pub u : Term
  pub is : worth (memory_of c values base) u ≡ value a
  pub g : ℕ
  pub rest : chain c.m c.n (cells_of code) (term_within c.m c.n (cells_of code) nesting) g u i to ≡ some t

pub record Follows (nesting : ℕ) (code values : List ℕ) (base : ℕ) (a : ℤ) (i to : ℕ) : Type 0 where
  pub c : Counts
  pub t : Term
  pub left : Left nesting c code values base a i to t
  pub small : SFits w32 a
  pub whole : length code % 8 ≡ 0

pub record Followed (nesting : ℕ) (code values : List ℕ) (base : ℕ) (a : ℤ) (i to : ℕ) (r : ℤ) : Type 0 where
  pub is : (c : Counts) (t : Term) → Left nesting c code values base a i to t → decoded r ≡ worth (memory_of c values base) t
  pub small : Small r
