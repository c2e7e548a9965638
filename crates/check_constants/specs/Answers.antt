-- What a constant expression is worth, and what its check asks of the two stores.
use Rattle.layout.specs.declared.types.ValueType.{ValueType}
use Rattle.layout.specs.Broken.{as_fault}
use Rattle.std.specs.Prelude.{◌≡◌, true, false, List, [], ℕ, ◌+◌, ◌<◌, ◌≤◌, get_or, ℤ, pos, ◌-ℤ◌, Ok, Err}
use Rattle.std.specs.Int.Signed.{lt_z}
use Rattle.std.specs.Int.{w32}
use Rattle.std.proofs.Common.{to_z}
use Rattle.paper.specs.Numbers.{num}
use Rattle.paper.specs.Terms.{Ref, of_module, of_routine, Memory, load}
use Rattle.paper.specs.Trees.{Expr}
use Rattle.paper.specs.Words.{Word}
use Rattle.paper.specs.Expressions.{disjunctions}
use Rattle.paper.specs.Names.{DataType, a_num, Meaning, Text, Scopes, meaning}
use Rattle.paper.specs.Types.{constant_faults, constant_value, size_of, raises_error, is_no_size, element_limit}
use Rattle.store_cells.specs.Cells.{cells_of}
use Rattle.code.specs.Cells.{first_window, errno_cell}
use Rattle.code.specs.Spans.{bias}
use Rattle.store_evaluation.specs.Answers.{call_slots, first_negative}
use Rattle.faults.specs.First.{First}
use Rattle.check_expressions.specs.Known.{largest, InRoom, Holds, held_by}
use Rattle.store_writing.specs.Promises.{Kept}
use Rattle.layout.specs.Types.{type_in}
use Rattle.check_expressions.specs.Answers.{Stands}
use Rattle.check_constants.specs.Sizing.{Valued, Sized}

-- ---- what constants are worth
-- The cell of a word: the module's words are the first cells, and those of the routine that is being checked stand in the first window.
unfoldable pub cell_of : Ref → ℕ
cell_of (of_module k) = k
cell_of (of_routine k) = first_window + k

-- a number that num holds
pub record InNum (z : ℤ) : Type 0 where
  pub low : lt_z z num.low ≡ false
  pub high : lt_z num.high z ≡ false

-- a number as a head has it
pub record HeldAs (v : ℤ) (r : ℕ) : Type 0 where
  pub small : r < 16777216
  pub is : pos r -ℤ pos bias ≡ v

-- A word of the module, which has m, or of the routine, which has n: its cell has what the paper reads there, which is in num. `X` is the value store's cells.
pub record Worth (m n : ℕ) (X : List ℕ) (M : Memory) (r : Ref) : Type 0 where
  pub room : InRoom m n r 1
  pub is : to_z w32 (get_or X (cell_of r) 0) ≡ load M r
  pub ranged : InNum (load M r)

-- What a constant expression has to know of a name's meaning: what a constant is worth.
unfoldable pub Fine : (m n : ℕ) (X : List ℕ) (M : Memory) → Meaning → Type 0
Fine m n X M a = Holds (λ w. w.fixed ≡ true → Worth m n X M w.first) (λ k. k ≤ largest) (held_by a)

-- ---- what is asked
-- An expression stands at a word; the routine's words are those of a window, and ERRNO, which no constant expression reads, is no large number.
pub record Asks (code values : List ℕ) (at : ℕ) : Type 0 where
  pub stands : Stands code values disjunctions at
  pub M : Memory
  pub window : stands.known.n ≤ call_slots
  pub fine : (text : Text) → Fine stands.known.m stands.known.n (cells_of values) M (meaning stands.known.S text)
  pub number : get_or (cells_of values) errno_cell 0 < first_negative

-- ---- answers
-- No rule is broken: the value, and the word after the expression.
pub record Right (W : List Word) (t : DataType) (S : Scopes) (M : Memory) (e : Expr) (to : ℕ) (v : ℤ) (next : ℕ) : Type 0 where
  pub none : constant_faults W raises_error t S M e ≡ []
  pub is : v ≡ constant_value W S M e
  pub ranged : InNum v
  pub next-is : next ≡ to

unfoldable pub Says : (W : List Word) → DataType → Scopes → Memory → Expr → (to : ℕ) → Valued → Type 0
Says W t S M e to (Ok (v, next)) = Right W t S M e to v next
Says W t S M e to (Err broken) = First (as_fault broken) (constant_faults W raises_error t S M e)

pub record Values (code values after : List ℕ) (wants : ValueType) (at : ℕ) (r : Valued) : Type 0 where
  pub says : (a : Asks code values at) (t : DataType) → type_in wants ≡ t → Says a.stands.known.W t a.stands.known.S a.M a.stands.e a.stands.to r
  pub kept : (a : Asks code values at) → Kept code after at a.stands.to

-- ---- sizes
-- the same of an array's size
pub record Counted (W : List Word) (S : Scopes) (M : Memory) (e : Expr) (to : ℕ) (count next : ℕ) : Type 0 where
  pub none : constant_faults W is_no_size a_num S M e ≡ []
  pub is : count ≡ size_of W S M e
  pub some : 0 < count
  pub most : count ≤ element_limit
  pub next-is : next ≡ to

unfoldable pub SaysSize : (W : List Word) → Scopes → Memory → Expr → (to : ℕ) → Sized → Type 0
SaysSize W S M e to (Ok (count, next)) = Counted W S M e to count next
SaysSize W S M e to (Err broken) = First (as_fault broken) (constant_faults W is_no_size a_num S M e)

pub record Sizes (code values after : List ℕ) (at : ℕ) (r : Sized) : Type 0 where
  pub says : (a : Asks code values at) → SaysSize a.stands.known.W a.stands.known.S a.M a.stands.e a.stands.to r
  pub kept : (a : Asks code values at) → Kept code after at a.stands.to
