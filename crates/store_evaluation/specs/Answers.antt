-- What an evaluation answers, and what it asks of the two stores.
use Rattle.std.specs.Prelude.{◌≡◌, true, false, List, ℕ, ◌+◌, ◌-◌, ◌*◌, ◌%◌, ◌<◌, ◌≤◌, length, get_or, ℤ, pos, nat_abs}
use Rattle.std.proofs.Math.Option.{Option, some}
use Rattle.std.specs.Int.Signed.{lt_z}
use Rattle.std.specs.Int.{w32}
use Rattle.std.proofs.Common.{SFits}
use Rattle.paper.specs.Expressions.{nestings}
use Rattle.paper.specs.Numbers.{Value, value, error}
use Rattle.paper.specs.Terms.{Term, Memory, worth}
use Rattle.store_cells.specs.Cells.{cells_of}
use Rattle.code.specs.Cells.{first_window, errno_cell}
use Rattle.code.specs.Spans.{term_within, memory_in}
pub use Rattle.layout.specs.Answers.{first_error}

-- ---- answers
-- An answer is one number of 64 bits: a value, or the number of an error above all values.
unfoldable pub decoded : ℤ → Value
decoded z = elim (lt_z z (pos first_error)) [ true ↦ value z | false ↦ error (nat_abs z - first_error) ]

-- a value has 32 bits
abbrev pub Small : ℤ → Type 0
Small z = lt_z z (pos first_error) ≡ true → SFits w32 z

pub record Gives (v : Value) (r : ℤ) : Type 0 where
  pub is : decoded r ≡ v
  pub small : Small r

-- ---- the stores
-- a call's words, at the beginning of its window
abbrev pub call_slots : ℕ
call_slots = 64

-- the words below it are the same number with a sign and without
abbrev pub first_negative : ℕ
first_negative = 2147483648

-- how many words of data the module and the routine have
pub record Counts : Type 0 where
  pub m : ℕ
  pub n : ℕ
  pub most : m ≤ first_window
  pub window : n ≤ call_slots

-- the expression that stands in a span, in which so many parentheses and braces may nest; and one in which 16 may
abbrev pub term_under : (nesting : ℕ) → Counts → (code : List ℕ) → (from to : ℕ) → Option Term
term_under nest c code from to = term_within c.m c.n (cells_of code) nest from to

abbrev pub term_of : Counts → (code : List ℕ) → (from to : ℕ) → Option Term
term_of c code from to = term_under nestings c code from to

abbrev pub memory_of : Counts → (values : List ℕ) → (base : ℕ) → Memory
memory_of c values base = memory_in c.m c.n (cells_of values) base

-- The value store has the module's words, ERRNO, which is no large number, and the call's words from `base` on.
pub record Stores (values : List ℕ) (base : ℕ) : Type 0 where
  pub words : errno_cell * 4 + 4 ≤ length values
  pub call : (base + call_slots) * 4 ≤ length values
  pub number : get_or (cells_of values) errno_cell 0 < first_negative

-- An expression stands in the words from `from` up to `to`, in which so many parentheses and braces may nest. The code store has whole words, of two cells
-- each: so those that say something are in it.
pub record StandsUnder (nesting : ℕ) (code : List ℕ) (from to : ℕ) : Type 0 where
  pub c : Counts
  pub t : Term
  pub is : term_under nesting c code from to ≡ some t
  pub whole : length code % 8 ≡ 0

-- r is what the expression is worth that stands there.
pub record EvaluatedUnder (nesting : ℕ) (code values : List ℕ) (base from to : ℕ) (r : ℤ) : Type 0 where
  pub is : (c : Counts) (t : Term) → term_under nesting c code from to ≡ some t → decoded r ≡ worth (memory_of c values base) t
  pub small : Small r

-- "parentheses and braces in an expression nest to 16"
abbrev pub Stands : (code : List ℕ) → (from to : ℕ) → Type 0
Stands code from to = StandsUnder nestings code from to

abbrev pub Evaluated : (code values : List ℕ) → (base from to : ℕ) → (r : ℤ) → Type 0
Evaluated code values base from to r = EvaluatedUnder nestings code values base from to r
