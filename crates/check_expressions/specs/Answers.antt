-- What the check of an expression answers, and what it asks of the two stores.
use Rattle.layout.specs.declared.types.ValueType.{ValueType}
use Rattle.std.specs.Prelude.{◌≡◌, Bool, List, [], ◌∷◌, ℕ, ◌<◌, ◌≤◌, Ok, Err}
use Rattle.std.proofs.Math.Option.{some}
use Rattle.paper.specs.Trees.{Expr, first}
use Rattle.paper.specs.Expressions.{got, nestings, disjunctions, level, level_of, expr_in}
use Rattle.paper.specs.Names.{DataType, sort_in}
use Rattle.paper.specs.Types.{Fault, wanted, judge}
use Rattle.paper.specs.Types as types
use Rattle.store_cells.specs.Cells.{cells_of}
use Rattle.code.specs.Cells.{op_at}
use Rattle.code.specs.Spans.{term_within}
use Rattle.layout.specs.Types.{type_in, type_said}
use Rattle.layout.specs.Broken.{as_fault}
use Rattle.layout.specs.declared.rules.Breach.{Breach}
use Rattle.store_writing.specs.Promises.{Kept}
use Rattle.check_expressions.specs.Judgements.{Judged}
use Rattle.check_expressions.specs.Known.{Loaded, Known}

-- ---- the code store
-- No word gets an op as high as those of steps, so that an expression's words are no steps.
pub record Low (before after : List ℕ) : Type 0 where
  pub stays : (i : ℕ) → op_at (cells_of before) i < 128 → op_at (cells_of after) i < 128

-- ---- answers
-- No rule is broken: the type, the word after it, and its term that stands in the cells, in which so many parentheses and braces may nest.
pub record SoundUnder (nesting m n : ℕ) (C : List ℕ) (at to : ℕ) (j : types.Judged) (type : ValueType) (next : ℕ) : Type 0 where
  pub none : j.faults ≡ []
  pub type-is : type_in type ≡ j.type
  pub next-is : next ≡ to
  pub stands : term_within m n C nesting at to ≡ some j.term

-- The rule broken, and its word, are those of the first fault.
pub record Refused (j : types.Judged) (broken : Breach) : Type 0 where
  pub others : List Fault
  pub faults-are : j.faults ≡ as_fault broken ∷ others

-- what an answer says of an expression from `at` up to `to` that the paper judges so
unfoldable pub SaysUnder : (nesting m n : ℕ) (C : List ℕ) (at to : ℕ) → types.Judged → Judged → Type 0
SaysUnder nesting m n C at to j (Ok (type, next)) = SoundUnder nesting m n C at to j type next
SaysUnder nesting m n C at to j (Err broken) = Refused j broken

pub record JudgesUnder (nesting m n : ℕ) (before after : List ℕ) (at to : ℕ) (j : types.Judged) (r : Judged) : Type 0 where
  pub says : SaysUnder nesting m n (cells_of after) at to j r
  pub kept : Kept before after at to
  pub low : Low before after

-- ---- the promise
-- An expression of operators up to a level stands from `at` up to `to`, no such operator follows it, and in it no more parentheses and braces nest than so many.
pub record StandsUnder (nesting : ℕ) (code values : List ℕ) (top at : ℕ) : Type 0 where
  pub known : Known values
  pub d : ℕ
  pub e : Expr
  pub to : ℕ
  pub tops : top ≤ disjunctions
  pub deep : d ≤ nesting
  pub is : level (sort_in known.W) (expr_in (sort_in known.W) d) top at ≡ got (e, to)
  pub ends : 0 < level_of (sort_in known.W to) → top < level_of (sort_in known.W to)
  pub loaded : Loaded known.W code at to

-- the answer is what the paper judges of it
pub record CheckedUnder (nesting : ℕ) (code values after : List ℕ) (only : Bool) (top at : ℕ) (r : Judged) : Type 0 where
  pub is : (s : StandsUnder nesting code values top at) → JudgesUnder nesting s.known.m s.known.n code after at s.to (judge s.known.W only s.known.S s.e) r

-- "parentheses and braces in an expression nest to 16"
abbrev pub Sound : (m n : ℕ) (C : List ℕ) (at to : ℕ) (j : types.Judged) (type : ValueType) (next : ℕ) → Type 0
Sound m n C at to j type next = SoundUnder nestings m n C at to j type next

abbrev pub Judges : (m n : ℕ) (before after : List ℕ) (at to : ℕ) (j : types.Judged) (r : Judged) → Type 0
Judges m n before after at to j r = JudgesUnder nestings m n before after at to j r

abbrev pub Stands : (code values : List ℕ) (top at : ℕ) → Type 0
Stands code values top at = StandsUnder nestings code values top at

abbrev pub Checked : (code values after : List ℕ) (only : Bool) (top at : ℕ) (r : Judged) → Type 0
Checked code values after only top at r = CheckedUnder nestings code values after only top at r

-- ---- an expression of a type
-- what is judged of an expression whose first word is `at` where a type is wanted: "13: wrong type"
abbrev pub of_type : DataType → (at : ℕ) → types.Judged → types.Judged
of_type t i j = record { type = t; faults = wanted t i j; term = j.term }

-- the type told by its number
pub record OfType (code values after : List ℕ) (only : Bool) (wants at : ℕ) (r : Judged) : Type 0 where
  pub is : (s : Stands code values disjunctions at) (t : DataType) → type_said wants ≡ some t
      → Judges s.known.m s.known.n code after at s.to (of_type t (first s.e) (judge s.known.W only s.known.S s.e)) r

pub record Typed (code values after : List ℕ) (only : Bool) (wants : ValueType) (at : ℕ) (r : Judged) : Type 0 where
  pub is : (s : Stands code values disjunctions at) (t : DataType) → type_in wants ≡ t
      → Judges s.known.m s.known.n code after at s.to (of_type t (first s.e) (judge s.known.W only s.known.S s.e)) r
