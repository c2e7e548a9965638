-- Where a target is: what finding it and storing to it ask, and what they promise.
use Rattle.std.specs.Prelude.{◌≡◌, List, Bool, ℕ, ◌+◌, ◌*◌, ◌%◌, ◌<◌, ◌≤◌, length, get_or, ℤ, pos}
use Rattle.std.proofs.Math.Option.{some}
use Rattle.paper.specs.Terms.{Ref, of_module, of_routine, Term, Memory, Located, at, fails, locate, worth}
use Rattle.paper.specs.Steps.{Spot, scalar, element_of}
use Rattle.paper.specs.States.{Rooms}
use Rattle.store_cells.specs.Cells.{cells_of}
use Rattle.code.specs.Cells.{op_at, value_at}
use Rattle.code.specs.Spans.{first_in, size_in, memory_in}
use Rattle.code.specs.Steps.{Head, a_target, a_call_target, target_in}
use Rattle.layout.specs.Answers.{answers}
use Rattle.store_evaluation.specs.Answers.{first_error, Counts, term_of, memory_of}
use Rattle.run_machine.specs.Live.{slots_of_call, code_of_call}
use Rattle.run_machine.specs.Machine.{Here, Comes, effect_at, KeepsRun}

-- ---- words
-- The cell of a word that the call with its window at `base` refers to.
unfoldable pub ref_cell : (base : ℕ) → Ref → ℕ
ref_cell base (of_module k) = k
ref_cell base (of_routine k) = base + k

-- So many words from a word on are there: the module has m words, the call n.
unfoldable pub RefFits : (m n : ℕ) → Ref → (size : ℕ) → Type 0
RefFits m n (of_module k) s = k + s ≤ m
RefFits m n (of_routine k) s = k + s ≤ n

-- ---- where a target is
unfoldable pub spot_in : Memory → Spot → Located
spot_in M (scalar r) = at r
spot_in M (element_of r n e) = locate r n (worth M e)

-- r tells it: its cell, or an error.
pub data Tells (m n base : ℕ) (l : Located) (r : ℤ) : Type 0 where
  found : (w : Ref) → l ≡ at w → RefFits m n w 1 → r ≡ pos (ref_cell base w) → Tells m n base l r
  lost : (e : ℕ) → l ≡ fails e → e < answers → r ≡ pos (first_error + e) → Tells m n base l r

-- An element of the array of `size` words whose first cell is given: its index stands from i + 2 up to `end`.
pub record Indexes (code : List ℕ) (base first size i end : ℕ) : Type 0 where
  pub c : Counts
  pub t : Term
  pub is : term_of c code (i + 2) end ≡ some t
  pub whole : length code % 8 ≡ 0
  pub array : Ref
  pub fits : RefFits c.m c.n array size
  pub first-is : first ≡ ref_cell base array

pub record Found (code values : List ℕ) (base first size i end : ℕ) (r : ℤ) : Type 0 where
  pub is : (c : Counts) (t : Term) (array : Ref) → term_of c code (i + 2) end ≡ some t → RefFits c.m c.n array size → first ≡ ref_cell base array →
      Tells c.m c.n base (locate array size (worth (memory_of c values base) t)) r

-- A target stands at word i.
pub record Target (code : List ℕ) (i : ℕ) : Type 0 where
  pub c : Counts
  pub function : Bool
  pub text : List ℕ
  pub R : List Head
  pub s : Spot
  pub next : ℕ
  pub reads : target_in c.m c.n function text R (cells_of code) a_target i ≡ some (s, next)
  pub whole : length code % 8 ≡ 0
  pub inside : i * 8 + 8 ≤ length code

pub record Spotted (code values : List ℕ) (base i : ℕ) (r : ℤ) : Type 0 where
  pub is : (c : Counts) (function : Bool) (text : List ℕ) (R : List Head) (s : Spot) (next : ℕ) → target_in c.m c.n function text R (cells_of code) a_target i ≡ some (s, next) →
      Tells c.m c.n base (spot_in (memory_of c values base) s) r

-- ---- the target of a step
-- Its op is counted from `ops`. It is a word, whose cell is given; or an element of an array, whose first cell and whose size are given.
pub data WordAt (C : List ℕ) (base ops i cell : ℕ) : Type 0 where
  of_module_word : op_at C i ≡ ops → cell ≡ value_at C i → WordAt C base ops i cell
  of_call_word : op_at C i ≡ ops + 1 → cell ≡ base + value_at C i → WordAt C base ops i cell

pub data ArrayAt (C : List ℕ) (base ops i first size : ℕ) : Type 0 where
  of_module_array : op_at C i ≡ ops + 2 → first ≡ first_in (value_at C i) → size ≡ size_in (value_at C i) → ArrayAt C base ops i first size
  of_call_array : op_at C i ≡ ops + 3 → first ≡ base + first_in (value_at C i) → size ≡ size_in (value_at C i) → ArrayAt C base ops i first size

module _ (code values : List ℕ) (base i : ℕ) where
  -- The target is at `cell`, and `next` is the word behind it.
  pub record Aims (h : Here code values base i) (ops cell next : ℕ) : Type 0 where
    pub s : Spot
    pub reads : let c = code_of_call h.P h.R (cells_of values) h.d in
        target_in (length h.P.words) (slots_of_call c) c.function h.text h.R (cells_of code) ops i ≡ some (s, next)
    pub w : Ref
    pub is : spot_in (memory_in (length h.P.words) (slots_of_call (code_of_call h.P h.R (cells_of values) h.d)) (cells_of values) base) s ≡ at w
    pub fits : RefFits (length h.P.words) (slots_of_call (code_of_call h.P h.R (cells_of values) h.d)) w 1
    pub cell-is : cell ≡ ref_cell base w

  -- A store to a cell that is known.
  pub record Assigns (next cell : ℕ) : Type 0 where
    pub here : Here code values base i
    pub op : op_at (cells_of code) i < a_call_target
    pub aims : Aims here a_target cell next

  pub record Assigned (next cell : ℕ) (after : List ℕ) (r : ℤ) : Type 0 where
    pub long : length after ≡ length values
    pub does : (h : Here code values base i) → Aims h a_target cell next → (rooms : Rooms) (steps : ℕ) (out : List ℕ) →
        Comes h.P h.R (cells_of code) h.offset h.d i steps (cells_of values) (cells_of after) out out (effect_at h.P h.R rooms (cells_of values) h.d i steps out) r
    pub kept : KeepsRun (cells_of values) (cells_of after)
