-- The code store holds a program: what a run reads from its cells is what the paper's table of steps says. This is all that the runner knows of the checker.
use Rattle.std.specs.Prelude.{◌≡◌, true, false, List, [], ◌++◌, ℕ, zero, suc, ◌+◌, ◌<◌, ◌≤◌, eqb, length, get_or, replicate, ℤ, pos}
use Rattle.std.proofs.Math.Option.{Option, none, some}
use Rattle.laws.specs.Options.{WhereSome}
use Rattle.paper.specs.Steps.{Action, parts_of, Step, Code, Program}
use Rattle.paper.specs.Running.{code_at}
use Rattle.code.specs.Cells.{op_at, place_at, link_at}
use Rattle.code.specs.Spans.{◌then◌}
use Rattle.code.specs.Steps.{Head, no_head, numbered, Stands, step_in, constant_at, parts, a_datum, the_parameters}
use Rattle.code.specs.Closed.{Every, Closed, SmallName, OwnLoop}

-- what a run can know of a step of the table, where words have these offsets
unfoldable pub known : (offset : ℕ → ℕ) → Step → Stands
known offset s = record { offset = offset s.place; after = s.after; does = s.does }

-- 0 is the word MODULE, and no step
unfoldable pub optionally : ℕ → Option ℕ
optionally zero = none
optionally (suc n) = some (suc n)

-- The words that a routine's data start with, from the first declaration on: in place of its offset each has how many words it is, and its link is the next.
-- The parenthesis before the parameters ends them.
unfoldable pub data_in : (C : List ℕ) → (fuel i : ℕ) → Option (List ℤ × ℕ)
data_in C zero i = none
data_in C (suc f) i =
    elim (eqb (op_at C i) a_datum) [
      | true ↦ data_in C f (link_at C i) then (λ r. some (replicate (place_at C i) (constant_at C i) ++ r.0, r.1))
      | false ↦ elim (eqb (op_at C i) the_parameters) [ true ↦ some ([], i) | false ↦ none ]
    ]

-- a callee's word has its own offset, and is the name of one of the routines
unfoldable pub CalleeIn : (R : List Head) → (offset : ℕ → ℕ) → (C : List ℕ) → Action → Type 0
CalleeIn R offset C a = WhereSome (λ c. (place_at C c.0 ≡ offset c.0) × (c.1 < length R)) (parts_of a).callee

-- A routine that begins at a word, in a module of m words.
module _ (m : ℕ) (text : List ℕ) (R : List Head) (offset : ℕ → ℕ) (C : List ℕ) where
  pub record HoldsRoutine (h : Head) (c : Code) : Type 0 where
    pub function-is : h.function ≡ c.function
    -- in place of its offset its first word has the first step; the link of the word behind it is the first of the ERROR list, and its place that of the UNDO list
    pub start_is : c.start ≡ place_at C h.word
    pub handler-is : c.handler ≡ optionally (link_at C (h.word + 1))
    pub undo-is : c.undo ≡ optionally (place_at C (h.word + 1))
    -- its words as a call begins: the arguments, its data, the FOR variables
    pub starts : List ℤ
    pub opens : ℕ
    pub data_is : data_in C parts (link_at C h.word) ≡ some (starts, opens)
    pub words_are : c.words ≡ replicate h.parameters (pos 0) ++ starts
    pub fors-are : c.fors ≡ place_at C opens
    pub room : length c.words + c.fors ≤ 64
    pub steps-are : Every (λ s. step_in m (length c.words + c.fors) c.function text R C s.name ≡ some (known offset s)) c.steps
    pub callees-are : Every (λ s. CalleeIn R offset C s.does) c.steps
    pub closed : Closed c
    pub small : Every SmallName c.steps
    pub loops-fit : Every (OwnLoop (length c.words)) c.steps
    pub head_small : h.word + 1 < parts

-- The module's routines `R`, whose words have these offsets, are those of the program.
pub record Holds (text : List ℕ) (R : List Head) (offset : ℕ → ℕ) (C : List ℕ) (P : Program) : Type 0 where
  pub as_many : length R ≡ length P.routines
  pub room : length P.words ≤ 1024
  -- each begins at a word of its own
  pub apart : (k : ℕ) → k < length R → numbered R (get_or R k no_head).word ≡ k
  pub routines : (k : ℕ) → k < length R → HoldsRoutine (length P.words) text R offset C (get_or R k no_head) (code_at P k)
