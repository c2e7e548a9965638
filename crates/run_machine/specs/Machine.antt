-- What a step of the machine asks of the two stores, and what it promises: it does what the paper's step does with the state that the value store holds.
use Rattle.std.specs.Prelude.{◌≡◌, true, List, map, ℕ, suc, ◌+◌, ◌-◌, ◌*◌, ◌<◌, ◌≤◌, length, get_or, drop, ℤ, pos}
use Rattle.std.specs.Int.{w32}
use Rattle.std.proofs.Common.{to_z}
use Rattle.paper.specs.Steps.{Program}
use Rattle.paper.specs.States.{Rooms, Effect, made, failing, handing, ending, lacking}
use Rattle.paper.specs.Running.{next_step, perform}
use Rattle.store_cells.specs.Cells.{cells_of}
use Rattle.code.specs.Cells.{window_of, op_at, value_at, place_at, errno_cell}
use Rattle.code.specs.Steps.{Head}
use Rattle.code.specs.Holds.{Holds}
use Rattle.code.specs.Windows.{call_in, waiting, written_in, state_in, written_cell}
use Rattle.layout.specs.Answers.{first_error, answers}
use Rattle.layout.specs.Rules.{beyond_depth, no_room}
use Rattle.layout.specs.declared.endings.Ending.{Ending}
use Rattle.layout.specs.Endings.{ending_number, ends_step}
-- the sizes of what is lent, and what a step answers
pub use Rattle.paper.specs.Answer.{depth_limit}
pub use Rattle.layout.specs.Named.{store_bytes}
pub use Rattle.layout.specs.Answers.{entered, left, ended, handed}
unfoldable pub use Rattle.layout.specs.Answers.{lacked_by}
use Rattle.run_machine.specs.Live.{Live}

-- ---- the state
-- What the next step of the newest call, which has d callers, does.
unfoldable pub effect_at : Program → List Head → Rooms → (X : List ℕ) → (d i steps : ℕ) → (out : List ℕ) → Effect
effect_at P R rooms X d i steps out =
    let c = call_in P R X (window_of d) i in
    let s = next_step P c in
    perform P rooms c (waiting P R X d) s.place s.after s.does (state_in P R X d i steps out)

-- How a step comes out that was made with the value store X and left it as X', and the output likewise: r is its answer.
module _ (P : Program) (R : List Head) (C : List ℕ) (offset : ℕ → ℕ) (d i steps : ℕ) (X X' out out' : List ℕ) where
  pub data Comes (E : Effect) (r : ℤ) : Type 0 where
    goes_on : (n : ℕ) → r ≡ pos n → Live P R X' d n → E ≡ made (state_in P R X' d n steps out') → Comes E r
    enters : (n : ℕ) → r ≡ pos (entered + n) → suc d < depth_limit → Live P R X' (suc d) n → E ≡ made (state_in P R X' (suc d) n steps out') → Comes E r
    leaves : (c n : ℕ) → r ≡ pos (left + n) → d ≡ suc c → Live P R X' c n → E ≡ made (state_in P R X' c n steps out') → Comes E r
    fails : (e : ℕ) → r ≡ pos (first_error + e) → e < answers → Live P R X' d i → E ≡ failing e (state_in P R X' d i steps out') → Comes E r
    hands : r ≡ pos handed → X' ≡ X → out' ≡ out → E ≡ handing (state_in P R X d i steps out) → Comes E r
    ends : (e : Ending) → r ≡ pos (ended + ending_number e) → ends_step e ≡ true → X' ≡ X → out' ≡ out → E ≡ ending (ending_number e) (state_in P R X d i steps out) → Comes E r
    -- w has the offset of the word that it is at
    lacks : (n w at : ℕ) → r ≡ pos (lacked_by n + w) → beyond_depth ≤ n → n ≤ no_room → w < answers → place_at C w ≡ offset at → X' ≡ X → out' ≡ out → E ≡ lacking n at → Comes E r

-- ---- what a step asks
-- The code store holds a program, and the value store a state of its run: the window of the newest call is at `base`, its next step is i.
pub record Here (code values : List ℕ) (base i : ℕ) : Type 0 where
  pub text : List ℕ
  pub P : Program
  pub R : List Head
  pub offset : ℕ → ℕ
  pub holds : Holds text R offset (cells_of code) P
  pub code-size : length code ≡ store_bytes
  pub values-size : length values ≡ store_bytes
  pub d : ℕ
  pub deep : d < depth_limit
  pub base-is : base ≡ window_of d
  pub live : Live P R (cells_of values) d i

-- The word at i has this op and this value.
pub record Says (code : List ℕ) (i op v : ℕ) : Type 0 where
  pub op-is : op_at (cells_of code) i ≡ op
  pub value-is : v ≡ value_at (cells_of code) i

-- The window of the last call that the depth lent admits.
pub record LastWindow (rooms : Rooms) (last : ℕ) : Type 0 where
  pub some : 0 < rooms.depth
  pub most : rooms.depth ≤ depth_limit
  pub is : last ≡ window_of (rooms.depth - 1)

-- ---- what it promises
-- The counts of the run, of output and inputs, are as they were.
abbrev pub KeepsRun : (X X' : List ℕ) → Type 0
KeepsRun X X' = (c : ℕ) → written_cell ≤ c → c < errno_cell → get_or X' c 0 ≡ get_or X c 0

-- A step that makes no output and no call.
pub record Performs (code values after : List ℕ) (base i : ℕ) (r : ℤ) : Type 0 where
  pub long : length after ≡ length values
  pub does : (h : Here code values base i) (rooms : Rooms) (steps : ℕ) (out : List ℕ) →
      Comes h.P h.R (cells_of code) h.offset h.d i steps (cells_of values) (cells_of after) out out (effect_at h.P h.R rooms (cells_of values) h.d i steps out) r
  -- output and inputs are not touched
  pub kept : KeepsRun (cells_of values) (cells_of after)

-- A call.
pub record Calls (code values after : List ℕ) (base last i : ℕ) (r : ℤ) : Type 0 where
  pub long : length after ≡ length values
  pub does : (h : Here code values base i) (rooms : Rooms) → LastWindow rooms last → (steps : ℕ) (out : List ℕ) →
      Comes h.P h.R (cells_of code) h.offset h.d i steps (cells_of values) (cells_of after) out out (effect_at h.P h.R rooms (cells_of values) h.d i steps out) r
  pub kept : KeepsRun (cells_of values) (cells_of after)

-- ---- any step
-- what a run lends besides its steps and its depth
pub record Lends (rooms : Rooms) (inputs out : List ℕ) : Type 0 where
  pub room : rooms.output ≡ length out
  pub reads : rooms.inputs ≡ map (to_z w32) (cells_of inputs)

pub record Steps (text code values out : List ℕ) (base last i : ℕ) : Type 0 where
  pub here : Here code values base i
  pub text-is : here.text ≡ text
  pub rooms : Rooms
  pub deepest : LastWindow rooms last
  pub written : written_in here.P here.R (cells_of values) ≤ length out

pub record Stepped (text code values after inputs out out' : List ℕ) (base last i : ℕ) (r : ℤ) : Type 0 where
  pub long : length after ≡ length values
  pub out-long : length out' ≡ length out
  pub does : (h : Here code values base i) → h.text ≡ text → (rooms : Rooms) → LastWindow rooms last → Lends rooms inputs out → (steps : ℕ) →
      Comes h.P h.R (cells_of code) h.offset h.d i steps (cells_of values) (cells_of after) out out' (effect_at h.P h.R rooms (cells_of values) h.d i steps out) r
  -- the count only grows, and output past it is untouched
  pub grows : (P : Program) (R : List Head) → written_in P R (cells_of values) ≤ written_in P R (cells_of after)
  pub written : (P : Program) (R : List Head) → written_in P R (cells_of after) ≤ length out
  pub past : (P : Program) (R : List Head) → drop (written_in P R (cells_of after)) out' ≡ drop (written_in P R (cells_of after)) out
