-- What a whole step asks, and what it promises: it is the paper's, of a run or, once that is aborted, of its UNDO lists.
use Rattle.std.specs.Prelude.{◌≡◌, Bool, true, false, ◌||◌, List, [], ◌∷◌, ℕ, ◌+◌, ◌<◌, ◌≤◌, eqb, ltb, length, drop, ℤ, pos, if◌then◌else◌}
use Rattle.std.specs.Int.Signed.{lt_z}
use Rattle.paper.specs.Steps.{Program}
use Rattle.paper.specs.States.{Call, State, Rooms, with_calls, Effect, failing, handing, ending, lacking}
use Rattle.paper.specs.Running.{Outcome, goes_on, stopped, stopping, settled, take_step}
use Rattle.paper.specs.Undoing.{undone, undo_step, aborted}
use Rattle.store_cells.specs.Cells.{cells_of}
use Rattle.code.specs.Cells.{window_of, place_at}
use Rattle.code.specs.Steps.{Head}
use Rattle.code.specs.Windows.{written_cell, count_at, waiting, state_in}
use Rattle.layout.specs.Answers.{first_error, answers, lacked, input_lacked, room_lacked}
use Rattle.layout.specs.Rules.{main_returned, exited, beyond_depth, no_room}
use Rattle.layout.specs.declared.endings.Ending.{Ending}
use Rattle.layout.specs.declared.endings.Ending.TheVariants.{MainReturned, Exited, FellOff, BeyondDepth, NoInput, NoRoom, Aborted}
use Rattle.layout.specs.Endings.{ending_number, ends_step}
use Rattle.run_machine.specs.Live.{Live}
use Rattle.run_machine.specs.Machine.{store_bytes, depth_limit, ended, lacked_by, handed, Here, LastWindow, KeepsRun, Lends}
use Rattle.run_errors.specs.declared.Machine.{Machine}
use Rattle.run_advancing.specs.declared.Halt.{Halt}
use Rattle.run_advancing.specs.declared.Turn.{Turn}
use Rattle.run_advancing.specs.declared.Turn.TheVariants.{On, Over}

-- ---- the paper's step
-- Of a run, or of the UNDO lists of one that is aborted.
unfoldable pub turned : (is_aborted : Bool) → Program → Rooms → State → Outcome
turned false P R s = take_step P R s
-- no run comes to one without calls: `undoing` ends there
turned true P R s = elim s.calls [ [] ↦ stopped false (aborted s) | c ∷ r ↦ undo_step P R c r s ]

-- the offset that an ending tells: "1: main returned: 0", "9: aborted, offset 0"
abbrev pub told : (offset : ℕ → ℕ) → (ending place : ℕ) → ℕ
told offset n place = if eqb n 1 || eqb n 9 then 0 else offset place

-- how many steps are made with one that counts, or does not
abbrev pub made_with : (counts : Bool) → (steps : ℕ) → ℕ
made_with counts n = if counts then n + 1 else n

abbrev pub halt : (ending : Ending) (place : ℕ) (counts : Bool) → Halt
halt n p b = record { ending = n; place = p; counts = b }

-- How a run goes on, as the paper has it, with a step that the call with d callers makes, at i, after so many steps: the value store is X then, the output is out.
module _ (is_aborted : Bool) (P : Program) (R : List Head) (offset : ℕ → ℕ) (d i steps : ℕ) (X out : List ℕ) where
  pub data Turns (o : Outcome) (t : Turn) : Type 0 where
    -- it goes on: the newest call has e callers
    on : (e : ℕ) (m : Machine) → t ≡ On m → e < depth_limit → m.base ≡ window_of e → Live P R X e m.next → o ≡ goes_on (state_in P R X e m.next (steps + 1) out) → Turns o t
    -- it has ended, and stands at the step still
    over : (e : Ending) (place : ℕ) (counts : Bool) → t ≡ Over (halt e (told offset (ending_number e) place) counts) → Live P R X d i
        → o ≡ stopping counts (ending_number e) place (state_in P R X d i (made_with counts steps) out) → Turns o t
    -- it is aborted, and no call is left
    gone : is_aborted ≡ true → t ≡ Over (halt Aborted 0 true) → o ≡ goes_on (with_calls [] (state_in P R X 0 0 (steps + 1) out)) → Turns o t

-- ---- what is left in the lent words
abbrev pub written : List ℕ → ℕ
written values = count_at (cells_of values) written_cell

-- The count of the output only grows, and output past it is untouched.
pub record Leaves (values after out out' : List ℕ) : Type 0 where
  pub long : length after ≡ length values
  pub out-long : length out' ≡ length out
  pub grows : written values ≤ written after
  pub fits : written after ≤ length out'
  pub past : drop (written after) out' ≡ drop (written after) out

-- ---- the promise
pub record Advances (text code values after inputs out out' : List ℕ) (last : ℕ) (m : Machine) (is_aborted : Bool) (t : Turn) : Type 0 where
  pub leaves : Leaves values after out out'
  pub is : (h : Here code values m.base m.next) → h.text ≡ text → (rooms : Rooms) → LastWindow rooms last → Lends rooms inputs out → (steps : ℕ)
      → Turns is_aborted h.P h.R h.offset h.d m.next steps (cells_of after) out'
      (turned is_aborted h.P rooms (state_in h.P h.R (cells_of values) h.d m.next steps out)) t

-- ---- a step that is not made
-- By its answer r: the value store X is as it leaves it.
module _ (P : Program) (R : List Head) (C : List ℕ) (offset : ℕ → ℕ) (d i steps : ℕ) (X out : List ℕ) where
  pub data Breaks (E : Effect) (r : ℤ) : Type 0 where
    ends : (e : Ending) → r ≡ pos (ended + ending_number e) → ends_step e ≡ true → E ≡ ending (ending_number e) (state_in P R X d i steps out) → Breaks E r
    lacks : (n w at : ℕ) → r ≡ pos (lacked_by n + w) → beyond_depth ≤ n → n ≤ no_room → w < answers → place_at C w ≡ offset at → E ≡ lacking n at → Breaks E r
    hands : r ≡ pos handed → E ≡ handing (state_in P R X d i steps out) → Breaks E r
    fails : (e : ℕ) → r ≡ pos (first_error + e) → e < answers → E ≡ failing e (state_in P R X d i steps out) → Breaks E r

pub record Unmade (code values : List ℕ) (base i : ℕ) (r : ℤ) : Type 0 where
  pub here : Here code values base i
  pub steps : ℕ
  pub out : List ℕ
  pub E : Effect
  pub broken : Breaks here.P here.R (cells_of code) here.offset here.d i steps (cells_of values) out E r

-- What the rules make of a step that is at a place and has these callers.
unfoldable pub outcome : (is_aborted : Bool) → Program → (place : ℕ) → (callers : List Call) → (before : State) → Effect → Outcome
outcome false P place r s E = settled P place r s E
outcome true P place r s E = undone P r s E

pub record Settled (is_aborted : Bool) (code values after : List ℕ) (base i : ℕ) (r : ℤ) (t : Turn) : Type 0 where
  pub long : length after ≡ length values
  pub kept : KeepsRun (cells_of values) (cells_of after)
  pub is : (h : Here code values base i) (place steps : ℕ) (out : List ℕ) (E : Effect) → place_at (cells_of code) i ≡ h.offset place
      → Breaks h.P h.R (cells_of code) h.offset h.d i steps (cells_of values) out E r
      → Turns is_aborted h.P h.R h.offset h.d i steps (cells_of after) out
      (outcome is_aborted h.P place (waiting h.P h.R (cells_of values) h.d) (state_in h.P h.R (cells_of values) h.d i steps out) E) t

-- endings 6 to 8, by their answers
abbrev pub is_lack : ℤ → Bool
is_lack r = if lt_z r (pos lacked) then false else lt_z r (pos handed)

-- An answer that ends a run.
pub data Stops (code : List ℕ) (answer : ℕ) : Type 0 where
  by_step : (e : Ending) → ends_step e ≡ true → answer ≡ ended + ending_number e → length code ≡ store_bytes → Stops code answer
  by_lack : (n w : ℕ) → beyond_depth ≤ n → n ≤ no_room → w < answers → answer ≡ lacked_by n + w → length code ≡ store_bytes → Stops code answer

-- its ending, by the answer
abbrev pub made_by : (answer : ℕ) → Ending
made_by a = if eqb a (ended + main_returned) then MainReturned else if eqb a (ended + exited) then Exited else FellOff

abbrev pub lack_by : (answer : ℕ) → Ending
lack_by a = if ltb a input_lacked then BeyondDepth else if ltb a room_lacked then NoInput else NoRoom

-- The ending of the paper's number n is told, from 6 to 8, of a step that lacks something.
pub record Stopped (code : List ℕ) (i answer : ℕ) (t : Halt) : Type 0 where
  pub by-step : (e : Ending) → ends_step e ≡ true → answer ≡ ended + ending_number e → t ≡ halt e (if eqb (ending_number e) main_returned then 0 else place_at (cells_of code) i) true
  pub by-lack : (n w : ℕ) → beyond_depth ≤ n → n ≤ no_room → w < answers → answer ≡ lacked_by n + w
      → (e : Ending) × (ending_number e ≡ n) × (t ≡ halt e (place_at (cells_of code) w) false)
