-- How a run goes from step to step, by the rules of a run or, once it is aborted, by those of its UNDO lists.
use Rattle.std.specs.Prelude.{◌≡◌, Bool, true, false, List, [], ◌∷◌, ℕ, ◌+◌, ◌-◌, ◌<◌, ◌≤◌, length, if◌then◌else◌}
use Rattle.paper.specs.Steps.{Program}
use Rattle.paper.specs.States.{State, Rooms, with_calls}
use Rattle.paper.specs.Running.{run, started}
use Rattle.paper.specs.Running as running
use Rattle.paper.specs.Undoing.{dropping, undoing}
use Rattle.store_cells.specs.Cells.{cells_of}
use Rattle.code.specs.Cells.{window_of}
use Rattle.code.specs.Steps.{Head}
use Rattle.code.specs.Windows.{call_in, waiting, state_in}
use Rattle.layout.specs.Rules.{aborted}
use Rattle.layout.specs.declared.endings.Ending.{Ending}
use Rattle.layout.specs.declared.endings.Ending.TheVariants.{StepsSpent, UndoSpent, Aborted}
use Rattle.layout.specs.Endings.{ending_number}
use Rattle.run_machine.specs.Live.{Live}
use Rattle.run_machine.specs.Machine.{depth_limit, Here, LastWindow, Lends}
use Rattle.run_errors.specs.declared.Machine.{Machine}
use Rattle.run_advancing.specs.Turns.{told, written, Leaves}
use Rattle.run_whole.specs.declared.Walked.{Walked}
use Rattle.run_whole.specs.declared.Ended.{Ended}
use Rattle.run_whole.specs.Runs.{Begins, Comes}

-- ---- the two sets of rules
unfoldable pub goes : (is_aborted : Bool) → Program → Rooms → (steps : ℕ) → State → running.Ended
goes false P R n s = run P R n s
goes true P R n s = undoing P R n s

-- what spent steps give
unfoldable pub spent_by : (is_aborted : Bool) → Ending
spent_by false = StepsSpent
spent_by true = UndoSpent

abbrev pub left_with : (counts : Bool) → (left : ℕ) → ℕ
left_with counts n = if counts then n - 1 else n

-- ---- a walk
-- Where a walk has ended that had so many steps, after so many others: the value store is X then, and `all` is what the paper says of the steps.
module _ (is_aborted : Bool) (P : Program) (R : List Head) (offset : ℕ → ℕ) (all : running.Ended) (X out : List ℕ) (before steps : ℕ) (w : Walked) where
  pub data Halts : Type 0 where
    -- at a step of the call with d callers
    stands : (d i : ℕ) → d < depth_limit → w.base ≡ window_of d → Live P R X d i → ending_number w.ending ≡ all.ending → w.place ≡ told offset all.ending all.place
        → all.state ≡ state_in P R X d i (before + (steps - w.left)) out → Halts
    -- it is aborted, and no call is left
    falls : is_aborted ≡ true → w.ending ≡ Aborted → w.place ≡ 0 → all.ending ≡ aborted → all.state ≡ with_calls [] (state_in P R X 0 0 (before + (steps - w.left)) out) → Halts

pub record Walks (text code values after inputs out out' : List ℕ) (last : ℕ) (from : Machine) (steps : ℕ) (is_aborted : Bool) (w : Walked) : Type 0 where
  pub leaves : Leaves values after out out'
  pub fewer : w.left ≤ steps
  pub is : (h : Here code values from.base from.next) → h.text ≡ text → (rooms : Rooms) → LastWindow rooms last → Lends rooms inputs out → (before : ℕ)
      → Halts is_aborted h.P h.R h.offset (goes is_aborted h.P rooms steps (state_in h.P h.R (cells_of values) h.d from.next before out)) (cells_of after) out' before steps w

-- from main's first step on
pub record SetsOut (text code values after inputs out out' : List ℕ) (h steps depth : ℕ) (w : Walked) : Type 0 where
  pub leaves : Leaves values after out out'
  pub fewer : w.left ≤ steps
  pub is : (b : Begins text code values h depth) (rooms : Rooms) → rooms.depth ≡ depth → Lends rooms inputs out
      → Halts false b.P b.R b.offset (run b.P rooms steps (started b.P b.main)) (cells_of after) out' 0 steps w

-- ---- a run that is aborted
-- It stands at a step of the call with its window at `base`.
pub record Strikes (text code values out : List ℕ) (base last : ℕ) : Type 0 where
  pub i : ℕ
  pub here : Here code values base i
  pub text-is : here.text ≡ text
  pub rooms : Rooms
  pub deepest : LastWindow rooms last
  pub room : written values ≤ length out

pub record Undoes (text code values after inputs out out' : List ℕ) (base last made undo : ℕ) (r : Ended) : Type 0 where
  pub leaves : Leaves values after out out'
  pub is : (i : ℕ) (h : Here code values base i) → h.text ≡ text → (rooms : Rooms) → LastWindow rooms last → Lends rooms inputs out
      → Comes h.P h.R h.offset after out'
      (undoing h.P rooms undo (with_calls (dropping h.P (call_in h.P h.R (cells_of values) (window_of h.d) i ∷ waiting h.P h.R (cells_of values) h.d)) (state_in h.P h.R (cells_of values) h.d i made out))) r
