-- What a run asks of what it is lent, and what it promises.
use Rattle.std.specs.Prelude.{◌≡◌, List, [], map, ℕ, ◌<◌, ◌≤◌, ltb, length, get_or, take, if◌then◌else◌}
use Rattle.std.proofs.Math.Option.{Option, none, some}
use Rattle.std.specs.Int.{w32}
use Rattle.std.proofs.Common.{to_z}
use Rattle.paper.specs.Steps.{Program}
use Rattle.paper.specs.States.{State, Rooms, with_calls}
use Rattle.paper.specs.Running.{started}
use Rattle.paper.specs.Running as running
use Rattle.paper.specs.Undoing.{run_abort}
use Rattle.paper.specs.Undoing as undoing
use Rattle.store_cells.specs.Cells.{cells_of}
use Rattle.code.specs.Cells.{place_at}
use Rattle.code.specs.Steps.{Head, no_head}
use Rattle.code.specs.Holds.{Holds}
use Rattle.code.specs.Windows.{written_in, state_in}
use Rattle.run_whole.specs.declared.Abort.{Abort}
use Rattle.run_whole.specs.declared.Abort.TheVariants.{Never, At}
use Rattle.run_whole.specs.declared.Ended.{Ended}
use Rattle.run_machine.specs.Live.{Live}
use Rattle.layout.specs.Rules.{aborted}
use Rattle.layout.specs.Endings.{ending_number}
use Rattle.run_machine.specs.Machine.{store_bytes, depth_limit, Lends}
use Rattle.run_advancing.specs.Turns.{told, Leaves}

-- The code store holds a program, of which main begins at word h; the value store has the module's words as a run begins, and zeros.
pub record Begins (text code values : List ℕ) (h depth : ℕ) : Type 0 where
  pub P : Program
  pub R : List Head
  pub offset : ℕ → ℕ
  pub main : ℕ
  pub holds : Holds text R offset (cells_of code) P
  pub code-size : length code ≡ store_bytes
  pub values-size : length values ≡ store_bytes
  pub some : 0 < depth
  pub most : depth ≤ depth_limit
  pub there : main < length R
  pub main-is : (get_or R main no_head).word ≡ h
  pub alone : (get_or R main no_head).parameters ≡ 0
  pub words : map (to_z w32) (take (length P.words) (cells_of values)) ≡ P.words
  pub zeros : (c : ℕ) → length P.words ≤ c → get_or (cells_of values) c 0 ≡ 0

-- what a run is asked for, as the paper has it
unfoldable pub abort_of : Abort → Option undoing.Abort
abort_of Never = none
abort_of (At at undo) = some (record { at = at; undo = undo })

-- how many steps come before the abort
unfoldable pub allowed_by : (steps : ℕ) → Abort → ℕ
allowed_by steps Never = steps
allowed_by steps (At at undo) = if ltb steps at then steps else at

-- The state that a run ends in is what the value store X holds: some call is the newest still and stands at a step of its routine; or it is aborted, and none is left.
module _ (P : Program) (R : List Head) (X out : List ℕ) where
  pub data EndsIn (ending : ℕ) (S : State) : Type 0 where
    standing : (d i : ℕ) → d < depth_limit → Live P R X d i → S ≡ state_in P R X d i S.steps out → EndsIn ending S
    callless : ending ≡ aborted → S ≡ with_calls [] (state_in P R X 0 0 S.steps out) → EndsIn ending S

-- The answer is the paper's, and so is the state that the lent words hold.
pub record Comes (P : Program) (R : List Head) (offset : ℕ → ℕ) (after out : List ℕ) (e : running.Ended) (r : Ended) : Type 0 where
  pub ending : ending_number r.ending ≡ e.ending
  pub place : r.place ≡ told offset e.ending e.place
  pub made : r.made ≡ e.state.steps
  pub state : EndsIn P R (cells_of after) out e.ending e.state

pub record Ran (text code values after inputs out out' : List ℕ) (h steps depth : ℕ) (abort : Abort) (r : Ended) : Type 0 where
  pub leaves : Leaves values after out out'
  pub is : (b : Begins text code values h depth) (rooms : Rooms) → rooms.depth ≡ depth → Lends rooms inputs out →
      Comes b.P b.R b.offset after out' (run_abort b.P rooms steps (abort_of abort) (started b.P b.main)) r

-- ---- a run begins
pub record MayBegin (code values : List ℕ) (h : ℕ) : Type 0 where
  pub text : List ℕ
  pub depth : ℕ
  pub begins : Begins text code values h depth

-- The state is that of a run that has begun.
pub record Begun (code values after : List ℕ) (h : ℕ) : Type 0 where
  pub long : length after ≡ length values
  pub written : (P : Program) (R : List Head) → (text : List ℕ) (depth : ℕ) → Begins text code values h depth → written_in P R (cells_of after) ≡ 0
  pub live : (text : List ℕ) (depth : ℕ) (b : Begins text code values h depth) → Live b.P b.R (cells_of after) 0 (place_at (cells_of code) h)
  pub state : (text : List ℕ) (depth : ℕ) (b : Begins text code values h depth) (out : List ℕ) → state_in b.P b.R (cells_of after) 0 (place_at (cells_of code) h) 0 out ≡ started b.P b.main
