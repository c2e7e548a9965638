-- What the value store says of a run: the state of the paper's machine, read from its cells. Each live call has a window of cells of its own.
use Rattle.std.specs.Prelude.{◌≡◌, List, [], ◌∷◌, ◌++◌, map, ℕ, zero, suc, ◌+◌, ◌-◌, ◌*◌, ◌/◌, ◌%◌, ltb, length, get_or, take, drop, replicate, ℤ, if◌then◌else◌}
use Rattle.std.proofs.Math.Option.{Option, none, some}
use Rattle.std.specs.Int.{w32}
use Rattle.std.proofs.Common.{to_z}
use Rattle.paper.specs.Steps.{Program}
use Rattle.paper.specs.States.{Loop, Location, module_slot, call_slot, Call, State}
use Rattle.paper.specs.Running.{code_at, step_of, idle}
use Rattle.code.specs.Cells.{window_cells, first_window, window_of, errno_cell}
use Rattle.code.specs.Steps.{Head, numbered}
use Rattle.code.specs.Holds.{optionally}

-- ---- a window
-- From its first cell on: the call's words; where a FOR's loop ends, at its variable's word; its step; and then these.
abbrev pub ends_cell : ℕ
ends_cell = 64

abbrev pub steps_cell : ℕ
steps_cell = 128

-- the word that its routine begins with
abbrev pub routine_cell : ℕ
routine_cell = 192

-- the call statement that it waits for, and the step after that one
abbrev pub waits_cell : ℕ
waits_cell = 193

abbrev pub after_cell : ℕ
after_cell = 194

-- the failed step, 0 while it is not in its ERROR list
abbrev pub failed_cell : ℕ
failed_cell = 195

-- 1 more than the cell that its result goes to, 0 if it is not called for one
abbrev pub result_cell : ℕ
result_cell = 196

-- ---- cells of the run, in main's window
-- bytes of output written, and inputs used: each count in two cells, the low half first
abbrev pub written_cell : ℕ
written_cell = 1259

abbrev pub used_cell : ℕ
used_cell = 1261

abbrev pub count_at : (X : List ℕ) → (cell : ℕ) → ℕ
count_at X c = get_or X c 0 + 4294967296 * get_or X (suc c) 0

module _ (P : Program) (R : List Head) (X : List ℕ) where
  abbrev pub number_at : ℕ → ℤ
  number_at c = to_z w32 (get_or X c 0)

  -- A cell as a location: of the module's words, or in the window of a call.
  unfoldable pub location_in : (cell : ℕ) → Location
  location_in c =
      if ltb c first_window then module_slot c
      else call_slot ((c - first_window) / window_cells + 1) ((c - first_window) % window_cells)

  unfoldable pub result_in : (cell : ℕ) → Option Location
  result_in zero = none
  result_in (suc c) = some (location_in c)

  -- The loops of the FOR variables from word k on; words before them are no loop's.
  unfoldable pub loops_from : (base fors k : ℕ) → List Loop
  loops_from base zero k = []
  loops_from base (suc f) k =
      record { end = number_at (base + ends_cell + k); step = number_at (base + steps_cell + k) } ∷ loops_from base f (suc k)

  -- The call with its window at `base`, whose next step is given.
  unfoldable pub call_in : (base next : ℕ) → Call
  call_in base next =
      let k = numbered R (get_or X (base + routine_cell) 0) in
      let c = code_at P k in
      record {
        routine = k;
        next = next;
        words = map (to_z w32) (take (length c.words + c.fors) (drop base X));
        loops = replicate (length c.words) idle ++ loops_from base c.fors (length c.words);
        failed = optionally (get_or X (base + failed_cell) 0);
        result = result_in (get_or X (base + result_cell) 0);
      }

  -- The oldest d calls, the newest of them first: each waits for the call after it.
  unfoldable pub waiting : (d : ℕ) → List Call
  waiting zero = []
  waiting (suc d) = call_in (window_of d) (get_or X (window_of d + waits_cell) 0) ∷ waiting d

  -- bytes written
  unfoldable pub written_in : ℕ
  written_in = count_at X written_cell

  -- The state of a run with d callers below the newest call, so many steps made, and `out` the lent output.
  unfoldable pub state_in : (d next steps : ℕ) → (out : List ℕ) → State
  state_in d next steps out =
      record {
        words = map (to_z w32) (take (length P.words) X);
        calls = call_in (window_of d) next ∷ waiting d;
        steps = steps;
        errno = get_or X errno_cell 0;
        output = take written_in out;
        used = count_at X used_cell;
      }

  -- A caller knows the step after the call that it waits for.
  unfoldable pub Ready : (d : ℕ) → Type 0
  Ready zero = Unit {0}
  Ready (suc d) =
      let c = call_in (window_of d) (get_or X (window_of d + waits_cell) 0) in
      (get_or X (window_of d + after_cell) 0 ≡ (step_of P c c.next).after) × Ready d
