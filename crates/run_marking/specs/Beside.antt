-- What a run beside a listing promises: how it ends is the run's own promise, and what is told of the listing is the mark of request 14.
use Rattle.std.specs.Prelude.{◌≡◌, List, [], ◌∷◌, ◌++◌, map, ℕ, Bool, length, if◌then◌else◌}
use Rattle.paper.specs.Steps.{Program}
use Rattle.paper.specs.States.{State, Rooms}
use Rattle.paper.specs.Running.{run, started}
use Rattle.store_cells.specs.Cells.{cells_of}
use Rattle.code.specs.Steps.{Head}
use Rattle.code.specs.Windows.{state_in}
use Rattle.run_machine.specs.Machine.{Here, LastWindow, Lends}
use Rattle.layout.specs.declared.endings.Ending.{Ending}
use Rattle.run_errors.specs.declared.Machine.{Machine}
use Rattle.run_advancing.specs.Turns.{Leaves}
use Rattle.run_whole.specs.declared.Abort.TheVariants.{Never}
use Rattle.run_whole.specs.declared.Ended.{Ended}
use Rattle.run_whole.specs.Runs.{Begins, Comes, Ran}
use Rattle.marks.specs.Marks.{listed, shared, Marking, marking}
use Rattle.run_marking.specs.declared.Marked.{Marked}

abbrev pub ended_of : Marked → Ended
ended_of r = record { ending = r.ending; place = r.place; made = r.made }

abbrev pub marking_of : Marked → Marking
marking_of r = record { same = if r.same then 1 else 0; index = r.index }

-- the largest allowance
abbrev pub most_steps : ℕ
most_steps = 4294967295

-- ---- our own entries so far, beside those of the listing
pub record Meets (listing : List ℕ) (common made at r : ℕ) : Type 0 where
  pub is : (o : List ℕ) → length o ≡ made → shared o (cells_of listing) ≡ common → shared (o ++ (at ∷ [])) (cells_of listing) ≡ r

pub record Agrees (listing : List ℕ) (common made : ℕ) (r : Bool) : Type 0 where
  pub is : (o : List ℕ) → length o ≡ made → shared o (cells_of listing) ≡ common → marking o (cells_of listing) ≡ record { same = if r then 1 else 0; index = common }

pub record Settles (listing : List ℕ) (ending : Ending) (place made common : ℕ) (r : Marked) : Type 0 where
  pub ended : ended_of r ≡ record { ending = ending; place = place; made = made }
  pub told : (o : List ℕ) → length o ≡ made → shared o (cells_of listing) ≡ common → marking o (cells_of listing) ≡ marking_of r

-- ---- the run
-- It comes to what the paper says of so many steps from s on, and the listing is told what it is told beside the places of those that counted.
pub record ComesBeside (P : Program) (R : List Head) (offset : ℕ → ℕ) (rooms : Rooms) (steps : ℕ) (s : State) (after out listing : List ℕ) (r : Marked) : Type 0 where
  pub comes : Comes P R offset after out (run P rooms steps s) (ended_of r)
  pub told : marking (map offset (listed P rooms steps s)) (cells_of listing) ≡ marking_of r

pub record Follows (text code values after inputs out out' listing : List ℕ) (last : ℕ) (from : Machine) (steps : ℕ) (r : Marked) : Type 0 where
  pub leaves : Leaves values after out out'
  pub is : (h : Here code values from.base from.next) → h.text ≡ text → (rooms : Rooms) → LastWindow rooms last → Lends rooms inputs out
      → ComesBeside h.P h.R h.offset rooms steps (state_in h.P h.R (cells_of values) h.d from.next 0 out) after out' listing r

pub record RanBeside (text code values after inputs out out' listing : List ℕ) (h steps depth : ℕ) (r : Marked) : Type 0 where
  -- as if it had been run alone, without K
  pub ran : Ran text code values after inputs out out' h steps depth Never (ended_of r)
  pub told : (b : Begins text code values h depth) (rooms : Rooms) → rooms.depth ≡ depth → Lends rooms inputs out
      → marking (map b.offset (listed b.P rooms steps (started b.P b.main))) (cells_of listing) ≡ marking_of r
