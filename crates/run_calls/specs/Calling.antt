-- Calls: what their parts ask and promise.
use Rattle.std.specs.Prelude.{◌≡◌, Bool, true, false, List, ◌∷◌, ℕ, suc, ◌+◌, ◌*◌, ◌<◌, ◌≤◌, eqb, length, get_or, ℤ, pos, if◌then◌else◌}
use Rattle.std.proofs.Math.Option.{Option, some}
use Rattle.paper.specs.Terms.{Term}
use Rattle.paper.specs.States.{Location, State, Rooms, Effect, failing, with_calls, with_values}
use Rattle.paper.specs.States as states
use Rattle.paper.specs.Running.{code_at, step_named, new_call, calling}
use Rattle.store_cells.specs.Cells.{cells_of}
use Rattle.code.specs.Cells.{op_at, link_at, place_at, value_at, first_window, window_of, window_cells}
use Rattle.code.specs.Steps.{Head, no_head, numbered, a_call_target, a_procedure_call, any_arguments}
use Rattle.code.specs.Windows.{result_in, call_in, state_in}
use Rattle.store_evaluation.specs.Answers.{first_error, call_slots, Counts, memory_of, Stores}
use Rattle.run_machine.specs.Live.{slots_of_call, code_of_call, ResultFits, Live}
use Rattle.store_reading.specs.Reading.{Stored}
use Rattle.run_machine.specs.Machine.{Here, effect_at, entered, depth_limit, LastWindow, KeepsRun}
use Rattle.run_targets.specs.Targets.{Aims}
use Rattle.layout.specs.Answers.{answers}
use Rattle.layout.specs.Named.{store_bytes}
use Rattle.paper.specs.Answer.{store_words}
use Rattle.run_starting.specs.Starting.{Holding}

-- ---- arguments
-- The arguments from `first` on, the first of which ends at `end`. Where there is room, they go to the next window.
pub record Passes (code values : List ℕ) (base first end : ℕ) (room : Bool) : Type 0 where
  pub c : Counts
  pub function : Bool
  pub text : List ℕ
  pub R : List Head
  pub es : List Term
  pub closes : ℕ
  pub reads : any_arguments c.m c.n function text R (cells_of code) first end ≡ some (es, closes)
  pub few : length es ≤ call_slots
  pub stores : Stores values base
  pub cells : room ≡ true → (base + window_cells + call_slots) * 4 ≤ length values
  pub low : first_window ≤ base
  pub high : base < store_words
  pub code-size : length code ≡ store_bytes
  pub small : end < answers

-- What the answer r says of them: the word that closes them and, above it, the cell behind those that they go to; or the error of one.
pub data Argued (c : Counts) (values after : List ℕ) (base : ℕ) (room : Bool) (es : List Term) (closes : ℕ) (r : ℤ) : Type 0 where
  given : (zs : List ℤ) → length zs ≡ length es → ((S : State) (go : List ℤ → Effect) → with_values (memory_of c values base) es S go ≡ go zs)
      → (room ≡ true → Holding (cells_of after) (base + window_cells) zs) → closes < answers → r ≡ pos (closes + answers * (base + window_cells + length es)) → Argued c values after base room es closes r
  raises : (e : ℕ) → e < answers → ((S : State) (go : List ℤ → Effect) → with_values (memory_of c values base) es S go ≡ failing e S) → r ≡ pos (first_error + e) → Argued c values after base room es closes r

-- One of them, with its value: it goes to a cell where there is room.
pub record Let (before after : List ℕ) (room : Bool) (n : ℕ) (v : ℤ) : Type 0 where
  pub long : length after ≡ length before
  pub stored : room ≡ true → Stored before after n v
  pub same : room ≡ false → after ≡ before

pub record Passed (code values after : List ℕ) (base first end : ℕ) (room : Bool) (r : ℤ) : Type 0 where
  pub long : length after ≡ length values
  pub below : (c : ℕ) → c < base + window_cells → get_or (cells_of after) c 0 ≡ get_or (cells_of values) c 0
  pub idle : room ≡ false → cells_of after ≡ cells_of values
  pub is : (c : Counts) (function : Bool) (text : List ℕ) (R : List Head) (es : List Term) (closes : ℕ) → any_arguments c.m c.n function text R (cells_of code) first end ≡ some (es, closes)
      → Argued c values after base room es closes r

-- The depth lent admits calls up to this window.
pub record Deepest (last : ℕ) : Type 0 where
  pub rooms : Rooms
  pub is : LastWindow rooms last

-- The word whose link is where the caller goes on: the call's own where a result is wanted, else the one that closes the arguments.
unfoldable pub goes_on_at : (i closes result : ℕ) → ℕ
goes_on_at i closes result = if eqb result 0 then closes else i

-- ---- a new call
module _ (code values : List ℕ) (base i : ℕ) where
  -- The routine that the word `callee` names is called with these arguments, which stand in the next window: n is the cell behind them.
  pub record Enters (h : Here code values base i) (callee result after n : ℕ) : Type 0 where
    pub deep : suc h.d < depth_limit
    pub inside : callee * 8 + 8 ≤ length code
    pub k : ℕ
    pub number : k ≡ numbered h.R (value_at (cells_of code) callee)
    pub there : k < length h.R
    pub word : (get_or h.R k no_head).word ≡ value_at (cells_of code) callee
    pub zs : List ℤ
    pub as_many : length zs ≡ (get_or h.R k no_head).parameters
    pub holds : Holding (cells_of values) (base + window_cells) zs
    pub next : n ≡ base + window_cells + length zs
    pub result_fits : ResultFits h.P h.R (cells_of values) (suc h.d) result
    pub after_is : after ≡ (step_named (code_of_call h.P h.R (cells_of values) h.d).steps i).after

  pub record MayEnter (callee result after n : ℕ) : Type 0 where
    pub here : Here code values base i
    pub enters : Enters here callee result after n

  -- It is the newest call then, and its caller waits.
  pub record Entered (callee result after n : ℕ) (after' : List ℕ) (r : ℤ) : Type 0 where
    pub long : length after' ≡ length values
    pub kept : KeepsRun (cells_of values) (cells_of after')
    pub answer : (h : Here code values base i) (e : Enters h callee result after n) → r ≡ pos (entered + (code_at h.P e.k).start)
    pub live : (h : Here code values base i) (e : Enters h callee result after n) → Live h.P h.R (cells_of after') (suc h.d) (code_at h.P e.k).start
    pub state : (h : Here code values base i) (e : Enters h callee result after n) (steps : ℕ) (out : List ℕ) →
        state_in h.P h.R (cells_of after') (suc h.d) (code_at h.P e.k).start steps out
        ≡ with_calls (new_call h.P e.k e.zs (result_in h.P h.R (cells_of values) result) ∷ (state_in h.P h.R (cells_of values) h.d i steps out).calls)
        (state_in h.P h.R (cells_of values) h.d i steps out)

  -- ---- a call
  -- As the table says it: the word `callee` names the routine, and `first` and `end` bound its first argument.
  pub record Calling (h : Here code values base i) (first end callee result : ℕ) : Type 0 where
    pub es : List Term
    pub closes : ℕ
    pub arguments : let c = code_of_call h.P h.R (cells_of values) h.d in
        any_arguments (length h.P.words) (slots_of_call c) c.function h.text h.R (cells_of code) first end ≡ some (es, closes)
    pub inside : callee * 8 + 8 ≤ length code
    pub k : ℕ
    pub number : k ≡ numbered h.R (value_at (cells_of code) callee)
    pub there : k < length h.R
    pub word : (get_or h.R k no_head).word ≡ value_at (cells_of code) callee
    pub as_many : length es ≡ (get_or h.R k no_head).parameters
    pub place : place_at (cells_of code) callee ≡ h.offset callee
    pub result_fits : ResultFits h.P h.R (cells_of values) (suc h.d) result
    pub location : Option Location
    pub location-is : (Z : List ℕ) → result_in h.P h.R Z result ≡ location
    pub effect : (rooms : Rooms) (steps : ℕ) (out : List ℕ) →
        let S = state_in h.P h.R (cells_of values) h.d i steps out in
        effect_at h.P h.R rooms (cells_of values) h.d i steps out
        ≡ calling h.P rooms (states.memory_of S (call_in h.P h.R (cells_of values) (window_of h.d) i)) callee k es location S
    pub after_is : (step_named (code_of_call h.P h.R (cells_of values) h.d).steps i).after ≡ link_at (cells_of code) (goes_on_at i closes result)

  pub record MayCall (last callee first result : ℕ) : Type 0 where
    pub here : Here code values base i
    pub deepest : Deepest last
    pub calls : (h : Here code values base i) → Calling h first (link_at (cells_of code) callee) callee result

  -- Its result goes to a cell that is known.
  pub record CallsFor (last next cell : ℕ) : Type 0 where
    pub here : Here code values base i
    pub deepest : Deepest last
    pub low : a_call_target ≤ op_at (cells_of code) i
    pub high : op_at (cells_of code) i < a_procedure_call
    pub aims : (h : Here code values base i) → Aims code values base i h a_call_target cell next
