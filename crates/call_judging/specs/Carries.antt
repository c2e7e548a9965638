-- The parts of a call that carries out a text: what is asked of a run, and what it leaves in the stores.
use Rattle.std.specs.Prelude.{◌≡◌, Ok, List, ◌++◌, ℕ, ◌<◌, ◌≤◌, length, take, drop}
use Rattle.paper.specs.Undoing.{Asked}
use Rattle.paper.specs.Answer.{Accepted, accepted, verdict, depth_limit, Question, cells_of}
use Rattle.layout.specs.Named.{store_bytes}
use Rattle.check_whole.specs.Checks.{Ready}
use Rattle.run_whole.specs.declared.Abort.{Abort}
use Rattle.run_whole.specs.declared.Ended.{Ended}
use Rattle.run_whole.specs.Runs.{Begins, abort_of, Ran}
use Rattle.call_records.specs.Leaves.{Rooms}

-- What is asked of a run besides its rooms.
abbrev pub asked_by : Abort → Asked
asked_by a = record { abort = abort_of a }

-- The question that a call puts but for its stores, of which a run knows nothing.
unfoldable pub put : Asked → (text : List ℕ) → (steps depth : ℕ) → (inputs out : List ℕ) → Question
put asked text steps depth inputs out = record { text = text; steps = steps; depth = depth; inputs = cells_of inputs; room = length out; code = 0; values = 0; asked = asked }

-- The stores hold the module that the text is, as the check leaves them: it has so many words of data, and main begins at a word of the text, of which there are n.
pub record Accepts (text code values fields : List ℕ) (words main depth : ℕ) : Type 0 where
  pub a : Accepted
  pub n : ℕ
  pub judged : verdict text ≡ accepted a
  pub ready : Ready text code values a (Ok (record { words = n; count = words; main = main })) code values
  pub rooms : Rooms code values fields
  pub some : 0 < depth
  pub most : depth ≤ depth_limit

-- ---- the parts of a run
-- A run may begin in the words of the stores.
pub record Starts (text code values : List ℕ) (main depth : ℕ) : Type 0 where
  pub code-room : store_bytes ≤ length code
  pub values-room : store_bytes ≤ length values
  pub begins : Begins text (take store_bytes code) (take store_bytes values) main depth

-- It has ended: its bytes stand where the store's words were, and past them is what was there.
pub record Ends (text code values values' inputs out out' : List ℕ) (main steps depth : ℕ) (abort : Abort) (e : Ended) : Type 0 where
  pub after : List ℕ
  pub ran : Ran text (take store_bytes code) (take store_bytes values) after inputs out out' main steps depth abort e
  pub whole : values' ≡ after ++ drop store_bytes values
