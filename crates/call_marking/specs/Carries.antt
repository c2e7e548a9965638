-- The parts of a marking call: what a run beside a listing leaves in the stores, and what stands in the answer.
use Rattle.std.specs.Prelude.{◌≡◌, List, ◌++◌, ℕ, take, drop}
use Rattle.paper.specs.Undoing.{plainly}
use Rattle.paper.specs.Answer.{Question, verdict, carried_out}
use Rattle.layout.specs.Named.{store_bytes}
use Rattle.run_marking.specs.declared.Marked.{Marked}
use Rattle.run_marking.specs.Beside.{RanBeside}
use Rattle.call_records.specs.Leaves.{Tells}
use Rattle.call_judging.specs.Carries.{put}
use Rattle.marks.specs.Marks.{judged, beside, entries_of, mark_size, mark_bytes, answer_after}

-- The run has ended: its bytes stand where the store's words were, and past them is what was there.
pub record EndsBeside (text code values values' inputs out out' listing : List ℕ) (main steps depth : ℕ) (r : Marked) : Type 0 where
  pub after : List ℕ
  pub ran : RanBeside text (take store_bytes code) (take store_bytes values) after inputs out out' listing main steps depth r
  pub whole : values' ≡ after ++ drop store_bytes values

pub record Answers (same index : ℕ) (answer answer' : List ℕ) : Type 0 where
  pub bytes : answer' ≡ mark_bytes (record { same = same; index = index }) ++ drop mark_size answer

-- The question, without K; a run knows nothing of the stores' lengths.
abbrev pub asks : (text : List ℕ) → (steps depth : ℕ) → (inputs out : List ℕ) → Question
asks text steps depth inputs out = put plainly text steps depth inputs out

-- What is left where a text is judged.
pub record TellsMark (text : List ℕ) (steps depth : ℕ) (inputs listing out code values fields answer out' code' values' fields' answer' : List ℕ) : Type 0 where
  pub tells : Tells (carried_out (asks text steps depth inputs out) (verdict text)) out code values fields out' code' values' fields'
  pub answers : answer' ≡ answer_after (beside (judged (asks text steps depth inputs out) (verdict text)) (entries_of listing)) answer
