-- The passes of the check, one after another, on stores that are no longer than their cells. A pass that refuses leaves clearing to the function above them.
use Rattle.std.specs.Prelude.{◌≡◌, List, ℕ, ◌<◌, length, get_or}
use Rattle.paper.specs.Words.{Refusal}
use Rattle.paper.specs.Names.{sort_in}
use Rattle.paper.specs.Form.{formed}
use Rattle.paper.specs.Answer.{Verdict, refused_by, accepted, judge_form}
use Rattle.store_cells.specs.Cells.{cells_of}
use Rattle.check_load.specs.Layout.{words_in}
use Rattle.check_whole.specs.Checks.{Checked, store_bytes, Ready, Refuses}

-- what is lent to the passes
pub record Whole (code values : List ℕ) : Type 0 where
  pub code-room : length code ≡ store_bytes
  pub values-room : length values ≡ store_bytes

-- and the value store's cells are 0
pub record Clean (code values : List ℕ) : Type 0 where
  pub whole : Whole code values
  pub zeros : (k : ℕ) → k < 16384 → get_or (cells_of values) k 0 ≡ 0

-- a refusal before clearing
pub record Turned (code values : List ℕ) (f : Refusal) (r : Checked) (code' values' : List ℕ) : Type 0 where
  pub answer : Refuses f r
  pub code-long : length code' ≡ length code
  pub values-long : length values' ≡ length values

-- the verdict as a pass leaves it
unfoldable pub Settles : (text code values : List ℕ) → Verdict → (r : Checked) → (code' values' : List ℕ) → Type 0
Settles text code values (refused_by f) r code' values' = Turned code values f r code' values'
Settles text code values (accepted a) r code' values' = Ready text code values a r code' values'

-- what the words of a text come to, once all of them are read
abbrev pub Formal : (text code values : List ℕ) → (r : Checked) → (code' values' : List ℕ) → Type 0
Formal text code values r code' values' = Settles text code values (judge_form text (words_in text) (formed (sort_in (words_in text)))) r code' values'
