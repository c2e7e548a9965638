-- The two parts of leaving a routine: its parameters and its data.
use Rattle.std.specs.Prelude.{◌≡◌, List, ◌++◌, map, ℕ, ◌+◌, ◌*◌, ◌<◌, ◌≤◌, length}
use Rattle.paper.specs.Words.{Word, word_limit}
use Rattle.paper.specs.Names.{Text, spelled}
use Rattle.store_cells.specs.Cells.{cells_of}
use Rattle.code.specs.Cells.{op_at}
use Rattle.code.specs.Steps.{a_datum}
use Rattle.check_names.specs.Meanings.{Means}
use Rattle.check_names.specs.Promises.{store_bytes}
use Rattle.check_sites.specs.Sites.{Site}
use Rattle.store_writing.specs.Chains.{Chain, Rise}
use Rattle.check_sites.specs.Walks.{outer_of, KeepsAll, name_of, name_words}
use Rattle.check_leaving.specs.Answers.{MeansBut, SameWords}

-- The words of the names of so many parameters keep what these meant; the table may say of them, and of some texts more, what it likes.
pub record ParametersKept (code values : List ℕ) (first count : ℕ) : Type 0 where
  pub W : List Word
  pub routine : ℕ → ℕ
  pub s : Site
  pub texts : List Text
  pub code-room : store_bytes ≤ length code
  pub table : store_bytes ≤ length values
  pub near : first + 3 * count < word_limit
  pub keeps : KeepsAll routine W s (cells_of code) (name_words first count)
  pub others : MeansBut (map (spelled W) (name_words first count) ++ texts) routine W (outer_of W s) (cells_of values)

pub record LeavesParameters (code values values' : List ℕ) (first count : ℕ) : Type 0 where
  pub others : (b : ParametersKept code values first count) → MeansBut b.texts b.routine b.W (outer_of b.W b.s) (cells_of values')
  pub same : SameWords values values'

-- the same of data that a word leads to, and no text more
pub record DataKept (code values : List ℕ) (head : ℕ) : Type 0 where
  pub W : List Word
  pub routine : ℕ → ℕ
  pub s : Site
  pub ds : List ℕ
  pub end : ℕ
  pub code-room : store_bytes ≤ length code
  pub table : store_bytes ≤ length values
  pub before : head < word_limit
  pub rises : Rise head word_limit ds
  pub chain : Chain (cells_of code) head ds end
  pub inside : end < word_limit
  pub stops : op_at (cells_of code) end ≡ a_datum → ⊥
  pub keeps : KeepsAll routine W s (cells_of code) (map name_of ds)
  pub others : MeansBut (map (spelled W) (map name_of ds)) routine W (outer_of W s) (cells_of values)

pub record LeavesData (code values values' : List ℕ) (head : ℕ) : Type 0 where
  pub means : (b : DataKept code values head) → Means b.routine b.W (outer_of b.W b.s) (cells_of values')
  pub same : SameWords values values'
