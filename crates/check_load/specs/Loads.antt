-- What loading promises: the answer, and every cell of both stores but for the links of the words, which serve the loading alone.
use Rattle.std.specs.Prelude.{◌≡◌, List, ℕ, ◌+◌, ◌<◌, ◌≤◌, length, get_or, Result, Ok, Err}
use Rattle.std.proofs.Math.Option.{Option, none, some}
use Rattle.store_cells.specs.Cells.{cells_of}
use Rattle.paper.specs.Words as paper
use Rattle.paper.specs.Words.{reading}
use Rattle.paper.specs.Names.{nth}
use Rattle.code.specs.Cells.{head_at, place_at}
use Rattle.check_names.specs.Meanings.{first_meaning}
use Rattle.check_names.specs.Promises.{store_bytes, number_limit}
use Rattle.text_words.specs.declared.Refusal.{Refusal}
use Rattle.text_words.specs.Answers.{told}
use Rattle.check_load.specs.Layout.{words_in, head_of, first_cell, Loading, Keeping}
use Rattle.paper.specs.Answer.{store_words}

-- both stores have their cells, and those of the value store are 0
pub record Ready (code values : List ℕ) : Type 0 where
  pub code-room : store_bytes ≤ length code
  pub values-room : store_bytes ≤ length values
  pub clean : (k : ℕ) → k < store_words → get_or (cells_of values) k 0 ≡ 0

-- how many words there are, or a refusal
abbrev pub Loaded : Type 0
Loaded = Result ℕ Refusal

-- the answer, as its refusal is told
abbrev pub answer_of : (words : ℕ) → Option paper.Refusal → Result ℕ paper.Refusal
answer_of words none = Ok words
answer_of words (some r) = Err r

-- every word that was read is loaded, and the chains of their names stand
pub record Filled (text code values : List ℕ) (r : Loaded) (code' values' : List ℕ) : Type 0 where
  pub answer : told r ≡ answer_of (length (words_in text)) (reading text).refusal
  pub loading : Loading text (length (words_in text)) code' values'
  pub keeping : Keeping (length (words_in text)) code values code' values'

pub record Loads (text code values : List ℕ) (r : Loaded) (code' values' : List ℕ) : Type 0 where
  pub answer : told r ≡ answer_of (length (words_in text)) (reading text).refusal
  -- the words that were read, also before a refusal
  pub heads : (i : ℕ) → i < length (words_in text) → head_at (cells_of code') i ≡ head_of (words_in text) i
  pub places : (i : ℕ) → i < length (words_in text) → place_at (cells_of code') i ≡ (nth (words_in text) i).place
  -- the table of meanings, and 0 before it
  pub zeros : (k : ℕ) → k < first_meaning → get_or (cells_of values') k 0 ≡ 0
  pub table : (i : ℕ) → i < number_limit → get_or (cells_of values') (first_meaning + i) 0 ≡ first_cell (words_in text) i
  -- behind the words, and behind the value store's cells, nothing is touched
  pub keeping : Keeping (length (words_in text)) code values code' values'
