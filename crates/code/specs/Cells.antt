-- The cells of both stores, by what they are for. Nobody has to believe any of this: the checker's promise and the runner's carry it to the paper.
use Rattle.std.specs.Prelude.{List, ℕ, ◌+◌, ◌*◌, ◌/◌, ◌%◌, get_or}

-- ---- the code store: two cells for each word of the text
-- The head has an op in its low byte and a value of 24 bits above it. Reading writes the word's sort as its op; the check writes what a run has to know.
-- The tail has the word's place in its low half and a link, the index of another word, in its high half.
abbrev pub op_in : (head : ℕ) → ℕ
op_in w = w % 256

abbrev pub value_in : (head : ℕ) → ℕ
value_in w = w / 256

abbrev pub place_in : (tail : ℕ) → ℕ
place_in w = w % 65536

abbrev pub link_in : (tail : ℕ) → ℕ
link_in w = w / 65536

module _ (C : List ℕ) where
  abbrev pub head_at : ℕ → ℕ
  head_at i = get_or C (i * 2) 0

  abbrev pub tail_at : ℕ → ℕ
  tail_at i = get_or C (i * 2 + 1) 0

  abbrev pub op_at : ℕ → ℕ
  op_at i = op_in (head_at i)

  abbrev pub value_at : ℕ → ℕ
  value_at i = value_in (head_at i)

  abbrev pub place_at : ℕ → ℕ
  place_at i = place_in (tail_at i)

  abbrev pub link_at : ℕ → ℕ
  link_at i = link_in (tail_at i)

-- ---- the value store: the module's words, and then a window of 240 cells for each live call
abbrev pub window_cells : ℕ
window_cells = 240

abbrev pub first_window : ℕ
first_window = 1024

-- the window of the call with that many callers
abbrev pub window_of : (callers : ℕ) → ℕ
window_of d = first_window + window_cells * d

-- ERRNO stands in the last cell of main's window, so that it is read as a word of the module is.
abbrev pub errno_cell : ℕ
errno_cell = 1263
