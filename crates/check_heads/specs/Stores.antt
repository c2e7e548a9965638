-- What of both stores stays as it was.
use Rattle.std.specs.Prelude.{◌≡◌, Bool, false, ◌||◌, List, map, ℕ, ◌+◌, ◌*◌, ◌/◌, ◌<◌, ◌≤◌, length, take, drop}
use Rattle.paper.specs.Sorts.{folded}
use Rattle.paper.specs.Words.{Word, word_limit}
use Rattle.paper.specs.Expressions.{is_type, starts_routine}
use Rattle.paper.specs.Names.{Text, sort_in, spelled}
use Rattle.store_cells.specs.Cells.{cells_of, Put}
use Rattle.code.specs.Cells.{head_at, tail_at, op_at, value_at, place_at}
use Rattle.check_names.specs.Numbers.{number_of, IsName}
use Rattle.check_names.specs.Promises.{store_bytes, number_limit, number_at}

-- Nothing but the cells from `from` up to `to` has changed.
pub record Kept (before after : List ℕ) (from to : ℕ) : Type 0 where
  pub below : take (from * 4) after ≡ take (from * 4) before
  pub above : drop (to * 4) after ≡ drop (to * 4) before
  pub long : length after ≡ length before

-- ---- the code store
-- words that have a value for a signature: types, and those that routines begin with
unfoldable pub is_valued : (sort : ℕ) → Bool
is_valued s = is_type s || starts_routine s

-- Nothing but the values of such words from `from` up to `to` has changed.
pub record Marked (before after : List ℕ) (from to : ℕ) : Type 0 where
  pub kept : Kept before after (from * 2) (to * 2)
  pub ops : (i : ℕ) → op_at (cells_of after) i ≡ op_at (cells_of before) i
  pub heads : (i : ℕ) → is_valued (op_at (cells_of before) i) ≡ false → head_at (cells_of after) i ≡ head_at (cells_of before) i
  pub tails : (i : ℕ) → tail_at (cells_of after) i ≡ tail_at (cells_of before) i

-- Word i has this value now, and its op still.
abbrev pub Valued : (before after : List ℕ) (i v : ℕ) → Type 0
Valued before after i v = Put before after (i * 2) (op_at (cells_of before) i + 256 * v)

-- The words of a text stand in the code store: each with its sort, and a name with its number.
pub record Lain (W : List Word) (code : List ℕ) : Type 0 where
  pub sorts : (i : ℕ) → i < length W → op_at (cells_of code) i ≡ sort_in W i
  pub numbers : (i : ℕ) → IsName W i → number_at (cells_of code) i ≡ number_of W i
  pub most : length W ≤ word_limit
  pub room : store_bytes ≤ length code

-- ---- names in the text
-- what a name's word covers, in capitals
abbrev pub length_at : (C : List ℕ) → ℕ → ℕ
length_at C i = value_at C i / number_limit

abbrev pub spelled_at : (text C : List ℕ) → ℕ → Text
spelled_at text C i = map folded (take (length_at C i) (drop (place_at C i) text))

pub record Spells (text : List ℕ) (W : List Word) (code : List ℕ) : Type 0 where
  pub inside : (i : ℕ) → IsName W i → place_at (cells_of code) i + length_at (cells_of code) i ≤ length text
  pub is : (i : ℕ) → IsName W i → spelled_at text (cells_of code) i ≡ spelled W i
