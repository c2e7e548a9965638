-- What the functions ask and promise that write to the output.
use Rattle.std.specs.Prelude.{◌≡◌, Bool, true, false, List, [], ◌∷◌, ◌++◌, ℕ, suc, ◌+◌, ◌-◌, ◌*◌, ◌/◌, ◌%◌, ◌<◌, ◌≤◌, length, get_or, take, drop, set, ℤ}
use Rattle.std.specs.Int.{w32}
use Rattle.std.proofs.Common.{SFits, to_z, of_z}
use Rattle.laws.specs.Lists.{replaced}
use Rattle.paper.specs.Words.{LF}
use Rattle.paper.specs.Numbers.{num, value, error, ranged, overflow, decimal}
use Rattle.paper.specs.Steps.{unquoted}
use Rattle.store_cells.specs.Cells.{cells_of}
use Rattle.code.specs.Cells.{op_at, value_at, place_at}
use Rattle.code.specs.Steps.{a_write}
use Rattle.code.specs.Windows.{written_cell, used_cell, count_at}
use Rattle.store_reading.specs.Reading.{cell_values}
use Rattle.layout.specs.Parts.{characters_part}
use Rattle.run_machine.specs.Machine.{Here, Stepped}

-- ---- how many bytes are written
abbrev pub count_in : (X : List ℕ) → ℕ
count_in X = count_at X written_cell

-- a count in two cells set anew: of bytes written, or of inputs used
abbrev pub with_count : (X : List ℕ) → (cell : ℕ) → ℕ → List ℕ
with_count X c n = set (set X c (n % cell_values)) (suc c) (n / cell_values)

pub record Counted (before after : List ℕ) (cell n : ℕ) : Type 0 where
  pub words : cells_of after ≡ with_count (cells_of before) cell n
  pub long : length after ≡ length before

-- ---- strings
-- The first bytes of a text, however many they are taken to be, are `count` characters.
pub record Copies (text out : List ℕ) (count : ℕ) : Type 0 where
  pub bytes : ℕ
  pub many : length (unquoted (take bytes text)) ≡ count
  pub room : count ≤ length out

pub record Copied (text out out' : List ℕ) (count : ℕ) : Type 0 where
  pub is : (bytes : ℕ) → length (unquoted (take bytes text)) ≡ count → out' ≡ unquoted (take bytes text) ++ drop count out

-- They are the characters of a string that takes so many bytes with the quotes around it.
pub record Spelled (text out : List ℕ) (count bytes : ℕ) : Type 0 where
  pub many : length (unquoted (take (bytes - 2) text)) ≡ count
  pub room : count ≤ length out
  pub few : bytes < characters_part

-- what the string at a word says, whose value has its bytes, quotes included, and above them its characters
unfoldable pub characters_at : (text C : List ℕ) → (i : ℕ) → List ℕ
characters_at text C i = unquoted (take (value_at C i % characters_part - 2) (drop (place_at C i + 1) text))

-- A string stands at word i: an empty one where there is no such word.
pub record Spells (text code : List ℕ) (i : ℕ) : Type 0 where
  pub many : value_at (cells_of code) i / characters_part ≡ length (characters_at text (cells_of code) i)
  pub whole : length code % 8 ≡ 0

-- The bytes s stand from `at` on, and r is the place after them.
pub record Placed (out out' : List ℕ) (at : ℕ) (s : List ℕ) (r : ℕ) : Type 0 where
  pub bytes : out' ≡ replaced out at s (length s)
  pub place : r ≡ at + length s

-- ---- lines
-- the line of TPWrite without a number, and with one
abbrev pub line_at : (text C : List ℕ) → (i : ℕ) → List ℕ
line_at text C i = characters_at text C i ++ (LF ∷ [])

abbrev pub line_of : (text C : List ℕ) → (i : ℕ) → ℤ → List ℕ
line_of text C i z = characters_at text C i ++ decimal z ++ (LF ∷ [])

-- There is room for a line behind what is written.
pub record HasRoom (values out line : List ℕ) : Type 0 where
  pub room : count_in (cells_of values) + length line ≤ length out
  pub cells : suc (suc used_cell) * 4 ≤ length values

-- The line was added.
pub record Added (values after out out' line : List ℕ) : Type 0 where
  pub count : Counted values after written_cell (count_in (cells_of values) + length line)
  pub bytes : out' ≡ replaced out (count_in (cells_of values)) line (length line)

-- ---- steps
-- A step of the call with its window at `base` that adds a line.
pub record Prints (text code values out : List ℕ) (base i : ℕ) : Type 0 where
  pub here : Here code values base i
  pub text-is : here.text ≡ text
  pub written : count_in (cells_of values) ≤ length out

-- TPWrite without a number
pub record Writes (text code values out : List ℕ) (i : ℕ) : Type 0 where
  pub base : ℕ
  pub prints : Prints text code values out base i
  pub op : op_at (cells_of code) i ≡ a_write

pub record Wrote (text code values after out out' : List ℕ) (i : ℕ) (r : ℤ) : Type 0 where
  pub steps : (inputs : List ℕ) (base last : ℕ) → Stepped text code values after inputs out out' base last i r

-- and with one, which ends at t
pub record WroteOf (text code values after out out' : List ℕ) (base i : ℕ) (r : ℤ) : Type 0 where
  pub steps : (inputs : List ℕ) (last : ℕ) → Stepped text code values after inputs out out' base last i r

-- The next input, z, goes to a cell if it is in num.
pub record Takes (values inputs : List ℕ) (used cell : ℕ) : Type 0 where
  pub cell_in : cell * 4 + 4 ≤ length values
  pub used-in : suc (suc used_cell) * 4 ≤ length values
  pub input : used * 4 + 4 ≤ length inputs

abbrev pub input_at : (inputs : List ℕ) → ℕ → ℤ
input_at inputs k = to_z w32 (get_or (cells_of inputs) k 0)

pub record Took (values after inputs : List ℕ) (used cell : ℕ) (ok : Bool) : Type 0 where
  pub long : length after ≡ length values
  pub small : SFits w32 (input_at inputs used)
  pub in-num : ok ≡ true → ranged num (input_at inputs used) ≡ value (input_at inputs used)
  pub stored : ok ≡ true → cells_of after ≡ set (with_count (cells_of values) used_cell (used + 1)) cell (of_z w32 (input_at inputs used))
  pub outside : ok ≡ false → ranged num (input_at inputs used) ≡ error overflow
  pub consumed : ok ≡ false → cells_of after ≡ with_count (cells_of values) used_cell (used + 1)

pub record WasRead (text code values after inputs out out' : List ℕ) (base i : ℕ) (r : ℤ) : Type 0 where
  pub steps : (last : ℕ) → Stepped text code values after inputs out out' base last i r
