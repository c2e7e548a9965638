-- "prints the output, then the eight fields of the record": as bytes.
use Rattle.std.specs.Prelude.{◌≡◌, List, [], ◌∷◌, ◌++◌, ℕ, ◌+◌, ◌≤◌, ◌<◌, eqb, pos, length, get_or, drop, if◌then◌else◌}
use Rattle.laws.specs.Lists.{replaced}
use Rattle.paper.specs.Numbers.{decimal}
use Rattle.paper.specs.Answer.{Record, Result, answer, LentBytes, lent_of, bytes_after}
use Rattle.store_cells.specs.Cells.{cells_of}
use Rattle.call_screen.specs.declared.Shown.{Shown}

-- ---- numbers in a line
-- Room for any number of 64 bits and the byte behind it, and for eight of them.
abbrev pub field_room : ℕ
field_room = 21

abbrev pub line_room : ℕ
line_room = 168

-- A number in plain decimal, and the byte behind it.
abbrev pub numbered : (n behind : ℕ) → List ℕ
numbered n behind = decimal (pos n) ++ (behind ∷ [])

-- Numbers, a blank between two, and LF behind the last one.
unfoldable pub line_of : List ℕ → List ℕ
line_of [] = []
line_of (n ∷ []) = numbered n 10
line_of (n ∷ m ∷ r) = numbered n 32 ++ line_of (m ∷ r)

-- Field k of the record has a blank behind it, and the last one LF.
unfoldable pub behind_at : (k : ℕ) → ℕ
behind_at k = if eqb k 7 then 10 else 32

-- A number is put at a place, with the byte behind it.
pub record PutOne (before after : List ℕ) (at n behind r : ℕ) : Type 0 where
  pub bytes : after ≡ replaced before at (numbered n behind) (length (numbered n behind))
  pub place : r ≡ at + length (numbered n behind)
  pub near : r ≤ at + field_room
  pub size : length after ≡ length before

-- The line of these numbers stands in front, and what lies behind it is as it was.
pub record PutLine (before after : List ℕ) (numbers : List ℕ) (r : ℕ) : Type 0 where
  pub bytes : after ≡ line_of numbers ++ drop (length (line_of numbers)) before
  pub place : r ≡ length (line_of numbers)
  pub near : r ≤ line_room
  pub size : length after ≡ length before

-- ---- the record
-- Its fields in their order.
abbrev pub field_list : Record → List ℕ
field_list f = f.ending ∷ f.refusal ∷ f.offset ∷ f.steps ∷ f.errno ∷ f.output ∷ f.inputs ∷ f.words ∷ []

unfoldable pub record_line : Record → List ℕ
record_line f = line_of (field_list f)

-- The low word of each field.
abbrev pub low_fields : List ℕ → List ℕ
low_fields bytes =
    let W = cells_of bytes in
    get_or W 0 0 ∷ get_or W 2 0 ∷ get_or W 4 0 ∷ get_or W 6 0 ∷ get_or W 8 0 ∷ get_or W 10 0 ∷ get_or W 12 0 ∷ get_or W 14 0 ∷ []

-- ---- what is shown of a call
-- "prints the output, then the eight fields of the record"
unfoldable pub screen_of : Result → List ℕ
screen_of r = r.written ++ record_line r.fields

-- What is asked of who lends: lengths of 32 bits, which a program's memory has, and room for the line.
pub record Lends (text inputs out line : List ℕ) : Type 0 where
  pub text-small : length text < 4294967296
  pub inputs-small : length inputs < 4294967296
  pub out-small : length out < 4294967296
  pub line-room : line_room ≤ length line

-- The call leaves what the paper says in all that is lent, and the line of its record stands in front of `line`.
pub record Shows (l : LentBytes) (line : List ℕ) (r : Shown) (out' code' values' line' : List ℕ) : Type 0 where
  pub out-is : out' ≡ (answer (lent_of l)).output
  pub code_is : code' ≡ bytes_after (answer (lent_of l)).code l.code
  pub values-is : values' ≡ bytes_after (answer (lent_of l)).values l.values
  pub line-is : line' ≡ record_line (answer (lent_of l)).fields ++ drop (length (record_line (answer (lent_of l)).fields)) line
  pub output-is : r.output ≡ (answer (lent_of l)).fields.output
  pub length-is : r.line ≡ length (record_line (answer (lent_of l)).fields)
  pub output-inside : r.output ≤ length out'
  pub line-inside : r.line ≤ length line'
