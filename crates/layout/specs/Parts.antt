-- How numbers are packed into a word's cells: each of these is what the upper part is multiplied by. The definitions of crate code take them apart.
use Rattle.std.specs.Prelude.{ℕ, eqb, if◌then◌else◌}
use Rattle.paper.specs.Words.{QUOTE}

-- a head: its value above its op; so is a cell of the table of meanings
abbrev pub value_part : ℕ
value_part = 256

-- a tail: its link above its place
abbrev pub link_part : ℕ
link_part = 65536

-- an array's value: its size above its first word
abbrev pub size_part : ℕ
size_part = 1024

-- a string's value: its characters above its bytes, quotes included
abbrev pub characters_part : ℕ
characters_part = 256

-- an ENDFOR's value: its FOR above the variable's word
abbrev pub loop_part : ℕ
loop_part = 256

-- a name's value: its length above its number
abbrev pub spelled_part : ℕ
spelled_part = 8192

-- an operator's op: how its right side is given above its number; so many ways there are
abbrev pub right_part : ℕ
right_part = 16

abbrev pub right_ways : ℕ
right_ways = 4

-- a number in two cells: its high half above its low one
abbrev pub half_part : ℕ
half_part = 4294967296

-- a meaning's op: its kind above its type's bit, and that above the bit of a routine's word
abbrev pub kind_part : ℕ
kind_part = 4

abbrev pub type_part : ℕ
type_part = 2

-- how many bytes a character of a string takes that begins with this one: a quote stands twice
abbrev pub width_of : ℕ → ℕ
width_of b = if eqb b QUOTE then 2 else 1
