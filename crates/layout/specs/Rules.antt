-- The numbers of the paper's tables by name: what a module is refused for, and how a run ends.
use Rattle.std.specs.Prelude.{ℕ}

-- ---- "Refused because"
-- "a store under 16,384 words"
abbrev pub small_store : ℕ
small_store = 1

-- "depth not 1..64"
abbrev pub wrong_depth : ℕ
wrong_depth = 2

-- "text too long"
abbrev pub long_text : ℕ
long_text = 3

-- "byte not permitted"
abbrev pub bad_byte : ℕ
bad_byte = 4

-- "malformed word"
abbrev pub malformed : ℕ
malformed = 5

-- "number too large"
abbrev pub too_large : ℕ
too_large = 6

-- "more than 8,192 words"
abbrev pub many_words : ℕ
many_words = 7

-- "word that no well-formed module could have here"
abbrev pub no_form : ℕ
no_form = 8

-- "nesting 17"
abbrev pub deep_nesting : ℕ
deep_nesting = 9

-- "name declared twice or protected"
abbrev pub taken_name : ℕ
taken_name = 10

-- "unknown name"
abbrev pub unknown_name : ℕ
unknown_name = 11

-- "name of wrong kind"
abbrev pub wrong_kind : ℕ
wrong_kind = 12

-- "wrong type"
abbrev pub wrong_type : ℕ
wrong_type = 13

-- "wrong argument count"
abbrev pub wrong_count : ℕ
wrong_count = 14

-- "constant expression that would raise an error, or size outside 1..512"
abbrev pub no_value : ℕ
no_value = 15

-- "over 64 routines, 1,024 module words, 64 words a routine"
abbrev pub too_many : ℕ
too_many = 16

-- "RETRY, TRYNEXT or plain RAISE outside ERROR, `RAISE e` in it, RETURN with a value in PROC or without in FUNC"; "17 covers the barred words and calls" of UNDO
abbrev pub barred : ℕ
barred = 17

-- "no PROC main without parameters"
abbrev pub no_main : ℕ
no_main = 18

-- "a FOR variable named like a parameter or data of its routine"
abbrev pub hiding_loop : ℕ
hiding_loop = 19

-- ---- "Ending"
-- "main returned"
abbrev pub main_returned : ℕ
main_returned = 1

-- "EXIT"
abbrev pub exited : ℕ
exited = 2

-- "error unhandled"
abbrev pub unhandled : ℕ
unhandled = 3

-- "FUNC reached a list's end"
abbrev pub fell_off : ℕ
fell_off = 4

-- "steps spent"
abbrev pub steps_spent : ℕ
steps_spent = 5

-- "call beyond the depth"
abbrev pub beyond_depth : ℕ
beyond_depth = 6

-- "no input left for TPReadNum"
abbrev pub no_input : ℕ
no_input = 7

-- "a whole line lacks output room"
abbrev pub no_room : ℕ
no_room = 8

-- "aborted"
abbrev pub aborted : ℕ
aborted = 9

-- "spent UNDO steps"
abbrev pub undo_spent : ℕ
undo_spent = 10
