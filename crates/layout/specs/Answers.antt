-- What an evaluation answers, and what a step answers: one number of 64 bits.
use Rattle.std.specs.Prelude.{ℕ, ◌+◌, ◌*◌, ◌-◌}
use Rattle.layout.specs.Rules.{beyond_depth, no_input, no_room}

-- ---- an evaluation: a value, or the number of an error above all values. A step that fails answers an error too.
abbrev pub first_error : ℕ
first_error = 4294967296

-- ---- a step: the next step; or, in the half above, one of these with a step, an ending or a word's index below it
-- so many answers each of them has
abbrev pub answers : ℕ
answers = 65536

abbrev pub entered : ℕ
entered = 65536

abbrev pub left : ℕ
left = 131072

abbrev pub ended : ℕ
ended = 196608

-- an ending from 6 to 8: what lacks room
abbrev pub lacked : ℕ
lacked = 262144

unfoldable pub lacked_by : (ending : ℕ) → ℕ
lacked_by n = lacked + answers * (n - beyond_depth)

-- plain RAISE
abbrev pub handed : ℕ
handed = 458752

-- the two that output gives
abbrev pub input_lacked : ℕ
input_lacked = lacked + answers * (no_input - beyond_depth)

abbrev pub room_lacked : ℕ
room_lacked = lacked + answers * (no_room - beyond_depth)
