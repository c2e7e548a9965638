-- A cell of the table of meanings: op + 256 * value. An op is kind * 4 + 2 of a bool + 1 of a word of the routine. Kind 0 is no meaning yet.
use Rattle.std.specs.Prelude.{ℕ, ◌+◌, ◌*◌, ◌/◌, ◌%◌}
use Rattle.code.specs.Cells.{op_in}
use Rattle.layout.specs.Parts.{value_part, kind_part, type_part}

abbrev pub a_variable : ℕ
a_variable = 1

abbrev pub an_array : ℕ
an_array = 2

abbrev pub a_constant : ℕ
a_constant = 3

abbrev pub a_loop : ℕ
a_loop = 4

abbrev pub a_routine : ℕ
a_routine = 5

abbrev pub an_errno : ℕ
an_errno = 6

abbrev pub an_error_number : ℕ
an_error_number = 7

abbrev pub cell_with : (kind bool own value : ℕ) → ℕ
cell_with kind bool own value = kind * kind_part + type_part * bool + own + value_part * value

-- what a cell says: its kind, the bit of its type (1 for bool), and that of a word of the routine. Its value is a head's: `value_in` of crate code.
abbrev pub kind_in : (cell : ℕ) → ℕ
kind_in m = op_in m / kind_part

abbrev pub bool_in : (cell : ℕ) → ℕ
bool_in m = m / type_part % 2

abbrev pub own_in : (cell : ℕ) → ℕ
own_in m = m % 2
