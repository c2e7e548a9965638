-- Types as the check tells them: of an expression, and of what a routine gives back.
use Rattle.std.specs.Prelude.{Option, Some, None, ◌≡◌, ℕ, eqb, if◌then◌else◌}
use Rattle.std.proofs.Math.Option as math
use Rattle.paper.specs.Names.{DataType, a_num, a_bool}
use Rattle.layout.specs.declared.types.ValueType.{ValueType}
use Rattle.layout.specs.declared.types.ValueType.TheVariants.{Num, Bool}

-- the paper's type
abbrev pub type_in : ValueType → DataType
type_in Num = a_num
type_in Bool = a_bool

-- of what a routine gives back: a PROC gives nothing back
abbrev pub given_back : Option ValueType → math.Option DataType
given_back None = math.none
given_back (Some t) = math.some (type_in t)

-- ---- types by number; numbers from 3 on are free
-- a PROC gives nothing back
abbrev pub no_type : ℕ
no_type = 0

abbrev pub num_type : ℕ
num_type = 1

abbrev pub bool_type : ℕ
bool_type = 2

-- the number that says a type
abbrev pub type_number : ValueType → ℕ
type_number Num = num_type
type_number Bool = bool_type

-- the type that a number says, and none for every other number
unfoldable pub type_said : ℕ → math.Option DataType
type_said n =
    if eqb n num_type then math.some a_num
    else if eqb n bool_type then math.some a_bool
    else math.none
