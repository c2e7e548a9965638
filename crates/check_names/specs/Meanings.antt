-- What a cell of the table of meanings says, and when the table says what the paper's scopes say.
use Rattle.std.specs.Prelude.{◌≡◌, Bool, List, [], map, ℕ, ◌+◌, ◌*◌, ◌/◌, ◌%◌, eqb, leb, get_or, if◌then◌else◌}
use Rattle.paper.specs.Words.{Word}
use Rattle.paper.specs.Terms.{Ref, of_module, of_routine}
use Rattle.paper.specs.Names.{DataType, a_num, a_bool, Meaning, unknown, variable, array, constant, loop, the_routine, the_errno, error_number, Text, text_of, Scopes, spelled, look_in, protected, is_among, meaning}
use Rattle.code.specs.Cells.{op_in, value_in, head_at, link_at}
use Rattle.check_names.specs.Numbers.{number_of, IsName}
use Rattle.layout.specs.Parts.{size_part}
pub use Rattle.layout.specs.Kinds.{a_variable, an_array, a_constant, a_loop, a_routine, an_errno, an_error_number, cell_with, kind_in, bool_in, own_in}

-- ---- a cell: its kind, its type's bit and that of a word of the routine, and its value
abbrev pub type_with : (bool : ℕ) → DataType
type_with bool = if eqb bool 0 then a_num else a_bool

abbrev pub ref_with : (own word : ℕ) → Ref
ref_with own word = if eqb own 0 then of_module word else of_routine word

-- An array's value is its first word, and its size above it. A routine's is the word that it begins with, which `routine` numbers.
-- Kind 0 is no meaning yet, also of module data whose semicolon is still to come.
unfoldable pub meaning_with : (routine : ℕ → ℕ) → (kind bool own value : ℕ) → Meaning
meaning_with routine kind bool own value =
    if eqb kind a_variable then variable (type_with bool) (ref_with own value)
    else if eqb kind an_array then array (type_with bool) (ref_with own (value % size_part)) (value / size_part)
    else if eqb kind a_constant then constant (type_with bool) (ref_with own value)
    else if eqb kind a_loop then loop (ref_with own value)
    else if eqb kind a_routine then the_routine (routine value)
    else if eqb kind an_errno then the_errno
    else if eqb kind an_error_number then error_number value
    else unknown

unfoldable pub meaning_in : (routine : ℕ → ℕ) → (cell : ℕ) → Meaning
meaning_in routine m = meaning_with routine (kind_in m) (bool_in m) (own_in m) (value_in m)

-- ---- protected names
abbrev pub is_protected : Text → Bool
is_protected text = is_among (map text_of protected) text

-- The cell of a protected name's meaning; 0 for any other.
unfoldable pub cell_of : Meaning → ℕ
cell_of unknown = 0
cell_of (variable t r) = 0
cell_of (array t r n) = 0
cell_of (constant t r) = 0
cell_of (loop r) = 0
cell_of (the_routine k) = 0
cell_of the_errno = cell_with an_errno 0 0 0
cell_of (error_number n) = cell_with an_error_number 0 0 n

unfoldable pub protected_cell : Text → ℕ
protected_cell text = cell_of (look_in protected text unknown)

-- The cell says that its name is protected.
abbrev pub protects_cell : (cell : ℕ) → Bool
protects_cell m = leb (cell_with an_errno 0 0 0) (op_in m)

-- ---- the table
-- The table begins at this cell of the value store.
abbrev pub first_meaning : ℕ
first_meaning = 8192

abbrev pub cell_for : List Word → List ℕ → ℕ → ℕ
cell_for W X i = get_or X (first_meaning + number_of W i) 0

-- before any declaration
abbrev pub no_scopes : Scopes
no_scopes = record { loops = []; own = []; globals = []; routines = [] }

-- The table says of each name of a text what it means in these scopes, and whether it is protected. `X` is the value store's cells.
pub record Means (routine : ℕ → ℕ) (W : List Word) (S : Scopes) (X : List ℕ) : Type 0 where
  pub means : (i : ℕ) → IsName W i → meaning_in routine (cell_for W X i) ≡ meaning S (spelled W i)
  pub guards : (i : ℕ) → IsName W i → protects_cell (cell_for W X i) ≡ is_protected (spelled W i)

-- Two scopes mean the same by every text but this.
abbrev pub Apart : Scopes → Scopes → Text → Type 0
Apart S S' text = (u : Text) → (u ≡ text → ⊥) → meaning S' u ≡ meaning S u

-- Scopes S' that hide what a text meant in S: it means m in them, and every other means what it did.
pub record Hides (S S' : Scopes) (text : Text) (m : Meaning) : Type 0 where
  pub here : meaning S' text ≡ m
  pub elsewhere : Apart S S' text

-- Word i keeps what its name means in scopes S, in its head, and the name's number, in its link. `C` is the code store's cells.
pub record Keeps (routine : ℕ → ℕ) (W : List Word) (S : Scopes) (C : List ℕ) (i : ℕ) : Type 0 where
  pub number : link_at C i ≡ number_of W i
  pub means : meaning_in routine (head_at C i) ≡ meaning S (spelled W i)
  pub guards : protects_cell (head_at C i) ≡ is_protected (spelled W i)
