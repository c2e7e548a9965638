-- What resolving does to the code store. As the walk leaves them, links lead to the next word of the text; afterwards they lead to the next step: what leads
-- to a word that only closes a list leads on to where that list goes on.
use Rattle.std.specs.Prelude.{◌≡◌, Bool, true, false, not, List, ℕ, ◌+◌, ◌*◌, ◌<◌, ◌≤◌, eqb, ltb, length, drop, if◌then◌else◌}
use Rattle.store_cells.specs.Cells.{cells_of}
use Rattle.code.specs.Cells.{head_at, tail_at, op_at, value_at, place_at, link_at}
use Rattle.code.specs.Steps.{a_target, a_procedure_call, an_end, a_function_end, an_undo_end, an_else_if, a_case, a_next_value, a_then, a_do, a_pass, an_otherwise, a_close}
use Rattle.layout.specs.Parts.{link_part}

-- ---- which words lead on, by their ops
-- A step but a procedure call, which goes on by the word that closes it, and a list's end; and a word that closes a list. (A THEN leads to an ELSEIF, which stays, or on.)
abbrev pub step_by_link : (op : ℕ) → Bool
step_by_link op =
    if eqb op a_procedure_call then false
    else if eqb op an_end then false
    else if eqb op a_function_end then false
    else not (eqb op an_undo_end)

unfoldable pub goes_by_link : (op : ℕ) → Bool
goes_by_link op =
    if ltb op a_target then false
    else if ltb op an_else_if then step_by_link op
    else if eqb op an_else_if then true
    else if eqb op a_then then true
    else if eqb op a_pass then true
    else if eqb op an_otherwise then true
    else eqb op a_close

-- A THEN's or a DO's value is its list's first word.
unfoldable pub goes_by_value : (op : ℕ) → Bool
goes_by_value op = if eqb op a_then then true else eqb op a_do

-- The place of a CASE, of a comma in one, of DEFAULT and of ENDTEST is its list's first word.
unfoldable pub goes_by_place : (op : ℕ) → Bool
goes_by_place op =
    if eqb op a_case then true
    else if eqb op a_next_value then true
    else eqb op an_otherwise

-- The others stay as they are.
unfoldable pub is_led : (op : ℕ) → Bool
is_led op =
    if goes_by_link op then true
    else if goes_by_value op then true
    else goes_by_place op

-- ---- where they lead
-- A step is where it is; a list that ends at another word goes on where that word's link leads, or for a CASE the link of the word behind it.
-- Ops are read from C, links from L.
unfoldable pub beyond : (C L : List ℕ) → (z : ℕ) → ℕ
beyond C L z =
    if ltb (op_at C z) an_else_if then z
    else if eqb (op_at C z) a_case then link_at L (z + 1)
    else link_at L z

-- Word i may lead to z: z is one of the words but the last, and is a step or stands behind i.
pub record Follows (C : List ℕ) (words i z : ℕ) : Type 0 where
  pub inside : z + 1 < words
  pub forward : z ≤ i → op_at C z < an_else_if

-- Word i of D is that of C, led on by links of L.
pub record Led (C L D : List ℕ) (words i : ℕ) : Type 0 where
  pub op : op_at D i ≡ op_at C i
  pub value : goes_by_value (op_at C i) ≡ false → value_at D i ≡ value_at C i
  pub value_on : goes_by_value (op_at C i) ≡ true → Follows C words i (value_at C i) → value_at D i ≡ beyond C L (value_at C i)
  pub place : goes_by_place (op_at C i) ≡ false → place_at D i ≡ place_at C i
  pub place-on : goes_by_place (op_at C i) ≡ true → Follows C words i (place_at C i) → place_at D i ≡ beyond C L (place_at C i)
  pub link : goes_by_link (op_at C i) ≡ false → link_at D i ≡ link_at C i
  pub link-then : op_at C i ≡ a_then → op_at C (link_at C i) ≡ an_else_if → link_at C i + 1 < words → link_at D i ≡ link_at C i
  pub link_on : goes_by_link (op_at C i) ≡ true → (op_at C i ≡ a_then → op_at C (link_at C i) ≡ an_else_if → ⊥) → Follows C words i (link_at C i) → link_at D i ≡ beyond C L (link_at C i)

-- Each word is led on by the links as they are in the end, and nothing else has changed.
pub record Resolved (before after : List ℕ) (words : ℕ) : Type 0 where
  pub led : (i : ℕ) → i < words → Led (cells_of before) (cells_of after) (cells_of after) words i
  pub past : drop (words * 8) after ≡ drop (words * 8) before
  pub long : length after ≡ length before

-- ---- the parts of the code
-- A word that leads to z is to lead to r.
pub record Beyond (code : List ℕ) (words z r : ℕ) : Type 0 where
  pub is : z + 1 < words → r ≡ beyond (cells_of code) (cells_of code) z
  pub as-link : z < link_part → r < link_part
  pub as-value : r < 16777216

pub record LedValue (code : List ℕ) (words op v r : ℕ) : Type 0 where
  pub same : goes_by_value op ≡ false → r ≡ v
  pub on : goes_by_value op ≡ true → v + 1 < words → r ≡ beyond (cells_of code) (cells_of code) v
  pub small : r < 16777216

pub record LedPlace (code : List ℕ) (words op p r : ℕ) : Type 0 where
  pub same : goes_by_place op ≡ false → r ≡ p
  pub on : goes_by_place op ≡ true → p + 1 < words → r ≡ beyond (cells_of code) (cells_of code) p
  pub small : r < link_part

pub record LedLink (code : List ℕ) (words op l r : ℕ) : Type 0 where
  pub same : goes_by_link op ≡ false → r ≡ l
  pub stays : op ≡ a_then → op_at (cells_of code) l ≡ an_else_if → l + 1 < words → r ≡ l
  pub on : goes_by_link op ≡ true → (op ≡ a_then → op_at (cells_of code) l ≡ an_else_if → ⊥) → l + 1 < words → r ≡ beyond (cells_of code) (cells_of code) l
  pub small : r < link_part

-- Word i alone is led on by the links as they are so far.
pub record Turned (before after : List ℕ) (words i : ℕ) : Type 0 where
  pub led : Led (cells_of before) (cells_of before) (cells_of after) words i
  pub heads : (k : ℕ) → (k ≡ i → ⊥) → head_at (cells_of after) k ≡ head_at (cells_of before) k
  pub tails : (k : ℕ) → (k ≡ i → ⊥) → tail_at (cells_of after) k ≡ tail_at (cells_of before) k
  pub past : drop (words * 8) after ≡ drop (words * 8) before
  pub long : length after ≡ length before
