-- The parts of the check of an expression.
use Rattle.layout.specs.declared.types.ValueType.{ValueType}
use Rattle.std.specs.Prelude.{◌≡◌, Bool, true, false, ◌||◌, List, [], ℕ, suc, ◌+◌, ◌*◌, ◌<◌, ◌≤◌, eqb, leb, length, if◌then◌else◌, Ok, Err, Option, Some, None}
use Rattle.paper.specs.Sorts.{NUMBER, NOT, plus, minus_sign, equal, unequal}
use Rattle.paper.specs.Words.{Word, word_limit}
use Rattle.paper.specs.Trees.{Expr, first}
use Rattle.paper.specs.Expressions.{got, relations, conjunctions, level_of, is_literal, expr_in}
use Rattle.paper.specs.Names.{DataType, a_num, a_bool, Scopes, sort_in}
use Rattle.paper.specs.Types.{Fault, fault, judge_name, judge_element, judge_signed, judge_joined, judge_leaf, judge}
use Rattle.paper.specs.Types as types
use Rattle.store_cells.specs.Cells.{cells_of}
use Rattle.code.specs.Cells.{first_window, op_in, value_in, op_at, value_at, link_at}
use Rattle.code.specs.Spans.{a_span, a_parenthesis, right_in, operator_in, operator_of, prefix_in}
use Rattle.climb.specs.Rise.{lowest, begin}
use Rattle.layout.specs.Types.{type_in}
use Rattle.check_names.specs.Meanings.{an_array, kind_in, meaning_with, meaning_in}
use Rattle.layout.specs.Broken.{number_of}
use Rattle.layout.specs.declared.rules.Rule.{Rule}
use Rattle.check_expressions.specs.Judgements.{Judged}
use Rattle.check_expressions.specs.Known.{Fresh, Loaded, largest, Within, Known}
use Rattle.store_writing.specs.Promises.{Kept}
use Rattle.check_expressions.specs.Answers.{SoundUnder, Refused, SaysUnder, JudgesUnder}

-- ---- operators
-- the type that an operator asks of both sides, by that of the left one
unfoldable pub asked_of : (sort : ℕ) → (left : DataType) → DataType
asked_of s t =
    if eqb s equal || eqb s unequal then t
    else if leb conjunctions (level_of s) then a_bool
    else a_num

-- the type of what it gives
unfoldable pub result_of : (sort : ℕ) → DataType
result_of s = if leb relations (level_of s) then a_bool else a_num

-- r is the type that an operator asks for, where that of its left side is this
pub record Asks (s : ℕ) (left r : ValueType) : Type 0 where
  pub is : (t : DataType) → type_in left ≡ t → type_in r ≡ asked_of s t

-- r is that of what an operator of level l gives
pub record Gives (l : ℕ) (r : ValueType) : Type 0 where
  pub is : (s : ℕ) → l ≡ level_of s → type_in r ≡ result_of s

-- r is the number of an operator
pub record Numbered (s r : ℕ) : Type 0 where
  pub small : r < 16
  pub is : operator_of r ≡ s

-- NOT or a sign
unfoldable pub is_prefix : (sort : ℕ) → Bool
is_prefix s = eqb s NOT || eqb s plus || eqb s minus_sign

pub record Prefixes (s r : ℕ) : Type 0 where
  pub small : r < 128
  pub op : a_parenthesis < r
  pub is : is_prefix s ≡ true → prefix_in r ≡ s

-- the type that NOT or a sign asks for, and gives
unfoldable pub signed_of : (sort : ℕ) → DataType
signed_of s = if eqb s NOT then a_bool else a_num

pub record SignType (s : ℕ) (r : ValueType) : Type 0 where
  pub is : type_in r ≡ signed_of s

-- an operator's word, whose right side ends at n
pub record Tied (before after : List ℕ) (s i n : ℕ) : Type 0 where
  pub operator-is : operator_in (op_at (cells_of after) i) ≡ s
  pub leaf-op : n ≡ i + 2 → right_in (op_at (cells_of after) i) ≡ op_at (cells_of before) (i + 1)
  pub leaf-value : n ≡ i + 2 → value_at (cells_of after) i ≡ value_at (cells_of before) (i + 1)
  pub span-op : (n ≡ i + 2 → ⊥) → right_in (op_at (cells_of after) i) ≡ a_span
  pub span-link : (n ≡ i + 2 → ⊥) → link_at (cells_of after) i ≡ n
  pub small : op_at (cells_of after) i < 128
  pub kept : Kept before after i (i + 1)

-- ---- names
-- What a cell of the table means, where the module has m words and the routine n.
pub record Meant (cell : ℕ) : Type 0 where
  pub routine : ℕ → ℕ
  pub m : ℕ
  pub n : ℕ
  pub most : m ≤ first_window
  pub within : Within m n (meaning_in routine cell)

-- the fault of a rule at a word, if there is one
unfoldable pub fault_of : Option Rule → (at : ℕ) → List Fault
fault_of None at = []
fault_of (Some rule) at = fault (number_of rule) at

-- r is the rule that a name of this kind breaks where it stands alone, if any
pub record BreaksAlone (kind : ℕ) (only : Bool) (r : Option Rule) : Type 0 where
  pub is : (routine : ℕ → ℕ) (bool own value at : ℕ) → (judge_name only (meaning_with routine kind bool own value) at).faults ≡ fault_of r at

-- r is the rule that a name of this kind breaks before an index, if any
pub record BreaksIndexed (kind : ℕ) (only : Bool) (r : Option Rule) : Type 0 where
  pub wrong : (rule : Rule) → r ≡ Some rule → (routine : ℕ → ℕ) (bool own value at : ℕ) (e : Expr) (j : types.Judged) → Refused (judge_element only (meaning_with routine kind bool own value) at e j) (record { rule = rule; word = at })
  pub kind-is : r ≡ None → kind ≡ an_array
  pub free : r ≡ None → only ≡ false

pub record Alone (before after : List ℕ) (cell : ℕ) (only : Bool) (at : ℕ) (r : Judged) : Type 0 where
  pub is : (d : ℕ) (g : Meant cell) → JudgesUnder d g.m g.n before after at (at + 1) (judge_name only (meaning_in g.routine cell) at) r

-- ---- literals
abbrev pub SmallNumber : (head : ℕ) → Type 0
SmallNumber w = op_in w ≡ NUMBER → value_in w ≤ largest

pub record Literal (before after : List ℕ) (at : ℕ) (r : Judged) : Type 0 where
  pub is : (d m n : ℕ) (W : List Word) (only : Bool) (S : Scopes) → Fresh W (cells_of before) at → is_literal (sort_in W at) ≡ true
      → JudgesUnder d m n before after at (at + 1) (judge_leaf W only S at) r

-- ---- around what has been answered
-- the word after it is a word's index
unfoldable pub Short : Judged → Type 0
Short (Ok (type, next)) = next < word_limit
Short (Err broken) = Unit {0}

-- parentheses
pub record Nested (before after : List ℕ) (inner : Judged) (at : ℕ) (r : Judged) : Type 0 where
  pub is : (d m n to : ℕ) (j : types.Judged) → SaysUnder d m n (cells_of before) (at + 1) to j inner → JudgesUnder (suc d) m n before after at (to + 1) j r

-- NOT or a sign
pub record Signed (before after : List ℕ) (s : ℕ) (inner : Judged) (at : ℕ) (r : Judged) : Type 0 where
  pub is : (d m n to : ℕ) (e : Expr) (j : types.Judged) → is_prefix s ≡ true → first e ≡ at + 1 → SaysUnder d m n (cells_of before) (at + 1) to j inner
      → JudgesUnder d m n before after at to (judge_signed s e j) r

-- an array's name and braces
pub record Indexed (before after : List ℕ) (cell : ℕ) (inner : Judged) (at : ℕ) (r : Judged) : Type 0 where
  pub is : (d : ℕ) (g : Meant cell) (to : ℕ) (e : Expr) (j : types.Judged) → kind_in cell ≡ an_array → first e ≡ at + 2 → SaysUnder d g.m g.n (cells_of before) (at + 2) to j inner
      → JudgesUnder (suc d) g.m g.n before after at (to + 1) (judge_element false (meaning_in g.routine cell) at e j) r

-- ---- an operator at i between two sides
pub record Right (code : List ℕ) (s l i : ℕ) (right : Judged) : Type 0 where
  pub level-is : l ≡ level_of s
  pub some : 0 < l
  pub d : ℕ
  pub m : ℕ
  pub n : ℕ
  pub to : ℕ
  pub j : types.Judged
  pub says : SaysUnder d m n (cells_of code) (i + 1) to j right
  pub last : to < word_limit
  pub room : to * 8 + 8 ≤ length code

pub record Joined (before after : List ℕ) (s : ℕ) (wants : ValueType) (i : ℕ) (right r : Judged) : Type 0 where
  pub is : (d m n at to : ℕ) (a b : Expr) (ja jb : types.Judged) → SoundUnder d m n (cells_of before) at i ja wants i → asked_of s ja.type ≡ ja.type
      → first b ≡ i + 1 → SaysUnder d m n (cells_of before) (i + 1) to jb right → JudgesUnder d m n before after at to (judge_joined s a b ja jb) r

-- ---- the first part of an expression
pub record Begins (nesting : ℕ) (code values : List ℕ) (at : ℕ) : Type 0 where
  pub known : Known values
  pub d : ℕ
  pub e : Expr
  pub to : ℕ
  pub deep : d ≤ nesting
  pub is : begin (sort_in known.W) (expr_in (sort_in known.W) d) at ≡ got (e, to)
  pub ends : 0 < level_of (sort_in known.W to) → lowest (sort_in known.W at) ≤ level_of (sort_in known.W to)
  pub loaded : Loaded known.W code at to

pub record Began (nesting : ℕ) (code values after : List ℕ) (only : Bool) (at : ℕ) (r : Judged) : Type 0 where
  pub is : (s : Begins nesting code values at) → JudgesUnder nesting s.known.m s.known.n code after at s.to (judge s.known.W only s.known.S s.e) r
