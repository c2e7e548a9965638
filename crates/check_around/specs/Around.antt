-- What is known where statements are checked: the routine's words and names, the routines that can be called, and the text.
use Rattle.std.specs.Prelude.{◌≡◌, List, ℕ, ◌+◌, ◌<◌, ◌≤◌, length, take, drop, Option}
use Rattle.std.proofs.Math.Option as math
use Rattle.paper.specs.Sorts.{STRING}
use Rattle.paper.specs.Words.{Word}
use Rattle.paper.specs.Terms.{Memory}
use Rattle.paper.specs.Names.{DataType, the_routine, nth, sort_in, spelled, meaning}
use Rattle.paper.specs.Checks.{the_body, the_handler, the_undo, is_some}
use Rattle.paper.specs.Checks as checks
use Rattle.store_cells.specs.Cells.{cells_of}
use Rattle.code.specs.Cells.{head_at, value_at, place_at}
use Rattle.code.specs.Steps.{a_target, Head, numbered}
use Rattle.code.specs.Signatures.{Heads}
use Rattle.check_names.specs.Numbers.{IsName}
use Rattle.check_names.specs.Promises.{store_bytes}
use Rattle.check_expressions.specs.Known.{Loaded, Known}
use Rattle.check_expressions.specs.Owned.{Owns}
use Rattle.layout.specs.Types.{given_back}
use Rattle.layout.specs.declared.types.ValueType.{ValueType}
use Rattle.check_links.specs.Raw.{Ground}
use Rattle.check_around.specs.declared.Setting.{Setting}
use Rattle.check_around.specs.declared.lists.WhichList.{WhichList}
use Rattle.check_around.specs.declared.lists.WhichList.TheVariants.{Body, Handler, Undo}

-- ---- the text
-- A string, quotes included, is part of the text: at most 80 characters, each of them two bytes at most.
pub record Quoted (text : List ℕ) (w : Word) : Type 0 where
  pub covers : w.covers ≡ take (length w.covers) (drop w.place text)
  pub inside : w.place + length w.covers ≤ length text
  pub least : 2 ≤ length w.covers
  pub most : length w.covers ≤ 162

-- the offset of a word
unfoldable pub offset_in : List Word → ℕ → ℕ
offset_in W i = (nth W i).place

-- ---- around a list of statements
-- K says where they stand: the signatures, the routine's result, and in which list they are. R are the routines as the cells know them, M what constants read.
pub record Around (text values : List ℕ) : Type 0 where
  pub known : Known values
  pub R : List Head
  pub K : checks.Setting
  pub M : Memory
  pub numbers : (h : ℕ) → known.routine h ≡ numbered R h
  pub callable : (i k : ℕ) → IsName known.W i → meaning known.S (spelled known.W i) ≡ the_routine k → k < length R
  -- 1 as a cell of the table has it: a name means a parameter or data of the routine exactly where it is named like one, so that no loop hides these
  pub owns : Owns 1 known.S.own known.S
  pub quoted : (i : ℕ) → sort_in known.W i ≡ STRING → Quoted text (nth known.W i)
  -- sorts are lower than the ops of steps
  pub sorts : (i : ℕ) → sort_in known.W i < a_target

-- what of it stays the same through the routine
unfoldable pub ground_of : {text values : List ℕ} → Around text values → Ground
ground_of {text} a = record {
  m = a.known.m;
  function = is_some a.K.result;
  text = text;
  R = a.R;
  W = a.known.W;
  M = a.M;
  offset = offset_in a.known.W;
}

-- ---- the code store
-- The words from `at` up to `to`, and the word `to`, are as they were loaded: heads, places, and the length of a string.
pub record Unread (W : List Word) (code : List ℕ) (at to : ℕ) : Type 0 where
  pub loaded : Loaded W code at to
  pub strings : (i : ℕ) → at ≤ i → i ≤ to → sort_in W i ≡ STRING → value_at (cells_of code) i ≡ length (nth W i).covers
  pub places : (i : ℕ) → at ≤ i → i ≤ to → place_at (cells_of code) i ≡ (nth W i).place

-- D has the heads of C but for the words from `at` up to `to`, and the word `to`.
pub record Apart (C D : List ℕ) (at to : ℕ) : Type 0 where
  pub below : (i : ℕ) → i < at → head_at D i ≡ head_at C i
  pub above : (i : ℕ) → to < i → head_at D i ≡ head_at C i

-- The cells say the signatures of all routines, whatever is written from `at` up to `to`: no routine's head is there.
pub record Calls {text values : List ℕ} (a : Around text values) (code : List ℕ) (at to : ℕ) : Type 0 where
  pub heads : (D : List ℕ) → Apart (cells_of code) D at to → Heads D a.R a.K.routines
  pub room : store_bytes ≤ length code

-- ---- the setting
-- what the paper's routine gives back is what the code says of it
pub record ResultIs (o : math.Option DataType) (result : Option ValueType) : Type 0 where
  pub is : o ≡ given_back result

-- a list as the code names it
unfoldable pub list_code : checks.WhichList → WhichList
list_code the_body = Body
list_code the_handler = Handler
list_code the_undo = Undo

pub record Tells (k : Setting) (K : checks.Setting) : Type 0 where
  pub result : ResultIs K.result k.result
  pub list : k.list ≡ list_code K.list
