-- What the check of an expression knows: the words of the text as they were loaded, and what names mean.
use Rattle.std.specs.Prelude.{◌≡◌, Bool, true, false, List, ℕ, ◌+◌, ◌*◌, ◌%◌, ◌<◌, ◌≤◌, length}
use Rattle.paper.specs.Sorts.{NUMBER}
use Rattle.paper.specs.Words.{Word, word_limit}
use Rattle.paper.specs.Terms.{Ref, of_module, of_routine}
use Rattle.paper.specs.Names.{Meaning, unknown, variable, array, constant, loop, the_routine, the_errno, error_number, Scopes, nth, sort_in, spelled, meaning}
use Rattle.store_cells.specs.Cells.{cells_of}
use Rattle.code.specs.Cells.{first_window, op_at, value_at}
use Rattle.check_names.specs.Numbers.{number_of, IsName}
use Rattle.check_names.specs.Meanings.{Means}
use Rattle.check_names.specs.Promises.{store_bytes, number_at}

-- ---- words
-- Word i is as it was loaded: its sort is its op, and its value what a number is, or a name's number with something above it. `C` is the code store's cells.
pub record Fresh (W : List Word) (C : List ℕ) (i : ℕ) : Type 0 where
  pub sort : op_at C i ≡ sort_in W i
  pub value : sort_in W i ≡ NUMBER → value_at C i ≡ (nth W i).value
  pub number : IsName W i → number_at C i ≡ number_of W i

-- The words from `at` up to `to`, and the word `to`, are as they were loaded.
pub record Loaded (W : List Word) (code : List ℕ) (at to : ℕ) : Type 0 where
  pub words : (i : ℕ) → at ≤ i → i ≤ to → Fresh W (cells_of code) i
  pub last : to < word_limit
  pub room : to * 8 + 8 ≤ length code
  -- the store has no part of a word
  pub whole : length code % 8 ≡ 0

-- ---- meanings
-- the largest number of a text
abbrev pub largest : ℕ
largest = 8388608

-- So many words from a word on are words of the module, which has m, or of the routine, which has n.
unfoldable pub InRoom : (m n : ℕ) → Ref → (size : ℕ) → Type 0
InRoom m n (of_module k) size = k + size ≤ m
InRoom m n (of_routine k) size = k + size ≤ n

-- Words that a name stands for.
pub record HeldSlots : Type 0 where
  pub first : Ref
  pub size : ℕ
  -- a constant's
  pub fixed : Bool
  -- declared by a scope's data or parameters, and not by a FOR
  pub declared : Bool

-- What a name holds, by what it means: words, a number, or nothing that is in a store.
pub data Held : Type 0 where
  nothing : Held
  words : HeldSlots → Held
  number : ℕ → Held

abbrev pub held_by : Meaning → Held
held_by unknown = nothing
held_by (variable t r) = words (record { first = r; size = 1; fixed = false; declared = true })
held_by (array t r size) = words (record { first = r; size = size; fixed = false; declared = true })
held_by (constant t r) = words (record { first = r; size = 1; fixed = true; declared = true })
held_by (loop r) = words (record { first = r; size = 1; fixed = false; declared = false })
held_by (the_routine k) = nothing
held_by the_errno = nothing
held_by (error_number k) = number k

-- What is asked of a name that holds words, and of one that is a number.
abbrev pub Holds : (HeldSlots → Type 0) → (ℕ → Type 0) → Held → Type 0
Holds F G nothing = Unit {0}
Holds F G (words w) = F w
Holds F G (number k) = G k

-- Its words are among those of the module and of the routine; a number is one that a text can have.
unfoldable pub Within : (m n : ℕ) → Meaning → Type 0
Within m n a = Holds (λ w. InRoom m n w.first w.size) (λ k. k ≤ largest) (held_by a)

-- The text's words, what its names mean by the table in the value store, and how many words of data there are.
pub record Known (values : List ℕ) : Type 0 where
  pub W : List Word
  pub S : Scopes
  -- the number of the routine that begins at a word
  pub routine : ℕ → ℕ
  pub m : ℕ
  pub n : ℕ
  pub most : m ≤ first_window
  pub table : store_bytes ≤ length values
  pub means : Means routine W S (cells_of values)
  pub within : (i : ℕ) → IsName W i → Within m n (meaning S (spelled W i))
  pub small : (i : ℕ) → sort_in W i ≡ NUMBER → (nth W i).value ≤ largest
