-- The scope that a walk over declarations fills, and what the value store says of it.
use Rattle.std.specs.Prelude.{◌≡◌, true, List, ℕ, ◌<◌, ◌≤◌, length, get_or}
use Rattle.std.specs.Int.{w32}
use Rattle.std.proofs.Common.{to_z}
use Rattle.paper.specs.Sorts.{NUMBER}
use Rattle.paper.specs.Words.{Word}
use Rattle.paper.specs.Terms.{Ref, Memory, load}
use Rattle.paper.specs.Trees.{Module}
use Rattle.paper.specs.Names.{Meaning, Text, Names, Scopes, nth, sort_in, meaning}
use Rattle.paper.specs.Declarations.{Data, Filling, module_filling, routine_filling}
use Rattle.store_cells.specs.Cells.{cells_of}
use Rattle.code.specs.Cells.{first_window, errno_cell}
use Rattle.check_names.specs.Meanings.{Means}
use Rattle.check_names.specs.Promises.{store_bytes}
use Rattle.store_evaluation.specs.Answers.{call_slots}
use Rattle.check_expressions.specs.Known.{largest, InRoom, HeldSlots, held_by, Holds}
use Rattle.check_constants.specs.Answers.{cell_of, InNum}
unfoldable pub use Rattle.check_expressions.specs.Owned.{is_own, owned}
pub use Rattle.check_expressions.specs.Owned.{Owns}

-- ---- the two scopes that data are declared in
-- The module's, where the routines' names are known before, or a routine's of a module.
pub data Site : Type 0 where
  the_module : (routines : Names) → Site
  a_routine : Module → Site

unfoldable pub filling : List Word → Site → Filling
filling W (the_module routines) = module_filling W routines
filling W (a_routine m) = routine_filling W m

-- as a cell of the table has it
unfoldable pub own_of : Site → ℕ
own_of (the_module routines) = 0
own_of (a_routine m) = 1

abbrev pub scopes_of : List Word → Site → Data → Scopes
scopes_of W s D = (filling W s).scopes_with D.names

abbrev pub memory_of : List Word → Site → Data → Memory
memory_of W s D = (filling W s).memory_with D.words

-- ---- meanings
-- so many words from a word on are words of the memory
abbrev pub Among : Memory → Ref → (size : ℕ) → Type 0
Among M r size = InRoom (length M.module-words) (length M.routine-words) r size

-- What a name means has its words among those declared, and a constant's is a number of num.
pub record InPlace (M : Memory) (w : HeldSlots) : Type 0 where
  pub room : Among M w.first w.size
  pub some : 0 < w.size
  pub ranged : w.fixed ≡ true → InNum (load M w.first)

unfoldable pub Placed : Memory → Meaning → Type 0
Placed M a = Holds (InPlace M) (λ k. k ≤ largest) (held_by a)

-- ---- the value store
-- It says what D declares: the table has the names, and the cells of words have what these start with.
pub record Filled (W : List Word) (routine : ℕ → ℕ) (s : Site) (D : Data) (values : List ℕ) : Type 0 where
  pub table : store_bytes ≤ length values
  pub means : Means routine W (scopes_of W s D) (cells_of values)
  pub owns : Owns (own_of s) D.names (scopes_of W s D)
  pub placed : (text : Text) → Placed (memory_of W s D) (meaning (scopes_of W s D) text)
  pub cells : (r : Ref) → Among (memory_of W s D) r 1 → to_z w32 (get_or (cells_of values) (cell_of r) 0) ≡ load (memory_of W s D) r
  pub most : length (memory_of W s D).module-words ≤ first_window
  pub window : length (memory_of W s D).routine-words ≤ call_slots
  pub errno : get_or (cells_of values) errno_cell 0 ≡ 0
  pub small : (i : ℕ) → sort_in W i ≡ NUMBER → (nth W i).value ≤ largest
