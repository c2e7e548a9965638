-- What walks over the data of the module and of a routine promise, and what they ask of the two stores.
use Rattle.layout.specs.Broken.{as_fault}
use Rattle.std.specs.Prelude.{◌≡◌, false, List, [], ◌++◌, map, ℕ, ◌+◌, ◌-◌, ◌*◌, ◌<◌, ◌≤◌, length, get_or, Ok, Err}
use Rattle.paper.specs.Words.{Word}
use Rattle.paper.specs.Trees.{Declared, Module}
use Rattle.paper.specs.Names.{Text, Names, text_of, sort_in, spelled, is_among}
use Rattle.paper.specs.Declarations.{Data, no_data, declare_data}
use Rattle.store_cells.specs.Cells.{cells_of}
use Rattle.code.specs.Cells.{place_at}
use Rattle.grammar.specs.Form.{Parses, DeclarationsAt}
use Rattle.faults.specs.First.{First}
use Rattle.faults.specs.Added.{data_faults}
use Rattle.check_expressions.specs.Known.{Loaded}
use Rattle.check_names.specs.Scopes.{Walked}
use Rattle.check_sites.specs.Sites.{the_module, a_routine, filling, Filled}
use Rattle.store_writing.specs.Chains.{Chain, starts_in, Rise}
use Rattle.check_sites.specs.Walks.{Changed, name_of, KeepsAll}

-- ---- the module's data
pub record DataStand (code values : List ℕ) (at : ℕ) : Type 0 where
  pub W : List Word
  pub routine : ℕ → ℕ
  pub routines : Names
  pub ds : List Declared
  pub to : ℕ
  pub filled : Filled W routine (the_module routines) no_data values
  pub stand : DeclarationsAt (sort_in W) (Parses (sort_in W)) ds at to
  pub loaded : Loaded W code at to

pub record ModuleFilled {code values : List ℕ} {at : ℕ} (b : DataStand code values at) (code' values' : List ℕ) (next used : ℕ) : Type 0 where
  pub none : data_faults b.W (filling b.W (the_module b.routines)) b.ds no_data ≡ []
  pub next-is : next ≡ b.to
  pub used-is : used ≡ length (declare_data b.W (filling b.W (the_module b.routines)) b.ds no_data).words
  pub filled : Filled b.W b.routine (the_module b.routines) (declare_data b.W (filling b.W (the_module b.routines)) b.ds no_data) values'
  pub changed : Changed (cells_of code) (cells_of code') at b.to

unfoldable pub SaysModule : {code values : List ℕ} {at : ℕ} (b : DataStand code values at) (code' values' : List ℕ) → Walked → Type 0
SaysModule b code' values' (Ok (next, scope)) = ModuleFilled b code' values' next scope.used
SaysModule b code' values' (Err broken) =
    First (as_fault broken) (data_faults b.W (filling b.W (the_module b.routines)) b.ds no_data)

pub record DeclaresModule (code values code' values' : List ℕ) (at : ℕ) (r : Walked) : Type 0 where
  pub is : (b : DataStand code values at) → SaysModule b code' values' r

-- ---- a routine's data
-- the word that a declaration begins with
unfoldable pub first_of : Declared → ℕ
first_of d = d.name - 2

-- The routine begins at word `head`; D, its parameters, is declared.
pub record RoutineStands (code values : List ℕ) (head used at : ℕ) : Type 0 where
  pub W : List Word
  pub routine : ℕ → ℕ
  pub m : Module
  pub D : Data
  pub ds : List Declared
  pub to : ℕ
  pub used-is : used ≡ length D.words
  pub before : head < at
  pub filled : Filled W routine (a_routine m) D values
  pub stand : DeclarationsAt (sort_in W) (Parses (sort_in W)) ds at to
  pub loaded : Loaded W code at to

abbrev pub routine_after : {code values : List ℕ} {head used at : ℕ} → RoutineStands code values head used at → Data
routine_after b = declare_data b.W (filling b.W (a_routine b.m)) b.ds b.D

-- every text of the names of E is one of D's, or of the names of these declarations
pub record CoversData (W : List Word) (D E : Data) (ds : List Declared) : Type 0 where
  pub is : (u : Text) → is_among (map text_of D.names) u ≡ false → is_among (map (spelled W) (map name_of (map first_of ds))) u ≡ false → is_among (map text_of E.names) u ≡ false

pub record RoutineFilled {code values : List ℕ} {head used at : ℕ} (b : RoutineStands code values head used at) (code' values' : List ℕ) (opens next used' : ℕ) : Type 0 where
  pub none : data_faults b.W (filling b.W (a_routine b.m)) b.ds b.D ≡ []
  pub next-is : next ≡ b.to
  pub used-is : used' ≡ length (routine_after b).words
  pub filled : Filled b.W b.routine (a_routine b.m) (routine_after b) values'
  pub chain : Chain (cells_of code') head (map first_of b.ds) opens
  pub rises : Rise head b.to (map first_of b.ds)
  pub words_are : (routine_after b).words ≡ b.D.words ++ starts_in (cells_of code') (map first_of b.ds)
  pub keeps : KeepsAll b.routine b.W (a_routine b.m) (cells_of code') (map name_of (map first_of b.ds))
  pub covers : CoversData b.W b.D (routine_after b) b.ds
  -- nothing else has changed but the link of the routine's first word
  pub below : (k : ℕ) → k < at * 2 → (k ≡ head * 2 + 1 → ⊥) → get_or (cells_of code') k 0 ≡ get_or (cells_of code) k 0
  pub place_is : place_at (cells_of code') head ≡ place_at (cells_of code) head
  pub above : (k : ℕ) → b.to * 2 ≤ k → get_or (cells_of code') k 0 ≡ get_or (cells_of code) k 0

unfoldable pub SaysRoutine : {code values : List ℕ} {head used at : ℕ} (b : RoutineStands code values head used at) (code' values' : List ℕ) (opens : ℕ) → Walked → Type 0
SaysRoutine b code' values' opens (Ok (next, scope)) = RoutineFilled b code' values' opens next scope.used
SaysRoutine b code' values' opens (Err broken) =
    First (as_fault broken) (data_faults b.W (filling b.W (a_routine b.m)) b.ds b.D)

pub record DeclaresRoutine (code values code' values' : List ℕ) (opens head used at : ℕ) (r : Walked) : Type 0 where
  pub is : (b : RoutineStands code values head used at) → SaysRoutine b code' values' opens r
