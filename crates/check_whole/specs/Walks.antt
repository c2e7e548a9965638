-- What the check of a module's names and types promises: the first fault, or all that resolving needs to make the paper's program of the cells.
use Rattle.std.specs.Prelude.{◌≡◌, List, [], map, ℕ, ◌<◌, ◌≤◌, length, get_or, take, Option, None, Some, Result, Ok, Err}
use Rattle.std.proofs.Math.Option.{none, some}
use Rattle.std.specs.Int.{w32}
use Rattle.std.proofs.Common.{to_z}
use Rattle.paper.specs.Trees.{Module}
use Rattle.paper.specs.Expressions.{got}
use Rattle.paper.specs.Form.{formed}
use Rattle.paper.specs.Names.{sort_in}
use Rattle.paper.specs.Declarations.{module_data, signatures}
use Rattle.paper.specs.Checks.{faults, main_of}
use Rattle.paper.specs.Answer.{offset_of}
use Rattle.store_cells.specs.Cells.{cells_of}
use Rattle.code.specs.Steps.{no_head}
use Rattle.check_names.specs.Promises.{store_bytes}
use Rattle.check_load.specs.Layout.{words_in}
use Rattle.check_load.specs.Loads.{Loaded, Loads}
use Rattle.faults.specs.First.{First}
use Rattle.check_links.specs.Raw.{Ground}
use Rattle.check_program.specs.Routines.{RawRoutines, RawModule}
use Rattle.code.specs.Signatures.{Heads}
use Rattle.grammar.specs.Form.{Parses, RoutinesAt}
use Rattle.check_heads.specs.Trees.{heads_for}
use Rattle.check_around.specs.Around.{Unread}
use Rattle.layout.specs.Broken.{as_fault}
use Rattle.layout.specs.declared.rules.Breach.{Breach}
use Rattle.check_names.specs.Scopes.{Walked}
use Rattle.check_routines.specs.Answers.{ModuleFilled, ground_of}

-- what the walk over the names and types answers: how many words of data the module has, and the word that main begins with, if there is one; or the rule broken, and its word
abbrev pub Found : Type 0
Found = Result (ℕ × Option ℕ) Breach

-- Both stores, which are no longer than their cells, are as loading left them.
pub record Laid (text code values : List ℕ) (words : ℕ) : Type 0 where
  -- what was lent to the loading, and its answer
  pub code₀ : List ℕ
  pub values₀ : List ℕ
  pub answer : Loaded
  pub loads : Loads text code₀ values₀ answer code values
  pub many : words ≡ length (words_in text)
  pub code-room : length code ≡ store_bytes
  pub values-room : length values ≡ store_bytes

-- and the words form a module
pub record Formed (text code values : List ℕ) (words : ℕ) : Type 0 where
  pub laid : Laid text code values words
  pub m : Module
  pub form : formed (sort_in (words_in text)) ≡ got m

-- No rule from 10 to 17 is broken, and main is a routine without parameters. The code store has what the walk leaves of the module, and the value store begins with its words.
pub record Named (text : List ℕ) (m : Module) (count main : ℕ) (code' values' : List ℕ) : Type 0 where
  pub clear : faults (words_in text) m ≡ []
  pub g : Ground
  pub text-is : g.text ≡ text
  pub words_are : g.W ≡ words_in text
  pub heads-are : g.R ≡ heads_for m.routines
  pub offset-is : (i : ℕ) → i < length (words_in text) → g.offset i ≡ offset_of text (words_in text) i
  pub number : ℕ
  pub main-is : main_of (words_in text) m ≡ some number
  pub there : number < length g.R
  pub begins : (get_or g.R number no_head).word ≡ main
  pub alone : (get_or g.R number no_head).parameters ≡ 0
  pub raw : RawModule g (cells_of code') m (length (words_in text))
  pub count-is : count ≡ length (module_data (words_in text) m).words
  pub values-are : map (to_z w32) (take count (cells_of values')) ≡ (module_data (words_in text) m).words

pub record Nameless (text : List ℕ) (m : Module) : Type 0 where
  pub clear : faults (words_in text) m ≡ []
  pub main-is : main_of (words_in text) m ≡ none

-- by the answer
unfoldable pub Finds : (text : List ℕ) (m : Module) → Found → (code' values' : List ℕ) → Type 0
Finds text m (Ok (count, Some main)) code' values' = Named text m count main code' values'
Finds text m (Ok (count, None)) code' values' = Nameless text m
Finds text m (Err broken) code' values' = First (as_fault broken) (faults (words_in text) m)

-- ---- the routines
-- The module's data are declared, and break no rule; its routines stand from `at` up to the word ENDMODULE, which is `end`.
pub record RoutinesStand (text code values : List ℕ) (at end : ℕ) : Type 0 where
  pub m : Module
  pub form : RoutinesAt (sort_in (words_in text)) (Parses (sort_in (words_in text))) m.routines at end
  pub none : (module_data (words_in text) m).faults ≡ []
  pub filled : ModuleFilled (words_in text) m values
  pub unread : Unread (words_in text) code at end
  pub heads : Heads (cells_of code) (heads_for m.routines) (signatures (words_in text) m 0 m.routines)
  pub room : store_bytes ≤ length code

-- No rule is broken in them, and the walk has left in the code store what it leaves of each.
pub record RoutinesDone {text code values : List ℕ} {at end : ℕ} (b : RoutinesStand text code values at end) (code' values' : List ℕ) : Type 0 where
  pub clear : faults (words_in text) b.m ≡ []
  pub raw : RawRoutines (ground_of text (words_in text) b.m) (cells_of code') b.m b.m.routines (heads_for b.m.routines) at end
  pub filled : ModuleFilled (words_in text) b.m values'

unfoldable pub SaysRoutines : {text code values : List ℕ} {at end : ℕ} (b : RoutinesStand text code values at end) (code' values' : List ℕ) → Walked → Type 0
SaysRoutines b code' values' (Ok (next, scope)) = RoutinesDone b code' values'
SaysRoutines {text = text} b code' values' (Err broken) = First (as_fault broken) (faults (words_in text) b.m)

pub record RoutinesWalk (text code values code' values' : List ℕ) (at end : ℕ) (r : Walked) : Type 0 where
  pub is : (b : RoutinesStand text code values at end) → SaysRoutines b code' values' r

-- ---- the module
pub record Walks (text code values : List ℕ) (r : Found) (code' values' : List ℕ) : Type 0 where
  pub finds : (m : Module) → formed (sort_in (words_in text)) ≡ got m → Finds text m r code' values'
  pub code-long : length code' ≡ length code
  pub values-long : length values' ≡ length values
