-- What the walk over a routine's parameters promises, and what it asks of the two stores.
use Rattle.layout.specs.Broken.{as_fault}
use Rattle.std.specs.Prelude.{◌≡◌, false, List, [], map, ℕ, ◌+◌, ◌*◌, ◌/◌, ◌<◌, length, get_or, replicate, pos, Ok, Err}
use Rattle.paper.specs.Words.{Word}
use Rattle.paper.specs.Trees.{Parameter, Module}
use Rattle.paper.specs.Names.{Text, text_of, sort_in, spelled, is_among}
use Rattle.paper.specs.Declarations.{Data, no_data, declare_parameters}
use Rattle.store_cells.specs.Cells.{cells_of}
use Rattle.grammar.specs.Form.{Parses, ParametersAt}
use Rattle.faults.specs.First.{First}
use Rattle.faults.specs.Added.{parameter_faults}
use Rattle.check_expressions.specs.Known.{Loaded}
use Rattle.check_names.specs.declared.Scope.{Scope}
use Rattle.check_names.specs.Scopes.{Walked}
use Rattle.check_sites.specs.Sites.{a_routine, filling, Filled}
use Rattle.check_sites.specs.Walks.{KeepsAll, name_words}

-- ---- the scope
-- nothing is declared in it yet
pub record Unopened (s : Scope) : Type 0 where
  pub no_word : s.used ≡ 0
  pub no_name : s.names ≡ 0

-- so many parameters are declared in it, and nothing else
abbrev pub with_parameters : (count : ℕ) → Scope → Scope
with_parameters count s = record { used = count; loops = s.loops; names = count; first = s.first; head = s.head }

-- r is scope s with so many names opened as words are used
pub record Opened (s r : Scope) : Type 0 where
  pub is : r ≡ with_parameters r.used s

-- The walk hands back the scope that went in, with its parameters opened.
abbrev pub Opens : Scope → Walked → Type 0
Opens s (Ok (next, r)) = Opened s r
Opens s (Err broken) = Unit {0}

-- ---- the walk
pub record ParametersStand (code values : List ℕ) (at : ℕ) : Type 0 where
  pub W : List Word
  pub routine : ℕ → ℕ
  pub m : Module
  pub ps : List Parameter
  pub to : ℕ
  pub filled : Filled W routine (a_routine m) no_data values
  pub stand : ParametersAt (sort_in W) (Parses (sort_in W)) ps at to
  pub loaded : Loaded W code at to

abbrev pub parameters_after : {code values : List ℕ} {at : ℕ} → ParametersStand code values at → Data
parameters_after b = declare_parameters b.W (filling b.W (a_routine b.m)) b.ps no_data

-- No cell has changed but those of these words.
pub record OtherWords (C E : List ℕ) (first count : ℕ) : Type 0 where
  pub is : (k : ℕ) → ((j : ℕ) → j < count → k / 2 ≡ first + 3 * j + 1 → ⊥) → get_or E k 0 ≡ get_or C k 0

pub record ParametersFilled {code values : List ℕ} {at : ℕ} (b : ParametersStand code values at) (code' values' : List ℕ) (next used : ℕ) : Type 0 where
  pub none : parameter_faults b.W (filling b.W (a_routine b.m)) b.ps no_data ≡ []
  pub next-is : next ≡ b.to
  pub used-is : used ≡ length b.ps
  pub words_are : (parameters_after b).words ≡ replicate (length b.ps) (pos 0)
  pub filled : Filled b.W b.routine (a_routine b.m) (parameters_after b) values'
  pub keeps : KeepsAll b.routine b.W (a_routine b.m) (cells_of code') (name_words at used)
  pub covers : (u : Text) → is_among (map (spelled b.W) (name_words at used)) u ≡ false → is_among (map text_of (parameters_after b).names) u ≡ false
  -- nothing has changed but the words of the names
  pub others : OtherWords (cells_of code) (cells_of code') at used

unfoldable pub SaysParameters : {code values : List ℕ} {at : ℕ} (b : ParametersStand code values at) (code' values' : List ℕ) → Walked → Type 0
SaysParameters b code' values' (Ok (next, scope)) = ParametersFilled b code' values' next scope.used
SaysParameters b code' values' (Err broken) =
    First (as_fault broken) (parameter_faults b.W (filling b.W (a_routine b.m)) b.ps no_data)

pub record DeclaresParameters (code values code' values' : List ℕ) (at : ℕ) (r : Walked) : Type 0 where
  pub is : (b : ParametersStand code values at) → SaysParameters b code' values' r
