-- One parameter.
use Rattle.layout.specs.Broken.{as_fault}
use Rattle.std.specs.Prelude.{◌≡◌, List, [], ◌∷◌, ℕ, ◌+◌, length, pos, Ok, Err}
use Rattle.paper.specs.Words.{Word}
use Rattle.paper.specs.Trees.{Parameter, Module}
use Rattle.paper.specs.Names.{type_of, variable, sort_in}
use Rattle.paper.specs.Declarations.{Data, declare_name}
use Rattle.store_cells.specs.Cells.{cells_of}
use Rattle.grammar.specs.Form.{Parses, ParameterAt}
use Rattle.faults.specs.First.{First}
use Rattle.faults.specs.Added.{name_faults}
use Rattle.check_expressions.specs.Known.{Loaded}
use Rattle.check_names.specs.Scopes.{Walked}
use Rattle.check_sites.specs.Sites.{a_routine, filling, Filled}
use Rattle.check_sites.specs.Walks.{KeepsName}
use Rattle.check_parameters.specs.Answers.{OtherWords}

pub record ParameterBegins (code values : List ℕ) (used i : ℕ) : Type 0 where
  pub W : List Word
  pub routine : ℕ → ℕ
  pub m : Module
  pub D : Data
  pub p : Parameter
  pub to : ℕ
  pub used-is : used ≡ length D.words
  pub filled : Filled W routine (a_routine m) D values
  pub stands : ParameterAt (sort_in W) (Parses (sort_in W)) p i to
  pub loaded : Loaded W code i to

abbrev pub parameter_after : {code values : List ℕ} {used i : ℕ} → ParameterBegins code values used i → Data
parameter_after b = declare_name b.W (filling b.W (a_routine b.m)) b.p.name (variable (type_of b.p.type)) (pos 0 ∷ []) [] b.D

pub record ParameterGoes {code values : List ℕ} {used i : ℕ} (b : ParameterBegins code values used i) (code' values' : List ℕ) (next used' : ℕ) : Type 0 where
  pub none : name_faults b.W (filling b.W (a_routine b.m)) b.p.name (pos 0 ∷ []) b.D ≡ []
  pub next-is : next ≡ b.to
  pub used-is : used' ≡ used + 1
  pub filled : Filled b.W b.routine (a_routine b.m) (parameter_after b) values'
  pub keeps : KeepsName b.routine b.W (a_routine b.m) (cells_of code') (i + 1)
  pub others : OtherWords (cells_of code) (cells_of code') i 1

unfoldable pub SaysParameter : {code values : List ℕ} {used i : ℕ} (b : ParameterBegins code values used i) (code' values' : List ℕ) → Walked → Type 0
SaysParameter b code' values' (Ok (next, scope)) = ParameterGoes b code' values' next scope.used
SaysParameter b code' values' (Err broken) = First (as_fault broken) (name_faults b.W (filling b.W (a_routine b.m)) b.p.name (pos 0 ∷ []) b.D)

pub record DeclaresParameter (code values code' values' : List ℕ) (used i : ℕ) (r : Walked) : Type 0 where
  pub is : (b : ParameterBegins code values used i) → SaysParameter b code' values' r
