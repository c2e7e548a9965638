-- What the check of a list of statements asks, and what it answers.
use Rattle.layout.specs.Broken.{as_fault}
use Rattle.std.specs.Prelude.{◌≡◌, List, [], ℕ, ◌+◌, ◌≤◌, length, Ok, Err}
use Rattle.paper.specs.Trees.{Statement, Statements}
use Rattle.paper.specs.Names.{sort_in}
use Rattle.paper.specs.Types.{Fault}
use Rattle.paper.specs.Checks.{fors_in, fors_in_list, statement_faults, list_faults}
use Rattle.store_cells.specs.Cells.{cells_of}
use Rattle.store_evaluation.specs.Answers.{call_slots}
use Rattle.grammar.specs.Form.{Parses, StatementAt, ListAt}
use Rattle.faults.specs.First.{First}
use Rattle.check_links.specs.Raw.{RawStatement, RawList}
use Rattle.check_around.specs.declared.Setting.{Setting}
use Rattle.check_around.specs.Around.{Around, ground_of}
use Rattle.check_names.specs.Scopes.{Walked}
use Rattle.check_compounds.specs.Here.{Outside, Here}

-- ---- what is asked
-- a statement from `at` on
pub record Stands (text code values : List ℕ) (k : Setting) (used at : ℕ) : Type 0 where
  pub to : ℕ
  pub around : Around text values
  pub here : Here around code k used at to
  pub d : ℕ
  pub s : Statement
  pub is : StatementAt (sort_in around.known.W) (Parses (sort_in around.known.W)) d s at to
  pub room : used + fors_in s ≤ around.known.n

-- a list, up to the word that closes it
pub record Lists (text code values : List ℕ) (k : Setting) (used at : ℕ) : Type 0 where
  pub to : ℕ
  pub around : Around text values
  pub here : Here around code k used at to
  pub d : ℕ
  pub l : Statements
  pub is : ListAt (sort_in around.known.W) (Parses (sort_in around.known.W)) d l at to
  pub room : used + fors_in_list l ≤ around.known.n

-- ---- the value store
-- The cells are as they were.
pub record SameValues (before after : List ℕ) : Type 0 where
  pub words : cells_of after ≡ cells_of before
  pub long : length after ≡ length before

-- ---- answers
-- A piece with these faults, from `at` up to `to`, has none: the next word is `to`, so many words of the routine are taken behind it, what is written holds, nothing else is changed.
pub record Done (fs : List Fault) (before after values values' : List ℕ) (at to count next u : ℕ) (holds : Type 0) : Type 0 where
  pub none : fs ≡ []
  pub next-is : next ≡ to
  pub used-is : u ≡ count
  pub few : u ≤ call_slots
  pub written : holds
  pub outside : Outside (cells_of before) (cells_of after) at to
  pub same : SameValues values values'

unfoldable pub Tell : (fs : List Fault) (before after values values' : List ℕ) (at to count : ℕ) (holds : Type 0) → Walked → Type 0
Tell fs before after values values' at to count holds (Ok (next, scope)) = Done fs before after values values' at to count next scope.used holds
Tell fs before after values values' at to count holds (Err broken) = First (as_fault broken) fs

-- Where a rule is broken nothing is promised of what is written.
pub record Answer (fs : List Fault) (before after values values' : List ℕ) (at to count : ℕ) (holds : Type 0) (r : Walked) : Type 0 where
  pub tells : Tell fs before after values values' at to count holds r
  pub long : length after ≡ length before

abbrev pub StatementAnswer : {text code values : List ℕ} {k : Setting} {used at : ℕ} → (g : Stands text code values k used at) → (after values' : List ℕ) → Walked → Type 0
StatementAnswer {code = code} {values = values} {used = used} {at = at} g after values' r =
    Answer (statement_faults g.around.known.W g.around.K g.around.M g.s g.around.known.S used) code after values values' at g.to (used + fors_in g.s)
    (RawStatement (ground_of g.around) g.around.known.n (cells_of after) g.s g.around.known.S used at g.to) r

pub record Stated (text code values after values' : List ℕ) (k : Setting) (used at : ℕ) (r : Walked) : Type 0 where
  pub is : (g : Stands text code values k used at) → StatementAnswer g after values' r

pub record Listed (text code values after values' : List ℕ) (k : Setting) (used at : ℕ) (r : Walked) : Type 0 where
  pub is : (g : Lists text code values k used at)
      → Answer (list_faults g.around.known.W g.around.K g.around.M g.l g.around.known.S used) code after values values' at g.to (used + fors_in_list g.l)
      (RawList (ground_of g.around) g.around.known.n (cells_of after) g.l g.around.known.S used at g.to) r

-- ---- a statement by its first word
pub record Begins (sort : ℕ) (text code values : List ℕ) (k : Setting) (used at : ℕ) : Type 0 where
  pub stands : Stands text code values k used at
  pub here-is : sort_in stands.around.known.W at ≡ sort

pub record Begun (sort : ℕ) (text code values after values' : List ℕ) (k : Setting) (used at : ℕ) (r : Walked) : Type 0 where
  pub is : (g : Begins sort text code values k used at) → StatementAnswer g.stands after values' r
