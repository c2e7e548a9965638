-- The parts of checking a routine.
use Rattle.layout.specs.Broken.{as_fault}
use Rattle.layout.specs.declared.types.ValueType.{ValueType}
use Rattle.layout.specs.declared.types.ValueType.TheVariants as types
use Rattle.std.specs.Prelude.{◌≡◌, Bool, false, List, [], ℕ, ◌+◌, ◌*◌, ◌<◌, ◌≤◌, eqb, length, get_or, if◌then◌else◌, Option, Some, None, Ok, Err}
use Rattle.std.proofs.Math.Option as math
use Rattle.std.proofs.Math.Option.{none, some}
use Rattle.paper.specs.Sorts.{PROC, BOOL}
use Rattle.paper.specs.Trees.{RoutineList, Routine, Module}
use Rattle.paper.specs.Names.{sort_in}
use Rattle.paper.specs.Types.{Fault}
use Rattle.paper.specs.Declarations.{routine_limit, crosses, result_asked, routine_data, routine_scopes, signatures}
use Rattle.paper.specs.Checks.{WhichList, the_body, the_handler, the_undo, fors_in_optional, optional_faults, setting_in, routine_faults}
use Rattle.paper.specs.Steps.{fors_of}
use Rattle.store_cells.specs.Cells.{cells_of}
use Rattle.code.specs.Cells.{value_in, op_at, place_at, link_at}
use Rattle.code.specs.Steps.{numbered, the_parameters}
use Rattle.code.specs.Signatures.{Heads}
use Rattle.check_names.specs.Meanings as meanings
use Rattle.check_names.specs.Promises.{store_bytes}
use Rattle.store_evaluation.specs.Answers.{call_slots}
use Rattle.grammar.specs.Form.{Parses, ListBehindAt}
use Rattle.faults.specs.First.{First}
use Rattle.faults.specs.Parts.{memory_of}
use Rattle.check_links.specs.Raw.{Ground, RawList, end_of}
use Rattle.check_heads.specs.Trees.{heads_for}
use Rattle.check_sites.specs.Sites.{a_routine, Filled}
use Rattle.check_around.specs.declared.Setting.{Setting}
use Rattle.check_around.specs.Around.{Unread, Apart, ResultIs, Tells}
use Rattle.check_names.specs.declared.Scope.{Scope}
use Rattle.check_names.specs.Scopes.{Walked}
use Rattle.check_names.specs.Scopes.{Grown, OfRoutine}
use Rattle.check_statements.specs.Answers.{SameValues, Answer}
use Rattle.check_parameters.specs.Answers.{DeclaresParameters}
use Rattle.check_declarations.specs.Answers.{DeclaresRoutine}
use Rattle.check_program.specs.Routines.{ground_for, slots_of_data, words_in_all, used_by_body, used_by_both, RawLines, RawOptional}
use Rattle.check_routines.specs.Answers.{Stands, ground_of, Begins, Goes}

-- ---- the head
-- A cell of the table says that its name is the routine that begins at h.
unfoldable pub names_routine : (cell h : ℕ) → Bool
names_routine cell h = if eqb (meanings.kind_in cell) meanings.a_routine then eqb (value_in cell) h else false

-- what it gives back: none of a PROC
unfoldable pub result_in : (C : List ℕ) → (h : ℕ) → Option ValueType
result_in C h = if eqb (op_at C h) PROC then None else if eqb (op_at C (h + 1)) BOOL then Some types.Bool else Some types.Num

-- "PROC name", "FUNC type name"
unfoldable pub name_with : (result : Option ValueType) (h : ℕ) → ℕ
name_with None h = h + 1
name_with (Some type) h = h + 2

-- The parenthesis before the parameters ends the data, and has how many FOR variables there are as its place; the routine's first word has the first word of its list as its place.
pub record Finishes (before after : List ℕ) (h opens at fors : ℕ) : Type 0 where
  pub place_is : place_at (cells_of after) h ≡ at
  pub link-is : link_at (cells_of after) h ≡ link_at (cells_of before) h
  pub op-is : op_at (cells_of after) opens ≡ the_parameters
  pub fors-is : place_at (cells_of after) opens ≡ fors
  pub others : (k : ℕ) → (k ≡ h * 2 + 1 → ⊥) → (k ≡ opens * 2 → ⊥) → (k ≡ opens * 2 + 1 → ⊥) → get_or (cells_of after) k 0 ≡ get_or (cells_of before) k 0

-- where the list begins that stands behind the word e and is closed by z; 0 is no step, and says that there is none
unfoldable pub first_behind : (e z : ℕ) → ℕ
first_behind e z = if eqb z e then 0 else e + 1

-- The words e, z and w that close the lists are their ends. Of an optional list that is not there the word is that of the list before it.
pub record Closes (before after : List ℕ) (function : Bool) (h e z w : ℕ) : Type 0 where
  pub body : op_at (cells_of after) e ≡ end_of the_body function
  pub handler : op_at (cells_of after) z ≡ end_of the_handler function
  pub undo : (w ≡ z → ⊥) → op_at (cells_of after) w ≡ end_of the_undo function
  -- the second word of the routine leads to its ERROR list, and has the first word of its UNDO list as its place
  pub link-is : link_at (cells_of after) (h + 1) ≡ first_behind e z
  pub place_is : place_at (cells_of after) (h + 1) ≡ first_behind z w
  pub others : (k : ℕ) → (k ≡ e * 2 → ⊥) → (k ≡ z * 2 → ⊥) → (k ≡ w * 2 → ⊥) → (k ≡ h * 2 + 3 → ⊥) → get_or (cells_of after) k 0 ≡ get_or (cells_of before) k 0

-- ---- in a routine
-- Its parameters and data are declared, and break no rule.
pub record Inside (text values : List ℕ) (k h : ℕ) : Type 0 where
  pub stands : Stands text k h
  pub filled : Filled stands.W (numbered (heads_for stands.m.routines)) (a_routine stands.m) (routine_data stands.W stands.m stands.r) values
  pub none : (routine_data stands.W stands.m stands.r).faults ≡ []
  pub fits : crosses routine_limit k 1 ≡ false

-- The check comes to the word `at`: what is left of the routine is as it was loaded, and no routine's signature stands in it.
pub record Onward {text values : List ℕ} {k h : ℕ} (s : Inside text values k h) (code : List ℕ) (at : ℕ) : Type 0 where
  pub unread : Unread s.stands.W code at s.stands.form.end
  pub calls : (D : List ℕ) → Apart (cells_of code) D at s.stands.form.end → Heads D (heads_for s.stands.m.routines) (signatures s.stands.W s.stands.m 0 s.stands.m.routines)
  pub room : store_bytes ≤ length code

abbrev pub ground_in : {text values : List ℕ} {k h : ℕ} → Inside text values k h → Ground
ground_in {text = text} s = ground_of text s.stands.W s.stands.m

abbrev pub data_slots : {text values : List ℕ} {k h : ℕ} → Inside text values k h → ℕ
data_slots s = slots_of_data (ground_in s) s.stands.m s.stands.r

abbrev pub faults_in : {text values : List ℕ} {k h : ℕ} → Inside text values k h → List Fault
faults_in {k = k} s = routine_faults s.stands.W s.stands.m (signatures s.stands.W s.stands.m 0 s.stands.m.routines) k s.stands.r

-- ---- a list that a routine may have or not
-- Word e closes the list before it; where it is of the sort that leads this one, it stands behind it, up to the word `to`.
pub record BehindStands (text code values : List ℕ) (setting : Setting) (used leader e : ℕ) : Type 0 where
  pub k : ℕ
  pub h : ℕ
  pub inside : Inside text values k h
  pub which : WhichList
  pub o : math.Option RoutineList
  pub to : ℕ
  pub form : ListBehindAt (sort_in inside.stands.W) (Parses (sort_in inside.stands.W)) leader o e to
  pub within : to ≤ inside.stands.form.end
  pub onward : Onward inside code e
  pub tells : Tells setting (setting_in inside.stands.W (signatures inside.stands.W inside.stands.m 0 inside.stands.m.routines) k inside.stands.r which)
  pub many : data_slots inside ≤ used
  pub few : used ≤ call_slots
  pub room : used + fors_in_optional o ≤ words_in_all (ground_in inside) inside.stands.m inside.stands.r

-- its statements, without its end
unfoldable pub LinesBehind : (g : Ground) (C : List ℕ) (m : Module) → Routine → math.Option RoutineList → (used e : ℕ) → Type 0
LinesBehind g C m r none used e = Unit {0}
LinesBehind g C m r (some l) used e = RawList (ground_for g m r) (words_in_all g m r) C l.statements (routine_scopes g.W m r) used (e + 1) l.closes

pub record Behind (text code values code' values' : List ℕ) (setting : Setting) (used leader e : ℕ) (r : Walked) : Type 0 where
  pub is : (s : BehindStands text code values setting used leader e)
      → Answer
      (optional_faults s.inside.stands.W
      (setting_in s.inside.stands.W (signatures s.inside.stands.W s.inside.stands.m 0 s.inside.stands.m.routines) s.k s.inside.stands.r s.which)
      (memory_of s.inside.stands.W s.inside.stands.m s.inside.stands.r) (routine_scopes s.inside.stands.W s.inside.stands.m s.inside.stands.r) used s.o)
      code code' values values' (e + 1) s.to (used + fors_in_optional s.o)
      (LinesBehind (ground_in s.inside) (cells_of code') s.inside.stands.m s.inside.stands.r s.o used e) r

-- ---- all lists
-- They begin at the word `at`, behind the data.
pub record ListsStand (text code values : List ℕ) (result : Option ValueType) (data-words h at : ℕ) : Type 0 where
  pub k : ℕ
  pub inside : Inside text values k h
  pub begins : at ≡ inside.stands.form.begin
  pub onward : Onward inside code at
  pub result-is : ResultIs (result_asked inside.stands.W k inside.stands.r.result) result
  pub used-is : data-words ≡ data_slots inside

pub record ListsDone {text code values : List ℕ} {result : Option ValueType} {data-words h at : ℕ} (s : ListsStand text code values result data-words h at) (code' values' : List ℕ) (next used : ℕ) : Type 0 where
  pub none : faults_in s.inside ≡ []
  pub next-is : next ≡ s.inside.stands.to
  pub used-is : used ≡ data-words + fors_of s.inside.stands.W s.inside.stands.r
  pub few : used ≤ call_slots
  pub body : RawLines (ground_in s.inside) (cells_of code') s.inside.stands.m s.inside.stands.r the_body s.inside.stands.r.body data-words at
  pub handler : RawOptional (ground_in s.inside) (cells_of code') s.inside.stands.m s.inside.stands.r the_handler s.inside.stands.r.handler
      (used_by_body (ground_in s.inside) s.inside.stands.m s.inside.stands.r) s.inside.stands.r.body.closes (link_at (cells_of code') (h + 1))
  pub undo : RawOptional (ground_in s.inside) (cells_of code') s.inside.stands.m s.inside.stands.r the_undo s.inside.stands.r.undo
      (used_by_both (ground_in s.inside) s.inside.stands.m s.inside.stands.r) s.inside.stands.form.undo_at (place_at (cells_of code') (h + 1))
  -- nothing before them has changed but the tail of the routine's second word
  pub below : (i : ℕ) → i < at * 2 → (i ≡ h * 2 + 3 → ⊥) → get_or (cells_of code') i 0 ≡ get_or (cells_of code) i 0
  pub above : (i : ℕ) → s.inside.stands.to * 2 ≤ i → get_or (cells_of code') i 0 ≡ get_or (cells_of code) i 0
  pub same : SameValues values values'

unfoldable pub SaysLists : {text code values : List ℕ} {result : Option ValueType} {data-words h at : ℕ} (s : ListsStand text code values result data-words h at) (code' values' : List ℕ) → Walked → Type 0
SaysLists s code' values' (Ok (next, scope)) = ListsDone s code' values' next scope.used
SaysLists s code' values' (Err broken) = First (as_fault broken) (faults_in s.inside)

pub record Lists (text code values code' values' : List ℕ) (result : Option ValueType) (data-words h at : ℕ) (r : Walked) : Type 0 where
  pub is : (s : ListsStand text code values result data-words h at) → SaysLists s code' values' r

-- ---- all behind the name
pub record ScopeStands (text code values : List ℕ) (result : Option ValueType) (h name : ℕ) : Type 0 where
  pub k : ℕ
  pub begins : Begins text code values k h
  pub name-is : name ≡ begins.stands.r.name
  pub result-is : ResultIs (result_asked begins.stands.W k begins.stands.r.result) result
  pub fits : crosses routine_limit k 1 ≡ false

unfoldable pub SaysScope : {text code values : List ℕ} {result : Option ValueType} {h name : ℕ} (s : ScopeStands text code values result h name) (code' values' : List ℕ) → Walked → Type 0
SaysScope s code' values' (Ok (next, scope)) = Goes s.begins code' values' next
SaysScope s code' values' (Err broken) =
    First (as_fault broken)
    (routine_faults s.begins.stands.W s.begins.stands.m (signatures s.begins.stands.W s.begins.stands.m 0 s.begins.stands.m.routines) s.k s.begins.stands.r)

pub record Scoped (text code values code' values' : List ℕ) (result : Option ValueType) (h name : ℕ) (r : Walked) : Type 0 where
  pub is : (s : ScopeStands text code values result h name) → SaysScope s code' values' r

-- ---- the same from a word behind the name on
-- Its scope, entered from the outer one, has its parameters, which stand up to the parenthesis at `close`.
pub record ParametersDeclared (text code values : List ℕ) (result : Option ValueType) (outer own : Scope) (h name close : ℕ) : Type 0 where
  pub code₀ : List ℕ
  pub values₀ : List ℕ
  pub stands : ScopeStands text code₀ values₀ result h name
  pub entered : OfRoutine outer (name + 2) h own
  pub names-are : own.names ≡ own.used
  pub declares : DeclaresParameters code₀ values₀ code values (name + 2) (Ok (close, own))
  pub long : length code ≡ length code₀

pub record ParametersPassed (text code values code' values' : List ℕ) (result : Option ValueType) (outer own : Scope) (h name close : ℕ) (r : Walked) : Type 0 where
  pub is : (s : ParametersDeclared text code values result outer own h name close) → SaysScope s.stands code' values' r

-- It has its data too, up to the word `at`.
pub record DataStand (text code values : List ℕ) (result : Option ValueType) (outer taken : Scope) (h name at : ℕ) : Type 0 where
  pub close : ℕ
  pub code₁ : List ℕ
  pub values₁ : List ℕ
  pub opened : Scope
  pub own : ParametersDeclared text code₁ values₁ result outer opened h name close
  pub grown : Grown opened taken
  pub declares : DeclaresRoutine code₁ values₁ code values (name + 1) h opened.used (close + 1) (Ok (at, taken))
  pub long : length code ≡ length code₁

pub record DataPassed (text code values code' values' : List ℕ) (result : Option ValueType) (outer taken : Scope) (h name at : ℕ) (r : Walked) : Type 0 where
  pub is : (s : DataStand text code values result outer taken h name at) → SaysScope s.own.stands code' values' r
