-- What the check of a routine asks of the two stores, and what it answers.
use Rattle.layout.specs.Broken.{as_fault}
use Rattle.std.specs.Prelude.{◌≡◌, false, List, [], ◌∷◌, ℕ, ◌+◌, ◌*◌, ◌<◌, ◌≤◌, length, get_or, drop, Ok, Err}
use Rattle.paper.specs.Sorts.{STRING}
use Rattle.paper.specs.Words.{Word}
use Rattle.paper.specs.Trees.{Routine, Module}
use Rattle.paper.specs.Names.{Text, nth, sort_in}
use Rattle.paper.specs.Declarations.{data_texts, routine_names, module_filling, module_data, signatures}
use Rattle.paper.specs.Checks.{routine_faults}
use Rattle.store_cells.specs.Cells.{cells_of}
use Rattle.code.specs.Cells.{head_at}
use Rattle.code.specs.Steps.{a_target, numbered}
use Rattle.code.specs.Signatures.{Heads}
use Rattle.check_names.specs.Promises.{store_bytes}
use Rattle.grammar.specs.Form.{Parses, RoutineAt}
use Rattle.faults.specs.First.{First}
use Rattle.faults.specs.Left.{head_faults, own_faults}
use Rattle.check_links.specs.Raw.{Ground}
use Rattle.check_heads.specs.Trees.{head_for, heads_for, earlier_of}
use Rattle.check_sites.specs.Sites.{the_module, Filled}
use Rattle.check_around.specs.Around.{Quoted, offset_in, Unread}
use Rattle.check_program.specs.Routines.{RawRoutine}
use Rattle.check_names.specs.Scopes.{Walked}

-- ---- one routine of a module
-- Routine k of the module is r; it stands from word h up to `to`. `earlier` are the texts of the names that were declared before its own.
pub record Stands (text : List ℕ) (k h : ℕ) : Type 0 where
  pub W : List Word
  pub m : Module
  pub r : Routine
  pub rest : List Routine
  pub earlier : List Text
  pub to : ℕ
  pub form : RoutineAt (sort_in W) (Parses (sort_in W)) r h to
  pub nth-is : drop k m.routines ≡ r ∷ rest
  pub number_is : numbered (heads_for m.routines) h ≡ k
  pub earlier-is : earlier ≡ earlier_of W (data_texts W m.declared) k m.routines
  pub quoted : (i : ℕ) → sort_in W i ≡ STRING → Quoted text (nth W i)
  pub sorts : (i : ℕ) → sort_in W i < a_target

-- The value store says what the module's data and routines are, and nothing else.
abbrev pub ModuleFilled : List Word → Module → (values : List ℕ) → Type 0
ModuleFilled W m values =
    Filled W (numbered (heads_for m.routines)) (the_module (routine_names W (data_texts W m.declared) 0 m.routines)) (module_data W m) values

-- what is written of any routine of the module is read by this
unfoldable pub ground_of : (text : List ℕ) → List Word → Module → Ground
ground_of text W m = record {
  m = length (module_data W m).words;
  function = false;
  text = text;
  R = heads_for m.routines;
  W = W;
  M = (module_filling W []).memory_with (module_data W m).words;
  offset = offset_in W;
}

-- ---- the code store
-- D has the heads of C but for words of the routine r, which stands from h up to `to`. Its first two words and its parameters' types, which callers read, are the same too.
pub record Spares (C D : List ℕ) (r : Routine) (h to : ℕ) : Type 0 where
  pub below : (i : ℕ) → i < h → head_at D i ≡ head_at C i
  pub above : (i : ℕ) → to ≤ i → head_at D i ≡ head_at C i
  pub first : head_at D h ≡ head_at C h
  pub second : head_at D (h + 1) ≡ head_at C (h + 1)
  pub types : (j : ℕ) → j < length r.parameters → head_at D (r.name + 2 + 3 * j) ≡ head_at C (r.name + 2 + 3 * j)

-- ---- what is asked
-- The check has come to the routine: its words are as they were loaded (types, and its first word, may have values), and the cells say the signatures of all routines, whatever is
-- written over the other words of this one.
pub record Begins (text code values : List ℕ) (k h : ℕ) : Type 0 where
  pub stands : Stands text k h
  pub filled : ModuleFilled stands.W stands.m values
  pub unread : Unread stands.W code h stands.form.end
  pub calls : (D : List ℕ) → Spares (cells_of code) D stands.r h stands.to → Heads D (heads_for stands.m.routines) (signatures stands.W stands.m 0 stands.m.routines)
  pub room : store_bytes ≤ length code

-- ---- answers
-- Of a routine whose name can be declared: no rule is broken, what a run has to know of it is written over its words and nowhere else, and its scope is left again.
pub record Goes {text code values : List ℕ} {k h : ℕ} (b : Begins text code values k h) (code' values' : List ℕ) (next : ℕ) : Type 0 where
  pub next-is : next ≡ b.stands.to
  pub none : routine_faults b.stands.W b.stands.m (signatures b.stands.W b.stands.m 0 b.stands.m.routines) k b.stands.r ≡ []
  pub raw : RawRoutine (ground_of text b.stands.W b.stands.m) (cells_of code') b.stands.m b.stands.r (head_for b.stands.r) b.stands.to
  pub filled : ModuleFilled b.stands.W b.stands.m values'
  pub spares : Spares (cells_of code) (cells_of code') b.stands.r h b.stands.to
  pub below : (i : ℕ) → i < h * 2 → get_or (cells_of code') i 0 ≡ get_or (cells_of code) i 0
  pub above : (i : ℕ) → b.stands.to * 2 ≤ i → get_or (cells_of code') i 0 ≡ get_or (cells_of code) i 0

pub record Walks {text code values : List ℕ} {k h : ℕ} (b : Begins text code values k h) (code' values' : List ℕ) (next : ℕ) : Type 0 where
  pub none-in-head : head_faults b.stands.W b.stands.earlier k b.stands.r ≡ []
  pub goes : Goes b code' values' next

unfoldable pub Says : {text code values : List ℕ} {k h : ℕ} (b : Begins text code values k h) (code' values' : List ℕ) → Walked → Type 0
Says b code' values' (Ok (next, scope)) = Walks b code' values' next
Says {k = k} b code' values' (Err broken) = First (as_fault broken) (own_faults b.stands.W b.stands.m b.stands.earlier k b.stands.r)

-- Where a rule is broken nothing is promised of the stores.
pub record Checks (text code values code' values' : List ℕ) (k h : ℕ) (r : Walked) : Type 0 where
  pub is : (b : Begins text code values k h) → Says b code' values' r
