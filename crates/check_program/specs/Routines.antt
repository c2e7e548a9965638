-- What the walk leaves in the code store of a routine and of the module, before it is resolved. Nothing is said of other cells.
use Rattle.std.specs.Prelude.{◌≡◌, false, List, [], ◌∷◌, ◌++◌, ℕ, ◌+◌, ◌<◌, ◌≤◌, length, replicate, pos}
use Rattle.std.proofs.Math.Option.{Option, none, some}
use Rattle.paper.specs.Trees.{RoutineList, Routine, Module}
use Rattle.paper.specs.Names.{sort_in}
use Rattle.paper.specs.Declarations.{routine_word_limit, module_word_limit, module_data, routine_data, routine_scopes}
use Rattle.paper.specs.Checks.{WhichList, the_body, the_handler, the_undo, fors_in_list, fors_in_optional, is_some}
use Rattle.paper.specs.Steps.{fors_of}
use Rattle.code.specs.Cells.{op_at, place_at, link_at}
use Rattle.code.specs.Steps.{Head, parts, the_parameters}
use Rattle.grammar.specs.Form.{Parses, RoutineAt}
use Rattle.faults.specs.Parts.{memory_of}
use Rattle.check_links.specs.Resolved.{is_led}
use Rattle.check_links.specs.Raw.{Ground, RawRoutineList}
use Rattle.store_writing.specs.Chains.{Chain, starts_in, Rise}

-- The ground of one of the module's routines: from routine to routine only this differs, whether it is a FUNC and what its constants read.
unfoldable pub ground_for : Ground → Module → Routine → Ground
ground_for g m r = record {
  m = length (module_data g.W m).words;
  function = is_some r.result;
  text = g.text;
  R = g.R;
  W = g.W;
  M = memory_of g.W m r;
  offset = g.offset;
}

-- ---- a routine
-- how many words of data it has, and how many with its FOR variables
module _ (g : Ground) (m : Module) (r : Routine) where
  abbrev pub slots_of_data : ℕ
  slots_of_data = length (routine_data g.W m r).words

  abbrev pub words_in_all : ℕ
  words_in_all = slots_of_data + fors_of g.W r

  -- how many are used where its ERROR list begins, and its UNDO list
  abbrev pub used_by_body : ℕ
  used_by_body = slots_of_data + fors_in_list r.body.statements

  abbrev pub used_by_both : ℕ
  used_by_both = used_by_body + fors_in_optional r.handler

module _ (g : Ground) (C : List ℕ) (m : Module) where
  abbrev pub RawLines : Routine → WhichList → RoutineList → (used at : ℕ) → Type 0
  RawLines r which l used at = RawRoutineList (ground_for g m r) (words_in_all g m r) C which l (routine_scopes g.W m r) used at

  -- A list behind the word that closes the one before it. What says where it begins says `leads`.
  pub record RawBehind (r : Routine) (which : WhichList) (l : RoutineList) (used closes leads : ℕ) : Type 0 where
    pub first : leads ≡ closes + 1
    pub list : RawLines r which l used (closes + 1)

  -- 0 is no step, and says that there is none
  unfoldable pub RawOptional : Routine → WhichList → Option RoutineList → (used closes leads : ℕ) → Type 0
  RawOptional r which none used closes leads = leads ≡ 0
  RawOptional r which (some l) used closes leads = RawBehind r which l used closes leads

  -- It stands from its first word up to `to`.
  pub record RawRoutine (r : Routine) (h : Head) (to : ℕ) : Type 0 where
    pub form : RoutineAt (sort_in g.W) (Parses (sort_in g.W)) r h.word to
    pub parameters : h.parameters ≡ length r.parameters
    pub function : h.function ≡ is_some r.result
    -- its first two words do not lead on; the first has the first word of its list as its place
    pub still : is_led (op_at C h.word) ≡ false
    pub still-next : is_led (op_at C (h.word + 1)) ≡ false
    pub starts : place_at C h.word ≡ form.begin
    pub body : RawLines r the_body r.body (slots_of_data g m r) form.begin
    -- its second word leads to its ERROR list, and has the first word of its UNDO list as its place
    pub handler : RawOptional r the_handler r.handler (used_by_body g m r) r.body.closes (link_at C (h.word + 1))
    pub undo : RawOptional r the_undo r.undo (used_by_both g m r) form.undo_at (place_at C (h.word + 1))
    -- the first words of its data, which the parenthesis before the parameters ends
    pub ds : List ℕ
    pub chain : Chain C h.word ds (r.name + 1)
    pub rise : Rise h.word form.begin ds
    pub words : (routine_data g.W m r).words ≡ replicate (length r.parameters) (pos 0) ++ starts_in C ds
    pub opens : op_at C (r.name + 1) ≡ the_parameters
    pub fors : place_at C (r.name + 1) ≡ fors_of g.W r
    pub room : words_in_all g m r ≤ routine_word_limit

  -- ---- routines one after another, with their heads
  pub data RawRoutines : List Routine → List Head → (at to : ℕ) → Type 0 where
    no-routine : {at to : ℕ} → to ≡ at → RawRoutines [] [] at to
    a-routine : {r : Routine} {rs : List Routine} {h : Head} {R : List Head} {at n to : ℕ} → h.word ≡ at → RawRoutine r h n → RawRoutines rs R n to → RawRoutines (r ∷ rs) (h ∷ R) at to

-- ---- the module, of so many words
pub record RawModule (g : Ground) (C : List ℕ) (m : Module) (words : ℕ) : Type 0 where
  -- the first word of the routines, and ENDMODULE
  pub begin : ℕ
  pub end : ℕ
  pub routines : RawRoutines g C m m.routines g.R begin end
  pub behind : 0 < begin
  pub inside : end < words
  pub few : words ≤ parts
  pub room : length (module_data g.W m).words ≤ module_word_limit
