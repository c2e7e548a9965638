-- The parts of the check of a simple statement.
use Rattle.std.specs.Prelude.{◌≡◌, Bool, true, false, not, List, [], ◌∷◌, ◌++◌, map, ℕ, ◌+◌, ◌*◌, ◌-◌, ◌<◌, ◌≤◌, eqb, length, get_or, take, drop, if◌then◌else◌, Ok, Err, Result}
use Rattle.std.proofs.Math.Option.{none, some}
use Rattle.paper.specs.Sorts.{NAME, STRING, comma, semicolon, open_paren, close_paren, open_brace, becomes, FUNC}
use Rattle.paper.specs.Words.{QUOTE, Word, word_limit}
use Rattle.paper.specs.Terms.{Term}
use Rattle.paper.specs.Trees.{Expr, first, Target}
use Rattle.paper.specs.Expressions.{level_of, disjunctions}
use Rattle.paper.specs.Names.{DataType, type_of, refused_piece, Meaning, the_routine, wrong_name, sort_in, spelled, meaning}
use Rattle.paper.specs.Types.{Fault, fault, fault_if, differs, wanted, judge, of_type, term_of}
use Rattle.paper.specs.Types as types
use Rattle.paper.specs.Declarations.{Signature}
use Rattle.paper.specs.Checks.{judge_target, argument_faults, call_faults, result_faults, signature_of, no_signature}
use Rattle.paper.specs.Checks as checks
use Rattle.paper.specs.Steps.{Spot, scalar, element_of, unquoted, spot_of}
use Rattle.store_cells.specs.Cells.{cells_of}
use Rattle.code.specs.Cells.{op_in, value_in, head_at, op_at, value_at, place_at, link_at}
use Rattle.code.specs.Spans.{first_in, size_in, term_in}
use Rattle.code.specs.Steps.{a_target, a_next_argument, numbered}
use Rattle.code.specs.Signatures.{type_at, types_at}
use Rattle.check_names.specs.Promises.{store_bytes}
use Rattle.check_names.specs.Meanings.{meaning_with, ref_with}
use Rattle.grammar.specs.Form.{Parses, ExprAt, SeparatedAt, ArgumentsAt, TargetAt}
use Rattle.check_expressions.specs.Judgements.{Judged}
use Rattle.check_expressions.specs.Known.{Fresh, Loaded, InRoom, Known}
use Rattle.check_expressions.specs.Answers.{Judges}
use Rattle.check_expressions.specs.Answers as expressions
use Rattle.store_writing.specs.Promises.{Linked}
use Rattle.faults.specs.First.{First}
use Rattle.check_links.specs.Resolved.{is_led}
use Rattle.check_links.specs.Raw.{Quiet, RawArguments, RawCallee, RawAssign, RawAssignCall, RawValued}
use Rattle.check_around.specs.declared.Setting.{Setting}
use Rattle.check_around.specs.Around.{Quoted, Around, ground_of, Unread, Apart, Calls, Tells}
use Rattle.check_around.specs.Answers.{Fine, Stepped, Answer}
use Rattle.check_simple.specs.Answers.{Stands, Answers}
use Rattle.layout.specs.Kinds.{kind_in, bool_in, own_in}
use Rattle.layout.specs.Parts.{characters_part}
use Rattle.layout.specs.Rules.{wrong_kind, wrong_count, barred}
use Rattle.layout.specs.Types.{type_in}
use Rattle.layout.specs.declared.types.ValueType.{ValueType}
use Rattle.layout.specs.Broken.{as_fault, number_of}
use Rattle.layout.specs.declared.rules.Breach.{Breach}
use Rattle.layout.specs.declared.rules.Rule.{Rule}
use Rattle.layout.specs.declared.rules.Rule.TheVariants.{Barred}

-- ---- a statement by its first word
pub record Begins (sort : ℕ) (code values : List ℕ) (at : ℕ) : Type 0 where
  pub stands : Stands code values at
  pub here : sort_in stands.around.known.W at ≡ sort

-- where the setting matters
pub record BeginsIn (sort : ℕ) (k : Setting) (code values : List ℕ) (at : ℕ) : Type 0 where
  pub begins : Begins sort code values at
  pub tells : Tells k begins.stands.around.K

pub record BegunIn (sort : ℕ) (k : Setting) (code values after : List ℕ) (at : ℕ) (r : Stepped) : Type 0 where
  pub is : (g : BeginsIn sort k code values at) → Answers g.begins.stands after r

-- where the text matters
pub record BeginsOf (sort : ℕ) (text code values : List ℕ) (at : ℕ) : Type 0 where
  pub begins : Begins sort code values at
  pub text-is : begins.stands.text ≡ text

pub record BegunOf (sort : ℕ) (text code values after : List ℕ) (at : ℕ) (r : Stepped) : Type 0 where
  pub is : (g : BeginsOf sort text code values at) → Answers g.begins.stands after r

-- a name with := or { behind it, or with neither, in an UNDO list or not
pub record Assigns (code values : List ℕ) (undo : Bool) (at : ℕ) : Type 0 where
  pub begins : Begins NAME code values at
  pub undo-is : undo ≡ checks.in_undo begins.stands.around.K.list
  pub behind : (sort_in begins.stands.around.known.W (at + 1) ≡ becomes → ⊥) → sort_in begins.stands.around.known.W (at + 1) ≡ open_brace

pub record Assigned (code values after : List ℕ) (undo : Bool) (at : ℕ) (r : Stepped) : Type 0 where
  pub is : (g : Assigns code values undo at) → Answers g.begins.stands after r

pub record CallsOf (code values : List ℕ) (undo : Bool) (at : ℕ) : Type 0 where
  pub begins : Begins NAME code values at
  pub undo-is : undo ≡ checks.in_undo begins.stands.around.K.list
  pub no-becomes : sort_in begins.stands.around.known.W (at + 1) ≡ becomes → ⊥
  pub no-brace : sort_in begins.stands.around.known.W (at + 1) ≡ open_brace → ⊥

pub record CalledOf (code values after : List ℕ) (undo : Bool) (at : ℕ) (r : Stepped) : Type 0 where
  pub is : (g : CallsOf code values undo at) → Answers g.begins.stands after r

-- ---- names and types
-- r is the rule that a name of this kind breaks where another is asked for
pub record WrongName (kind : ℕ) (r : Rule) : Type 0 where
  pub is : (routine : ℕ → ℕ) (bool own value : ℕ) → wrong_name (meaning_with routine kind bool own value) ≡ number_of r

-- the type that a head says
unfoldable pub said_type : (head : ℕ) → DataType
said_type w = if eqb (value_in w) 0 then type_of (op_in w) else refused_piece

pub record TypeDiffers (head : ℕ) (type : ValueType) (r : Bool) : Type 0 where
  pub is : (t : DataType) → type_in type ≡ t → differs (said_type head) t ≡ r

-- a name with a parenthesis behind it
pub record IsCall (C : List ℕ) (at : ℕ) (r : Bool) : Type 0 where
  pub yes : r ≡ true → (op_at C at ≡ NAME) × (op_at C (at + 1) ≡ open_paren)
  pub no : r ≡ false → op_at C at ≡ NAME → op_at C (at + 1) ≡ open_paren → ⊥

-- ---- targets
-- A word's op is k more than that of a first target and v its value: then it is the target `spot`, by the words behind it up to `to`.
pub record ScalarAims (m n : ℕ) (k v : ℕ) (spot : Spot) (at to : ℕ) : Type 0 where
  pub few : k < 2
  pub room : InRoom m n (ref_with k v) 1
  pub spot_is : spot ≡ scalar (ref_with k v)
  pub end : to ≡ at + 1

pub record ElementAims (m n : ℕ) (C : List ℕ) (k v : ℕ) (spot : Spot) (at to : ℕ) : Type 0 where
  -- whether the array is of the routine
  pub own : ℕ
  pub op-is : k ≡ own + 2
  pub few : own < 2
  pub room : InRoom m n (ref_with own (first_in v)) (size_in v)
  -- the brace that closes
  pub z : ℕ
  pub t : Term
  pub link-is : link_at C (at + 1) ≡ z
  pub index : term_in m n C (at + 2) z ≡ some t
  pub spot_is : spot ≡ element_of (ref_with own (first_in v)) (size_in v) t
  pub end : to ≡ z + 1

pub data Aims (m n : ℕ) (C : List ℕ) (k v : ℕ) (spot : Spot) (at to : ℕ) : Type 0 where
  scalar-aims : ScalarAims m n k v spot at to → Aims m n C k v spot at to
  element-aims : ElementAims m n C k v spot at to → Aims m n C k v spot at to

pub record Targeted (m n : ℕ) (C : List ℕ) (spot : Spot) (at to : ℕ) : Type 0 where
  pub k : ℕ
  pub v : ℕ
  pub op-is : op_at C at ≡ a_target + k
  pub value-is : value_at C at ≡ v
  pub aims : Aims m n C k v spot at to
  pub quiet : Quiet C (at + 1) to

pub record Targets (code values : List ℕ) (at : ℕ) : Type 0 where
  pub known : Known values
  pub sorts : (i : ℕ) → sort_in known.W i < a_target
  pub t : Target
  pub to : ℕ
  pub is : TargetAt (sort_in known.W) (Parses (sort_in known.W)) t at to
  pub loaded : Loaded known.W code at to

-- what is said of it: its type, and where its value goes; its first word has the place that it has in C₀
pub record Aimed (m n : ℕ) (C₀ C : List ℕ) (j : types.Judged) (spot : Spot) (at to : ℕ) (type : ValueType) : Type 0 where
  pub type-is : type_in type ≡ j.type
  pub target : Targeted m n C spot at to
  pub place : place_at C at ≡ place_at C₀ at

unfoldable pub AimTells : (m n : ℕ) (j : types.Judged) (spot : Spot) (before after : List ℕ) (at to : ℕ) → Judged → Type 0
AimTells m n j spot before after at to (Ok (type, next)) = Fine j.faults before after at to next (Aimed m n (cells_of before) (cells_of after) j spot at to type)
AimTells m n j spot before after at to (Err broken) = First (as_fault broken) j.faults

pub record AimAnswer (m n : ℕ) (j : types.Judged) (spot : Spot) (before after : List ℕ) (at to : ℕ) (r : Judged) : Type 0 where
  pub tells : AimTells m n j spot before after at to r
  pub long : length after ≡ length before

pub record TargetJudged (code values after : List ℕ) (at : ℕ) (r : Judged) : Type 0 where
  pub is : (g : Targets code values at)
      → AimAnswer g.known.m g.known.n (judge_target g.known.W g.known.S g.t) (spot_of g.known.W g.known.S g.t) code after at g.to r

-- a target with braces, of whose name the table says `cell`
pub record Elements (code values : List ℕ) (cell at : ℕ) : Type 0 where
  pub targets : Targets code values at
  pub brace : sort_in targets.known.W (at + 1) ≡ open_brace
  pub means : meaning_with targets.known.routine (kind_in cell) (bool_in cell) (own_in cell) (value_in cell) ≡ meaning targets.known.S (spelled targets.known.W at)

pub record ElementJudged (code values after : List ℕ) (cell at : ℕ) (r : Judged) : Type 0 where
  pub is : (g : Elements code values cell at)
      → AimAnswer g.targets.known.m g.targets.known.n (judge_target g.targets.known.W g.targets.known.S g.targets.t)
      (spot_of g.targets.known.W g.targets.known.S g.targets.t) code after at g.targets.to r

-- ---- assignments, whose target at i ends before b
pub record ValueSide (code values : List ℕ) (wants : ValueType) (i b : ℕ) : Type 0 where
  pub type : DataType
  pub wants_is : type_in wants ≡ type
  pub text : List ℕ
  pub around : Around text values
  pub t : Target
  pub e : Expr
  pub to : ℕ
  pub before : i < b
  pub target : Targeted around.known.m around.known.n (cells_of code) (spot_of around.known.W around.known.S t) i b
  pub becomes-is : sort_in around.known.W b ≡ becomes
  pub value : ExprAt (sort_in around.known.W) (Parses (sort_in around.known.W)) e (b + 1) to
  pub ends : sort_in around.known.W to ≡ semicolon
  pub unread : Unread around.known.W code b to

-- what a run reads there; the target's first word, which is the statement's, has its place still
pub record AssignWritten (raw : Type 0) (before after : List ℕ) (i : ℕ) : Type 0 where
  pub is : raw
  pub place : place_at (cells_of after) i ≡ place_at (cells_of before) i

pub record ValueAssigned (code values after : List ℕ) (wants : ValueType) (i b : ℕ) (r : Stepped) : Type 0 where
  pub is : (g : ValueSide code values wants i b)
      → Answer (of_type g.around.known.W g.type g.around.known.S g.e) code after i (g.to + 1)
      (AssignWritten (RawAssign (ground_of g.around) g.around.known.n (cells_of after) g.around.known.S g.t g.e i (g.to + 1) (g.to + 1)) code after i) r

-- ---- callees
-- the name of a callee, at i, in words up to `to`
pub record Callees (code values : List ℕ) (i : ℕ) : Type 0 where
  pub text : List ℕ
  pub around : Around text values
  pub to : ℕ
  pub name : sort_in around.known.W i ≡ NAME
  pub fresh : Fresh around.known.W (cells_of code) i
  pub inside : i ≤ to
  pub last : to < word_limit
  pub calls : Calls around code i to

-- It is the routine that begins at h, which is a function or is none.
pub record CalleeFound (R : ℕ → ℕ) (count : ℕ) (code : List ℕ) (m : Meaning) (function : Bool) (h : ℕ) : Type 0 where
  pub means : m ≡ the_routine (R h)
  pub among : R h < count
  pub kind : eqb (op_at (cells_of code) h) FUNC ≡ function

-- It is no such routine: a rule is broken, whatever the arguments are.
pub record CalleeWrong (W : List Word) (K : checks.Setting) (m : Meaning) (function : Bool) (i : ℕ) (broken : Breach) : Type 0 where
  pub is : (es : List Expr) → checks.callee_faults W K function m i es ≡ fault (number_of broken.rule) broken.word
  pub at : broken.word ≡ i
  pub low : number_of broken.rule ≤ wrong_kind
  -- nothing is known of what it gives
  pub no_result : function ≡ true → (signature_of W K m).result ≡ none

-- the word that the routine begins with; or no such routine, and the rule that this breaks, at the name
abbrev pub Callee : Type 0
Callee = Result ℕ Breach

unfoldable pub CalleeSays : {text values : List ℕ} (a : Around text values) (code : List ℕ) (function : Bool) (i : ℕ) → Callee → Type 0
CalleeSays a code function i (Ok h) = CalleeFound (numbered a.R) (length a.R) code (meaning a.known.S (spelled a.known.W i)) function h
CalleeSays a code function i (Err broken) = CalleeWrong a.known.W a.K (meaning a.known.S (spelled a.known.W i)) function i broken

pub record CalleeTold (code values : List ℕ) (function : Bool) (i : ℕ) (r : Callee) : Type 0 where
  pub is : (g : Callees code values i) → CalleeSays g.around code function i r

-- ---- arguments
-- what is judged of an argument, against the parameter's type
abbrev pub passed : DataType → (at : ℕ) → types.Judged → types.Judged
passed t i j = record { type = j.type; faults = wanted t i j; term = j.term }

pub record Passed (code values after : List ℕ) (p at : ℕ) (r : Judged) : Type 0 where
  pub is : (s : expressions.Stands code values disjunctions at)
      → Judges s.known.m s.known.n code after at s.to (passed (type_at (cells_of code) p) (first s.e) (judge s.known.W false s.known.S s.e)) r

-- Terms read from a on, the first up to b, with commas between that lead on; the last up to z.
pub data Reads (m n : ℕ) (C : List ℕ) (a b : ℕ) : List Term → (z : ℕ) → Type 0 where
  reads-one : {t : Term} {z : ℕ} → z ≡ b → term_in m n C a b ≡ some t → Reads m n C a b (t ∷ []) z
  reads_more : {us ts : List Term} {y z : ℕ} (t : Term) → Reads m n C a b us y → op_at C y ≡ a_next_argument → link_at C y ≡ z → term_in m n C (y + 1) z ≡ some t
      → ts ≡ us ++ (t ∷ []) → Reads m n C a b ts z

-- all arguments of a call, which z closes: none, or some
pub data ReadAll (m n : ℕ) (C : List ℕ) (ts : List Term) (a b z : ℕ) : Type 0 where
  no_arguments : ts ≡ [] → b ≡ a → z ≡ a → ReadAll m n C ts a b z
  some-arguments : a < b → Reads m n C a b ts z → ReadAll m n C ts a b z

-- Behind an argument that ends at b, against a parameter whose type is the word p: `rest` is left, up to the word z that closes them, for parameters of types `ts`.
-- The first argument stands from a up to b₀, and `us` are the terms so far.
pub record Rest {text values : List ℕ} (around : Around text values) (a b₀ z : ℕ) (code : List ℕ) (p b : ℕ) (us : List Term) (rest : List Expr) (ts : List DataType) : Type 0 where
  pub read : Reads around.known.m around.known.n (cells_of code) a b₀ us b
  pub quiet : Quiet (cells_of code) a b
  pub inside : b ≤ z
  pub more : sort_in around.known.W b ≡ comma → SeparatedAt (sort_in around.known.W) (ExprAt (sort_in around.known.W) (Parses (sort_in around.known.W))) rest (b + 1) z
  pub done : (sort_in around.known.W b ≡ comma → ⊥) → (rest ≡ []) × (z ≡ b)
  pub closes : level_of (sort_in around.known.W z) ≡ 0
  pub unread : Unread around.known.W code b z
  -- the types of the other parameters, whatever is written from b up to z
  pub types : (D : List ℕ) → Apart (cells_of code) D b z → types_at D (length rest) (p + 3) ≡ ts
  pub words : p + 3 + 3 * length rest ≤ word_limit
  pub room : store_bytes ≤ length code

pub record More (code values : List ℕ) (p b : ℕ) : Type 0 where
  pub text : List ℕ
  pub around : Around text values
  pub a : ℕ
  pub b₀ : ℕ
  pub z : ℕ
  pub us : List Term
  pub rest : List Expr
  pub ts : List DataType
  pub is : Rest around a b₀ z code p b us rest ts

-- the terms of all of them
pub record MoreRead {code values : List ℕ} {p b : ℕ} (g : More code values p b) (C : List ℕ) : Type 0 where
  pub read : Reads g.around.known.m g.around.known.n C g.a g.b₀ (g.us ++ map (term_of g.around.known.W g.around.known.S) g.rest) g.z
  pub quiet : Quiet C g.a g.z

pub record MoreJudged (code values after : List ℕ) (p b : ℕ) (r : Stepped) : Type 0 where
  pub is : (g : More code values p b)
      → Answer (argument_faults g.around.known.W g.around.known.S g.ts g.rest) code after b g.z (MoreRead g (cells_of after)) r

-- ---- calls
-- Arguments from `first` on, closed by a word of this sort at z, and the semicolon that ends the statement.
pub record ArgumentsStand (W : List Word) (es : List Expr) (first closing z end : ℕ) : Type 0 where
  pub arguments : ArgumentsAt (sort_in W) (Parses (sort_in W)) closing es first z
  pub closes : sort_in W z ≡ closing
  pub ends : sort_in W end ≡ semicolon
  pub at-end : closing ≡ semicolon → end ≡ z
  pub past_end : (closing ≡ semicolon → ⊥) → (closing ≡ close_paren) × (end ≡ z + 1)

pub record Counts (code : List ℕ) (first closing : ℕ) : Type 0 where
  pub W : List Word
  pub es : List Expr
  pub z : ℕ
  pub end : ℕ
  pub stand : ArgumentsStand W es first closing z end
  pub loaded : Loaded W code first end

pub record Counted (code : List ℕ) (first closing r : ℕ) : Type 0 where
  pub is : (g : Counts code first closing) → r ≡ length g.es

-- a call of the routine that begins at h, in an UNDO list or not
pub record CallSide (code values : List ℕ) (undo : Bool) (h callee first closing : ℕ) : Type 0 where
  pub text : List ℕ
  pub around : Around text values
  pub undo-is : undo ≡ checks.in_undo around.K.list
  pub es : List Expr
  pub z : ℕ
  pub end : ℕ
  pub stand : ArgumentsStand around.known.W es first closing z end
  pub before : callee < first
  pub among : numbered around.R h < length around.R
  pub unread : Unread around.known.W code first end
  pub calls : Calls around code callee end

-- the callee as the paper knows it
abbrev pub signature_for : {text values : List ℕ} → Around text values → (h : ℕ) → Signature
signature_for a h = get_or a.K.routines (numbered a.R h) no_signature

-- its word, which has its place still and leads to the end of the first argument, and the arguments
pub record CallWritten {code values : List ℕ} {undo : Bool} {h callee first closing : ℕ} (g : CallSide code values undo h callee first closing) (C : List ℕ) (op : ℕ) : Type 0 where
  pub op-is : op_at C callee ≡ op
  pub value-is : value_at C callee ≡ h
  pub place : place_at C callee ≡ place_at (cells_of code) callee
  pub as_many : length g.es ≡ length (signature_for g.around h).parameters
  pub read : ReadAll g.around.known.m g.around.known.n C (map (term_of g.around.known.W g.around.known.S) g.es) first (link_at C callee) g.z
  pub quiet : Quiet C first g.z

-- its faults: it is barred, its arguments are too many or too few, and theirs
abbrev pub side_faults : {text values : List ℕ} → Around text values → (undo : Bool) → (h callee : ℕ) → List Expr → List Fault
side_faults a undo h callee es =
    fault_if undo barred callee
    ++ fault_if (not (eqb (length (signature_for a h).parameters) (length es))) wrong_count callee
    ++ argument_faults a.known.W a.known.S (signature_for a h).parameters es

pub record CallJudged (code values after : List ℕ) (undo : Bool) (op h callee first closing : ℕ) (r : Stepped) : Type 0 where
  pub is : (g : CallSide code values undo h callee first closing) → Answer (side_faults g.around undo h callee g.es) code after callee g.z (CallWritten g (cells_of after) op) r

-- a function's call, for a target of a type
pub record ForCalls (code values : List ℕ) (undo : Bool) (callee : ℕ) : Type 0 where
  pub text : List ℕ
  pub around : Around text values
  pub undo-is : undo ≡ checks.in_undo around.K.list
  pub es : List Expr
  pub z : ℕ
  pub stand : ArgumentsStand around.known.W es (callee + 2) close_paren z (z + 1)
  pub name : sort_in around.known.W callee ≡ NAME
  pub unread : Unread around.known.W code callee (z + 1)
  pub calls : Calls around code callee (z + 1)

pub record ForWritten {code values : List ℕ} {undo : Bool} {callee : ℕ} (g : ForCalls code values undo callee) (C : List ℕ) : Type 0 where
  pub callee-is : RawCallee (ground_of g.around) g.around.known.n C g.around.known.S true callee g.es
  pub still : is_led (op_at C callee) ≡ false
  pub arguments : RawArguments (ground_of g.around) g.around.known.n C g.around.known.S g.es (callee + 2) (link_at C callee) g.z

-- all its faults, where j is judged of the target
abbrev pub for_faults : {code values : List ℕ} {undo : Bool} {callee : ℕ} → ForCalls code values undo callee → types.Judged → List Fault
for_faults {callee = callee} g j =
    call_faults g.around.known.W g.around.K true g.around.known.S callee g.es
    ++ result_faults g.around.known.W j (signature_of g.around.known.W g.around.K (meaning g.around.known.S (spelled g.around.known.W callee))).result callee

pub record ForJudged (code values after : List ℕ) (undo : Bool) (wants : ValueType) (callee : ℕ) (r : Stepped) : Type 0 where
  pub is : (g : ForCalls code values undo callee) (j : types.Judged) → type_in wants ≡ j.type → Answer (for_faults g j) code after callee g.z (ForWritten g (cells_of after)) r

-- the target at i ends before b
pub record CallAssigns (code values : List ℕ) (undo : Bool) (i b : ℕ) : Type 0 where
  pub for : ForCalls code values undo (b + 1)
  pub t : Target
  pub before : i < b
  pub target : Targeted for.around.known.m for.around.known.n (cells_of code) (spot_of for.around.known.W for.around.known.S t) i b

pub record CallAssigned (code values after : List ℕ) (undo : Bool) (wants : ValueType) (i b : ℕ) (r : Stepped) : Type 0 where
  pub is : (g : CallAssigns code values undo i b) (j : types.Judged) → type_in wants ≡ j.type
      → Answer (for_faults g.for j) code after i (g.for.z + 2)
      (AssignWritten (RawAssignCall (ground_of g.for.around) g.for.around.known.n (cells_of after) g.for.around.known.S g.t (b + 1) g.for.es i (g.for.z + 2) (g.for.z + 2)) code after i) r

-- ---- words and values
-- a statement of one word
pub record Alone (before after : List ℕ) (op : ℕ) (fine : Bool) (i : ℕ) (r : Stepped) : Type 0 where
  pub yes : fine ≡ true → Linked before after i op 0 (i + 2) × (r ≡ Ok (i + 2))
  pub no : fine ≡ false → (after ≡ before) × (r ≡ Err (record { rule = Barred; word = i }))

-- a statement at i with an expression of a type, from a word on up to its semicolon
pub record Values (code values : List ℕ) (from i : ℕ) : Type 0 where
  pub text : List ℕ
  pub around : Around text values
  pub e : Expr
  pub to : ℕ
  pub value : ExprAt (sort_in around.known.W) (Parses (sort_in around.known.W)) e from to
  pub ends : sort_in around.known.W to ≡ semicolon
  pub before : i < from
  pub loaded : Loaded around.known.W code from to

-- what is written of it; the words between the two are as they were, and the statement's has its place still
pub record ValueWritten {code values : List ℕ} {from i : ℕ} (g : Values code values from i) (C : List ℕ) (op : ℕ) : Type 0 where
  pub raw : RawValued (ground_of g.around) g.around.known.n C g.around.known.S op g.e from i (g.to + 1) (g.to + 1)
  pub between : (k : ℕ) → i < k → k < from → head_at C k ≡ head_at (cells_of code) k
  pub places : (k : ℕ) → i ≤ k → k < from → place_at C k ≡ place_at (cells_of code) k

pub record Valued (code values after : List ℕ) (op : ℕ) (wants : ValueType) (from i : ℕ) (r : Stepped) : Type 0 where
  pub is : (g : Values code values from i) (t : DataType) → type_in wants ≡ t
      → Answer (of_type g.around.known.W t g.around.known.S g.e) code after i (g.to + 1) (ValueWritten g (cells_of after) op) r

-- ---- strings
-- how many characters these bytes are
pub record Characters (bytes : List ℕ) (r : ℕ) : Type 0 where
  pub is : r ≡ length (unquoted bytes)
  pub most : r ≤ length bytes

-- the string at word i
pub record Strings (text code : List ℕ) (i : ℕ) : Type 0 where
  pub w : Word
  pub quoted : Quoted text w
  pub value : value_at (cells_of code) i ≡ length w.covers
  pub place : place_at (cells_of code) i ≡ w.place
  pub room : i * 8 + 8 ≤ length code

pub record Spelled (text before after : List ℕ) (i : ℕ) : Type 0 where
  pub is : (g : Strings text before i)
      → Linked before after i STRING (length g.w.covers + characters_part * length (unquoted (take (length g.w.covers - 2) (drop (g.w.place + 1) text)))) (link_at (cells_of before) i)
