-- How the paper's parser goes over the words, by places alone: its definitions without the trees, in its order.
use Rattle.std.specs.Prelude.{Bool, true, false, ◌||◌, List, ℕ, zero, suc, ◌+◌, ◌*◌, ◌-◌, ◌%◌, ◌≤◌, eqb, ltb, length, get_or, if◌then◌else◌, Result, Ok, Err}
use Rattle.paper.specs.Sorts.{NOTHING, NAME, STRING, semicolon, comma, open_paren, close_paren, open_brace, close_brace, colon, becomes, plus, minus_sign, backslash}
use Rattle.paper.specs.Sorts.{CASE, DEFAULT, DO, ELSE, ELSEIF, ENDFOR, ENDFUNC, ENDIF, ENDMODULE, ENDPROC, ENDTEST, ENDWHILE, ERROR, EXIT, FOR, FROM, IF, MODULE, NOT, PROC, RAISE, RETRY, RETURN, STEP, THEN, TO, TRYNEXT, UNDO, VAR, WHILE, NUM, TPWRITE, TPREADNUM}
use Rattle.paper.specs.Words.{word_limit}
use Rattle.paper.specs.Expressions.{parts, nestings, relations, disjunctions, level_of, stands_before, is_literal, is_type, starts_data, starts_routine, starts_simple}
use Rattle.layout.specs.declared.rules.Breach.{Breach}
use Rattle.layout.specs.declared.rules.Rule.{Rule}
use Rattle.layout.specs.declared.rules.Rule.TheVariants.{NoForm, DeepNesting}
use Rattle.store_cells.specs.Cells.{cells_of}
use Rattle.text_sorts.specs.Starts.{starts_compound}
use Rattle.check_form.specs.declared.Part.{Part}
use Rattle.check_form.specs.declared.Part.TheVariants as part

-- The words of a text as the code lends them: no more than a text has, two cells of four bytes each.
pub record Lent (code : List ℕ) (words : ℕ) : Type 0 where
  pub few : words ≤ word_limit
  pub long : words * 8 ≤ length code

-- The sorts of the words that lie in the code: two cells a word, the sort in the low byte of the first.
unfoldable pub sorts_in : (code : List ℕ) → (words : ℕ) → (i : ℕ) → ℕ
sorts_in code words i = if ltb i words then get_or (cells_of code) (2 * i) 0 % 256 else NOTHING

-- What is read from a place on: up to which place, or the rule that is broken, and its word.
abbrev pub Read : Type 0
Read = Result ℕ Breach

-- How far a compound statement is read, or what it is refused for.
abbrev pub Parted : Type 0
Parted = Result Part Breach

abbrev pub breach : (rule : Rule) → (at : ℕ) → Breach
breach rule at = record { rule = rule; word = at }

-- read to the end
abbrev pub ended : ℕ → Parted
ended n = Ok (part.Whole n)

-- read into a list
abbrev pub entered : (closing : ℕ) → ℕ → Parted
entered c n = Ok (part.Inside c n)

-- What is read on from where a reading ended.
infixl 2 ◌▸◌
unfoldable pub ◌▸◌ : Read → (ℕ → Read) → Read
Ok n ▸ f = f n
Err broken ▸ f = Err broken

infixl 2 ◌▹◌
unfoldable pub ◌▹◌ : Read → (ℕ → Parted) → Parted
Ok n ▹ f = f n
Err broken ▹ f = Err broken

-- The sorts behind a name that make it a target.
unfoldable pub assigns : (sort : ℕ) → Bool
assigns s = eqb s becomes || eqb s open_brace

-- A loop of the parser, of that many turns at most.
unfoldable pub turns : (turn : (again : ℕ → Read) → ℕ → Read) → (parts : ℕ) → ℕ → Read
turns turn zero at = Err (breach NoForm at)
turns turn (suc p) at = turn (turns turn p) at

module _ (W : ℕ → ℕ) where
  unfoldable pub word : (sort : ℕ) → ℕ → Read
  word s at = if eqb (W at) s then Ok (at + 1) else Err (breach NoForm at)

  unfoldable pub type_word : ℕ → Read
  type_word at = if is_type (W at) then Ok (at + 1) else Err (breach NoForm at)

  -- ---- expressions
  unfoldable pub operand : (inner : ℕ → Read) → ℕ → Read
  operand inner at =
      if eqb (W at) NAME then (if eqb (W (at + 1)) open_brace then inner (at + 2) ▸ word close_brace else Ok (at + 1))
      else if eqb (W at) open_paren then inner (at + 1) ▸ word close_paren
      else if is_literal (W at) then Ok (at + 1)
      else Err (breach NoForm at)

  unfoldable pub chain_turn : (j : ℕ) → (sub again : ℕ → Read) → ℕ → Read
  chain_turn j sub again at =
      if eqb (level_of (W at)) j then (if eqb j relations then sub (at + 1) else (sub (at + 1) ▸ again)) else Ok at

  unfoldable pub chain : (j : ℕ) → (sub : ℕ → Read) → ℕ → Read
  chain j sub = turns (chain_turn j sub) parts

  unfoldable pub prefixed : (j : ℕ) → (sub : ℕ → Read) → ℕ → Read
  prefixed j sub at = if stands_before j (W at) then sub (at + 1) else sub at

  unfoldable pub level : (inner : ℕ → Read) → (j : ℕ) → ℕ → Read
  level inner zero at = operand inner at
  level inner (suc j) at = prefixed (suc j) (level inner j) at ▸ chain (suc j) (level inner j)

  unfoldable pub expression_in : (d : ℕ) → ℕ → Read
  expression_in zero at = Err (breach DeepNesting (at - 1))
  expression_in (suc d) at = level (expression_in d) disjunctions at

  abbrev pub expression : ℕ → Read
  expression = expression_in (suc nestings)

  -- ---- sequences
  unfoldable pub after_one : (again : ℕ → Read) → ℕ → Read
  after_one again at = if eqb (W at) comma then again (at + 1) else Ok at

  unfoldable pub separated_turn : (one again : ℕ → Read) → ℕ → Read
  separated_turn one again at = one at ▸ after_one again

  unfoldable pub separated : (one : ℕ → Read) → ℕ → Read
  separated one = turns (separated_turn one) parts

  unfoldable pub repeated_turn : (starts : ℕ → Bool) → (one again : ℕ → Read) → ℕ → Read
  repeated_turn starts one again at = if starts (W at) then one at ▸ again else Ok at

  unfoldable pub repeated : (starts : ℕ → Bool) → (one : ℕ → Read) → ℕ → Read
  repeated starts one = turns (repeated_turn starts one) parts

  -- What a word starts, read from behind it by its sort.
  unfoldable pub started_by : (of : (starts : ℕ) → ℕ → Read) → ℕ → Read
  started_by of at = of (W at) (at + 1)

  unfoldable pub expressions : ℕ → Read
  expressions at = separated expression at

  unfoldable pub arguments : (closing : ℕ) → ℕ → Read
  arguments s at = if eqb (W at) s then Ok at else expressions at

  unfoldable pub optional : ℕ → Read
  optional at = if eqb (W at) semicolon then Ok at else expression at

  -- ---- simple statements
  unfoldable pub target : ℕ → Read
  target at =
      if eqb (W at) NAME then (if eqb (W (at + 1)) open_brace then expression_in nestings (at + 2) ▸ word close_brace else Ok (at + 1))
      else Err (breach NoForm at)

  unfoldable pub right_side : ℕ → Read
  right_side at =
      if eqb (W at) NAME then (if eqb (W (at + 1)) open_paren then arguments close_paren (at + 2) ▸ word close_paren else expression at)
      else expression at

  unfoldable pub started_by_name : ℕ → Read
  started_by_name at =
      if assigns (W (at + 1)) then target at ▸ word becomes ▸ right_side else arguments semicolon (at + 1)

  unfoldable pub number : ℕ → Read
  number at = if eqb (W at) backslash then word NUM (at + 1) ▸ word becomes ▸ expression else Ok at

  unfoldable pub writing : ℕ → Read
  writing at = word STRING at ▸ number

  unfoldable pub wanting : ℕ → Read
  wanting at = target at ▸ word comma ▸ word STRING

  unfoldable pub simple_word : ℕ → Read
  simple_word at =
      if eqb (W at) NAME then started_by_name at
      else if eqb (W at) RETURN then optional (at + 1)
      else if eqb (W at) RAISE then optional (at + 1)
      else if eqb (W at) EXIT then Ok (at + 1)
      else if eqb (W at) RETRY then Ok (at + 1)
      else if eqb (W at) TRYNEXT then Ok (at + 1)
      else if eqb (W at) TPWRITE then writing (at + 1)
      else if eqb (W at) TPREADNUM then wanting (at + 1)
      else Err (breach NoForm at)

  unfoldable pub simple : ℕ → Read
  simple at = simple_word at ▸ word semicolon

  -- ---- compound statements
  -- How far each is read up to its first list, and what stands after a list.
  unfoldable pub arm_end : ℕ → Parted
  arm_end at =
      if eqb (W at) ELSEIF then expression (at + 1) ▸ word THEN ▹ entered ELSEIF
      else if eqb (W at) ELSE then entered ENDIF (at + 1)
      else (word ENDIF at ▹ ended)

  unfoldable pub case_end : ℕ → Parted
  case_end at =
      if eqb (W at) CASE then expressions (at + 1) ▸ word colon ▹ entered CASE
      else if eqb (W at) DEFAULT then word colon (at + 1) ▹ entered ENDTEST
      else (word ENDTEST at ▹ ended)

  unfoldable pub list_end : (closing : ℕ) → ℕ → Parted
  list_end c at = if eqb c ELSEIF then arm_end at else if eqb c CASE then case_end at else (word c at ▹ ended)

  unfoldable pub step_part : ℕ → Read
  step_part at = if eqb (W at) STEP then expression (at + 1) else Ok at

  unfoldable pub for_head : ℕ → Read
  for_head at = word NAME at ▸ word FROM ▸ expression ▸ word TO ▸ expression ▸ step_part ▸ word DO

  unfoldable pub condition : (deeper : ℕ) → ℕ → Parted
  condition d at =
      if eqb (W at) THEN then (if eqb d 0 then Err (breach DeepNesting at) else entered ELSEIF (at + 1)) else (simple at ▹ ended)

  unfoldable pub if_head : (deeper : ℕ) → ℕ → Parted
  if_head d at = expression at ▹ condition d

  unfoldable pub test_head : ℕ → Parted
  test_head at = expression at ▹ case_end

  unfoldable pub opened : (deeper : ℕ) → ℕ → Parted
  opened d at =
      if eqb (W at) IF then if_head d (at + 1)
      else if eqb d 0 then Err (breach DeepNesting at)
      else if eqb (W at) FOR then for_head (at + 1) ▹ entered ENDFOR
      else if eqb (W at) WHILE then expression (at + 1) ▸ word DO ▹ entered ENDWHILE
      else test_head (at + 1)

  -- Arms and cases, and what else follows a list that is read.
  unfoldable pub else_part : (list : ℕ → Read) → ℕ → Read
  else_part list at = if eqb (W at) ELSE then list (at + 1) else Ok at

  unfoldable pub after_arm : (list again : ℕ → Read) → ℕ → Read
  after_arm list again at =
      if eqb (W at) ELSEIF then expression (at + 1) ▸ word THEN ▸ again else (else_part list at ▸ word ENDIF)

  unfoldable pub arms_turn : (list again : ℕ → Read) → ℕ → Read
  arms_turn list again at = list at ▸ after_arm list again

  unfoldable pub arms : (list : ℕ → Read) → ℕ → Read
  arms list = turns (arms_turn list) parts

  unfoldable pub default_part : (list : ℕ → Read) → ℕ → Read
  default_part list at = if eqb (W at) DEFAULT then word colon (at + 1) ▸ list else Ok at

  unfoldable pub cases_turn : (list again : ℕ → Read) → ℕ → Read
  cases_turn list again at =
      if eqb (W at) CASE then expressions (at + 1) ▸ word colon ▸ list ▸ again else (default_part list at ▸ word ENDTEST)

  unfoldable pub cases : (list : ℕ → Read) → ℕ → Read
  cases list = turns (cases_turn list) parts

  unfoldable pub ending : (list : ℕ → Read) → (closing : ℕ) → ℕ → Read
  ending list c at =
      if eqb c ELSEIF then after_arm list (arms list) at else if eqb c CASE then cases list at else word c at

  -- The rest of a compound statement.
  unfoldable pub resume : (list : ℕ → Read) → Parted → Read
  resume list (Ok (part.Whole n)) = Ok n
  resume list (Ok (part.Inside c n)) = list n ▸ ending list c
  resume list (Err broken) = Err broken

  -- ---- lists
  unfoldable pub list_turn : (compound again : ℕ → Read) → ℕ → Read
  list_turn compound again at =
      if starts_compound (W at) then compound at ▸ again else if starts_simple (W at) then simple at ▸ again else Ok at

  -- A list in which compound statements nest less deep than d; with d = 0 there is none.
  unfoldable pub list_below : (d : ℕ) → ℕ → Read
  list_below zero at = Err (breach DeepNesting at)
  list_below (suc d) at = turns (list_turn (λ n. resume (list_below d) (opened d n))) parts at

  unfoldable pub compound : (deeper : ℕ) → ℕ → Read
  compound d at = resume (list_below d) (opened d at)

  -- ---- data
  unfoldable pub content : (starts : ℕ) → ℕ → Read
  content s at =
      if eqb (W at) becomes then expression (at + 1)
      else if eqb s VAR then (if eqb (W at) open_brace then expression (at + 1) ▸ word close_brace else Ok at)
      else Err (breach NoForm at)

  unfoldable pub declaration : (starts : ℕ) → ℕ → Read
  declaration s at = type_word at ▸ word NAME ▸ content s ▸ word semicolon

  abbrev pub declarations : ℕ → Read
  declarations = repeated starts_data (started_by declaration)

  -- ---- routines
  unfoldable pub parameter : ℕ → Read
  parameter at = type_word at ▸ word NAME

  unfoldable pub parameters : ℕ → Read
  parameters at = if eqb (W at) close_paren then Ok at else separated parameter at

  -- the list behind a word of that sort, if any
  unfoldable pub list_behind : (sort : ℕ) → ℕ → Read
  list_behind s at = if eqb (W at) s then list_below (suc nestings) (at + 1) else Ok at

  -- from its name on
  unfoldable pub routine_from : (closing : ℕ) → ℕ → Read
  routine_from closing at =
      word NAME at ▸ word open_paren ▸ parameters ▸ word close_paren ▸ declarations ▸ list_below (suc nestings) ▸ list_behind ERROR ▸ list_behind UNDO ▸ word closing

  unfoldable pub routine : (starts : ℕ) → ℕ → Read
  routine s at = if eqb s PROC then routine_from ENDPROC at else (type_word at ▸ routine_from ENDFUNC)

  abbrev pub routines : ℕ → Read
  routines = repeated starts_routine (started_by routine)

  unfoldable pub whole : Read
  whole = word MODULE 0 ▸ word NAME ▸ declarations ▸ routines ▸ word ENDMODULE

  -- ---- expressions as the code reads them
  unfoldable pub behind_not : ℕ → ℕ
  behind_not at = if eqb (W at) NOT then at + 1 else at

  unfoldable pub behind_sign : ℕ → ℕ
  behind_sign at = if eqb (W at) plus || eqb (W at) minus_sign then at + 1 else at

  -- What may follow an operand: operators of all levels, or of all but relations where one was used.
  unfoldable pub rest : (inner : ℕ → Read) → (used : Bool) → ℕ → Read
  rest inner false at =
      chain 1 (level inner 0) at ▸ chain 2 (level inner 1) ▸ chain 3 (level inner 2) ▸ chain 4 (level inner 3) ▸ chain 5 (level inner 4)
  rest inner true at =
      chain 1 (level inner 0) at ▸ chain 2 (level inner 1) ▸ chain 4 (level inner 3) ▸ chain 5 (level inner 4)
