-- The paper, "Form of a module", as a relation between words and trees: `.. At tree at to` says that the words from `at` up to `to` are that tree. Words are known by
-- their sorts, `W`, as in the parser. A place that is computed stands in an equation and in no index, so that a derivation can always be taken apart. Where only the
-- next word tells that something is missing or has ended, that fact is kept: a walk over the words goes by it.
use Rattle.std.specs.Prelude.{◌≡◌, Bool, true, false, List, [], ◌∷◌, ℕ, suc, ◌+◌, ◌-◌, ◌<◌}
use Rattle.std.proofs.Math.Option.{Option, none, some}
use Rattle.paper.specs.Sorts.{NOTHING, NAME, STRING, semicolon, comma, open_paren, close_paren, open_brace, close_brace, colon, becomes, backslash}
use Rattle.paper.specs.Sorts.{CASE, CONST, DEFAULT, DO, ELSE, ELSEIF, ENDFOR, ENDFUNC, ENDIF, ENDMODULE, ENDPROC, ENDTEST, ENDWHILE, ERROR, EXIT, FOR, FROM, FUNC, IF, MODULE, NUM, PROC, RAISE, RETRY, RETURN, STEP, TEST, THEN, TO, TPREADNUM, TPWRITE, TRYNEXT, UNDO, VAR, WHILE}
use Rattle.paper.specs.Trees.{Expr, Target, Simple, assign, assign_call, call, returns, raises, exits, retries, tries_next, writes, reads}
use Rattle.paper.specs.Trees.{Statement, Statements, Arms, Cases, simple, compact_if, full_if, for, while, test, empty, ◌then◌, no_arm, arm, no_case, case}
use Rattle.paper.specs.Trees.{Content, variable_data, initial_data, array_data, constant_data, Declared, Parameter, RoutineList, Routine, Module}
use Rattle.paper.specs.Expressions.{Parsed, got, nestings, expr_in, is_type, starts_data, starts_routine, starts_statement}

-- How the parser reads an expression: the relation below at `Parses W` is what a walk over the words of an accepted module knows.
abbrev pub Parses : (W : ℕ → ℕ) → (d at : ℕ) → Expr → (to : ℕ) → Type 0
Parses W d at e to = expr_in W d at ≡ got (e, to)

-- ---- sequences
module _ (W : ℕ → ℕ) {A : Type 0} where
  -- One or more, with commas between.
  pub data SeparatedAt (One : A → (at to : ℕ) → Type 0) : List A → (at to : ℕ) → Type 0 where
    last_one : {a : A} {at to : ℕ} → One a at to → ¬ (W to ≡ comma) → SeparatedAt One (a ∷ []) at to
    one_more : {a : A} {r : List A} {at n to : ℕ} → One a at n → W n ≡ comma → SeparatedAt One r (n + 1) to → SeparatedAt One (a ∷ r) at to

  -- The same, or nothing before the word that closes them.
  pub data ClosedAt (One : A → (at to : ℕ) → Type 0) (closing : ℕ) : List A → (at to : ℕ) → Type 0 where
    closed-at-once : {at to : ℕ} → W at ≡ closing → to ≡ at → ClosedAt One closing [] at to
    closed-later : {l : List A} {at to : ℕ} → ¬ (W at ≡ closing) → SeparatedAt One l at to → ClosedAt One closing l at to

  -- As many as there are: `starts` tells the words that one begins with.
  pub data RepeatedAt (starts : ℕ → Bool) (One : A → (at to : ℕ) → Type 0) : List A → (at to : ℕ) → Type 0 where
    none-starts : {at to : ℕ} → starts (W to) ≡ false → to ≡ at → RepeatedAt starts One [] at to
    one-starts : {a : A} {r : List A} {at n to : ℕ} → starts (W at) ≡ true → One a at n → RepeatedAt starts One r n to → RepeatedAt starts One (a ∷ r) at to

-- `E d at e to`: the words from `at` up to `to` are the expression e, in which d - 1 more parentheses or braces may nest.
module _ (W : ℕ → ℕ) (E : (d at : ℕ) → Expr → (to : ℕ) → Type 0) where
  -- "parentheses and braces in an expression nest to 16"
  abbrev pub ExprAt : Expr → (at to : ℕ) → Type 0
  ExprAt e at to = E (suc nestings) at e to

  -- "c,..,c", "args"
  abbrev pub ExprsAt : List Expr → (at to : ℕ) → Type 0
  ExprsAt es at to = SeparatedAt W ExprAt es at to

  abbrev pub ArgumentsAt : (closing : ℕ) → List Expr → (at to : ℕ) → Type 0
  ArgumentsAt closing es at to = ClosedAt W ExprAt closing es at to

  -- ---- simple statements, without their semicolons
  -- "A target is a name or `name{e}`", from behind the name on: "a target's braces included", so what stands in them is nested once.
  pub data IndexAt : Option Expr → (at to : ℕ) → Type 0 where
    no_index : {at to : ℕ} → ¬ (W at ≡ open_brace) → to ≡ at → IndexAt none at to
    in-braces : {e : Expr} {at n to : ℕ} → W at ≡ open_brace → E nestings (at + 1) e n → W n ≡ close_brace → to ≡ n + 1 → IndexAt (some e) at to

  pub record TargetAt (t : Target) (at to : ℕ) : Type 0 where
    pub named : t.name ≡ at
    pub name : W at ≡ NAME
    pub index : IndexAt t.index (at + 1) to

  -- "[e]" before a semicolon
  pub data OptionalAt : Option Expr → (at to : ℕ) → Type 0 where
    no_value : {at to : ℕ} → W at ≡ semicolon → to ≡ at → OptionalAt none at to
    a-value : {e : Expr} {at to : ℕ} → ¬ (W at ≡ semicolon) → ExprAt e at to → OptionalAt (some e) at to

  -- "[\Num:=e]"
  pub data NumberAt : Option Expr → (at to : ℕ) → Type 0 where
    no_number : {at to : ℕ} → ¬ (W at ≡ backslash) → to ≡ at → NumberAt none at to
    a-number : {e : Expr} {at to : ℕ} → W at ≡ backslash → W (at + 1) ≡ NUM → W (at + 2) ≡ becomes → ExprAt e (at + 3) to → NumberAt (some e) at to

  pub data SimpleAt : Simple → (at to : ℕ) → Type 0 where
    -- "`target := e;`": "A function call is only ever a whole right side", so e is no name with a parenthesis behind it.
    assigning : {t : Target} {e : Expr} {at n to : ℕ} → TargetAt t at n → W n ≡ becomes → (W (n + 1) ≡ NAME → W (n + 2) ≡ open_paren → ⊥) → ExprAt e (n + 1) to → SimpleAt (assign t e) at to
    -- "`target := f(args);`"
    assigning-call : {t : Target} {f : ℕ} {es : List Expr} {at n m to : ℕ} → TargetAt t at n → W n ≡ becomes → f ≡ n + 1 → W (n + 1) ≡ NAME → W (n + 2) ≡ open_paren
        → ArgumentsAt close_paren es (n + 3) m → W m ≡ close_paren → to ≡ m + 1 → SimpleAt (assign_call t f es) at to
    -- "`p args;`"
    calling : {p : ℕ} {es : List Expr} {at to : ℕ} → p ≡ at → W at ≡ NAME → ¬ (W (at + 1) ≡ becomes) → ¬ (W (at + 1) ≡ open_brace) → ArgumentsAt semicolon es (at + 1) to → SimpleAt (call p es) at to
    -- "`RETURN [e];`, `RAISE [e];`"
    returning : {i : ℕ} {e : Option Expr} {at to : ℕ} → i ≡ at → W at ≡ RETURN → OptionalAt e (at + 1) to → SimpleAt (returns i e) at to
    raising : {i : ℕ} {e : Option Expr} {at to : ℕ} → i ≡ at → W at ≡ RAISE → OptionalAt e (at + 1) to → SimpleAt (raises i e) at to
    -- "`EXIT;`, `RETRY;`, `TRYNEXT;`"
    exiting : {i at to : ℕ} → i ≡ at → W at ≡ EXIT → to ≡ at + 1 → SimpleAt (exits i) at to
    retrying : {i at to : ℕ} → i ≡ at → W at ≡ RETRY → to ≡ at + 1 → SimpleAt (retries i) at to
    trying-next : {i at to : ℕ} → i ≡ at → W at ≡ TRYNEXT → to ≡ at + 1 → SimpleAt (tries_next i) at to
    -- "`TPWrite "s" [\Num:=e];`"
    writing : {i s : ℕ} {e : Option Expr} {at to : ℕ} → i ≡ at → W at ≡ TPWRITE → s ≡ at + 1 → W (at + 1) ≡ STRING → NumberAt e (at + 2) to → SimpleAt (writes i s e) at to
    -- "`TPReadNum target, "s";`"
    reading : {i s : ℕ} {t : Target} {at n to : ℕ} → i ≡ at → W at ≡ TPREADNUM → TargetAt t (at + 1) n → W n ≡ comma → s ≡ n + 1 → W (n + 1) ≡ STRING → to ≡ n + 2 → SimpleAt (reads i t s) at to

  -- ---- statements
  -- "[STEP e]"
  pub data StepAt : Option Expr → (at to : ℕ) → Type 0 where
    no_step : {at to : ℕ} → ¬ (W at ≡ STEP) → to ≡ at → StepAt none at to
    a-step : {e : Expr} {at to : ℕ} → W at ≡ STEP → ExprAt e (at + 1) to → StepAt (some e) at to

  -- "`FOR i FROM e TO e [STEP e] DO`", up to the DO
  pub record ForHeadAt (v : ℕ) (from up_to : Expr) (step : Option Expr) (at do_at : ℕ) : Type 0 where
    pub to_at : ℕ
    pub step_at : ℕ
    pub opens : W at ≡ FOR
    pub variable : v ≡ at + 1
    pub name : W (at + 1) ≡ NAME
    pub from_word : W (at + 2) ≡ FROM
    pub start : ExprAt from (at + 3) to_at
    pub to_word : W to_at ≡ TO
    pub end : ExprAt up_to (to_at + 1) step_at
    pub step_part : StepAt step step_at do_at
    pub do_word : W do_at ≡ DO

  -- d more compound statements may nest in these, as in `list_in d`: "Compound statements (a compact IF isn't one) nest to 16".
  mutual
    pub data StatementAt : (d : ℕ) → Statement → (at to : ℕ) → Type 0 where
      plain : {d : ℕ} {s : Simple} {at n to : ℕ} → SimpleAt s at n → W n ≡ semicolon → to ≡ n + 1 → StatementAt d (simple s) at to
      -- "compact `IF e` with one of these"
      compact : {d i : ℕ} {e : Expr} {s : Simple} {at n m to : ℕ} → i ≡ at → W at ≡ IF → ExprAt e (at + 1) n → ¬ (W n ≡ THEN) → SimpleAt s n m → W m ≡ semicolon → to ≡ m + 1
          → StatementAt d (compact_if i e s) at to
      -- "`IF e THEN .. {ELSEIF e THEN ..} [ELSE ..] ENDIF`"
      full : {d i : ℕ} {a : Arms} {o : Statements} {at n m to : ℕ} → 0 < d → i ≡ at → W at ≡ IF → ArmsAt (d - 1) a (at + 1) n → ElseAt (d - 1) o n m → W m ≡ ENDIF → to ≡ m + 1
          → StatementAt d (full_if i a o) at to
      -- "`FOR i FROM e TO e [STEP e] DO .. ENDFOR`"
      counting : {d i v : ℕ} {a b : Expr} {c : Option Expr} {body : Statements} {end at n to : ℕ} → 0 < d → i ≡ at → ForHeadAt v a b c at n → ListAt (d - 1) body (n + 1) end → W end ≡ ENDFOR
          → to ≡ end + 1 → StatementAt d (for i v a b c body end) at to
      -- "`WHILE e DO .. ENDWHILE`"
      looping : {d i : ℕ} {e : Expr} {body : Statements} {at n m to : ℕ} → 0 < d → i ≡ at → W at ≡ WHILE → ExprAt e (at + 1) n → W n ≡ DO → ListAt (d - 1) body (n + 1) m → W m ≡ ENDWHILE
          → to ≡ m + 1 → StatementAt d (while i e body) at to
      -- "`TEST e {CASE c,..,c: ..} [DEFAULT: ..] ENDTEST`"
      testing : {d i : ℕ} {e : Expr} {c : Cases} {o : Statements} {at n m k to : ℕ} → 0 < d → i ≡ at → W at ≡ TEST → ExprAt e (at + 1) n → CasesAt (d - 1) c n m → DefaultAt (d - 1) o m k
          → W k ≡ ENDTEST → to ≡ k + 1 → StatementAt d (test i e c o) at to

    -- "Lists may be empty." A list ends before the first word that starts no statement.
    pub data ListAt : (d : ℕ) → Statements → (at to : ℕ) → Type 0 where
      ended : {d at to : ℕ} → starts_statement (W to) ≡ false → to ≡ at → ListAt d empty at to
      begun : {d : ℕ} {s : Statement} {r : Statements} {at n to : ℕ} → starts_statement (W at) ≡ true → StatementAt d s at n → ListAt d r n to → ListAt d (s then r) at to

    -- "e THEN .. {ELSEIF e THEN ..}"
    pub data ArmsAt : (d : ℕ) → Arms → (at to : ℕ) → Type 0 where
      last-arm : {d : ℕ} {e : Expr} {b : Statements} {at n to : ℕ} → ExprAt e at n → W n ≡ THEN → ListAt d b (n + 1) to → ¬ (W to ≡ ELSEIF) → ArmsAt d (arm e b no_arm) at to
      more-arms : {d : ℕ} {e : Expr} {b : Statements} {r : Arms} {at n m to : ℕ} → ExprAt e at n → W n ≡ THEN → ListAt d b (n + 1) m → W m ≡ ELSEIF → ArmsAt d r (m + 1) to → ArmsAt d (arm e b r) at to

    -- "[ELSE ..]"
    pub data ElseAt : (d : ℕ) → Statements → (at to : ℕ) → Type 0 where
      no-else : {d at to : ℕ} → ¬ (W at ≡ ELSE) → to ≡ at → ElseAt d empty at to
      an-else : {d : ℕ} {o : Statements} {at to : ℕ} → W at ≡ ELSE → ListAt d o (at + 1) to → ElseAt d o at to

    -- "{CASE c,..,c: ..}"
    pub data CasesAt : (d : ℕ) → Cases → (at to : ℕ) → Type 0 where
      no-more-cases : {d at to : ℕ} → ¬ (W to ≡ CASE) → to ≡ at → CasesAt d no_case at to
      one-case : {d : ℕ} {cs : List Expr} {b : Statements} {r : Cases} {at n m to : ℕ} → W at ≡ CASE → ExprsAt cs (at + 1) n → W n ≡ colon → ListAt d b (n + 1) m → CasesAt d r m to
          → CasesAt d (case cs b r) at to

    -- "[DEFAULT: ..]"
    pub data DefaultAt : (d : ℕ) → Statements → (at to : ℕ) → Type 0 where
      no_default : {d at to : ℕ} → ¬ (W at ≡ DEFAULT) → to ≡ at → DefaultAt d empty at to
      a-default : {d : ℕ} {o : Statements} {at to : ℕ} → W at ≡ DEFAULT → W (at + 1) ≡ colon → ListAt d o (at + 2) to → DefaultAt d o at to

  -- ---- data
  -- From behind the name on; `opens` is the sort of the declaration's first word.
  pub data ContentAt (opens : ℕ) : Content → (at to : ℕ) → Type 0 where
    -- "`VAR type name [:= c];`"
    no-content : {at to : ℕ} → opens ≡ VAR → ¬ (W at ≡ becomes) → ¬ (W at ≡ open_brace) → to ≡ at → ContentAt opens variable_data at to
    initial : {e : Expr} {at to : ℕ} → opens ≡ VAR → W at ≡ becomes → ExprAt e (at + 1) to → ContentAt opens (initial_data e) at to
    -- "`VAR type name{c};`": "a declaration's own [braces] not", so what stands in them is not nested.
    sized : {e : Expr} {at n to : ℕ} → opens ≡ VAR → W at ≡ open_brace → ExprAt e (at + 1) n → W n ≡ close_brace → to ≡ n + 1 → ContentAt opens (array_data e) at to
    -- "`CONST type name := c;`"
    constant : {e : Expr} {at to : ℕ} → opens ≡ CONST → W at ≡ becomes → ExprAt e (at + 1) to → ContentAt opens (constant_data e) at to

  pub record DeclaredAt (x : Declared) (at to : ℕ) : Type 0 where
    -- the semicolon
    pub end : ℕ
    pub type : x.type ≡ W (at + 1)
    pub typed : is_type (W (at + 1)) ≡ true
    pub named : x.name ≡ at + 2
    pub name : W (at + 2) ≡ NAME
    pub content : ContentAt (W at) x.content (at + 3) end
    pub ends : W end ≡ semicolon
    pub after : to ≡ end + 1

  abbrev pub DeclarationsAt : List Declared → (at to : ℕ) → Type 0
  DeclarationsAt ds at to = RepeatedAt W starts_data DeclaredAt ds at to

  -- ---- routines
  -- "Parameters: `type name`, by value, comma-separated."
  pub record ParameterAt (p : Parameter) (at to : ℕ) : Type 0 where
    pub type : p.type ≡ W at
    pub typed : is_type (W at) ≡ true
    pub named : p.name ≡ at + 1
    pub name : W (at + 1) ≡ NAME
    pub after : to ≡ at + 2

  abbrev pub ParametersAt : List Parameter → (at to : ℕ) → Type 0
  ParametersAt ps at to = ClosedAt W ParameterAt close_paren ps at to

  -- "PROC name", "FUNC type name", up to the name; and the word at the routine's end
  pub data HeadAt : (result : Option ℕ) → (closing : ℕ) → (at name : ℕ) → Type 0 where
    a-proc : {closing at name : ℕ} → W at ≡ PROC → name ≡ at + 1 → closing ≡ ENDPROC → HeadAt none closing at name
    a-func : {t closing at name : ℕ} → W at ≡ FUNC → t ≡ W (at + 1) → is_type (W (at + 1)) ≡ true → name ≡ at + 2 → closing ≡ ENDFUNC → HeadAt (some t) closing at name

  -- Compound statements nest to N in these.
  module _ (N : ℕ) where
    -- A list of a routine, up to the word that closes it.
    pub record RoutineListIn (l : RoutineList) (at to : ℕ) : Type 0 where
      pub statements : ListAt N l.statements at to
      pub closes : l.closes ≡ to

    -- "optionally ERROR and statements", and UNDO and statements: a list behind a word of that sort.
    pub data ListBehindIn (sort : ℕ) : Option RoutineList → (at to : ℕ) → Type 0 where
      no-list : {at to : ℕ} → ¬ (W at ≡ sort) → to ≡ at → ListBehindIn sort none at to
      a-list : {l : RoutineList} {at to : ℕ} → W at ≡ sort → RoutineListIn l (at + 1) to → ListBehindIn sort (some l) at to

    -- "PROC name(params) or FUNC type name(params): data, statements, optionally ERROR and statements, ENDPROC or ENDFUNC."
    -- Request 6: "Last, after any ERROR list, a routine may have UNDO and statements."
    pub record RoutineIn (r : Routine) (at to : ℕ) : Type 0 where
      -- the parenthesis behind the parameters, the first word of the list, the word that closes it or its ERROR list, the word at the end
      pub close : ℕ
      pub begin : ℕ
      pub undo_at : ℕ
      pub end : ℕ
      pub head : HeadAt r.result (W end) at r.name
      pub name : W r.name ≡ NAME
      pub opens : W (r.name + 1) ≡ open_paren
      pub parameters : ParametersAt r.parameters (r.name + 2) close
      pub closes : W close ≡ close_paren
      pub declared : DeclarationsAt r.declared (close + 1) begin
      pub body : RoutineListIn r.body begin r.body.closes
      pub handler : ListBehindIn ERROR r.handler r.body.closes undo_at
      pub undo : ListBehindIn UNDO r.undo undo_at end
      pub after : to ≡ end + 1

    abbrev pub RoutinesIn : List Routine → (at to : ℕ) → Type 0
    RoutinesIn rs at to = RepeatedAt W starts_routine RoutineIn rs at to

    -- "MODULE name, data, routines, ENDMODULE, then nothing." There are so many words.
    pub record ModuleIn (m : Module) (words : ℕ) : Type 0 where
      -- the first word of the routines, and ENDMODULE
      pub begin : ℕ
      pub end : ℕ
      pub opens : W 0 ≡ MODULE
      pub name : W 1 ≡ NAME
      pub declared : DeclarationsAt m.declared 2 begin
      pub routines : RoutinesIn m.routines begin end
      pub closes : W end ≡ ENDMODULE
      pub after : words ≡ end + 1
      pub nothing : W words ≡ NOTHING

    -- The words are this module.
    pub record StandsIn (m : Module) : Type 0 where
      pub words : ℕ
      pub form : ModuleIn m words

  -- "Compound statements [..] nest to 16"
  abbrev pub RoutineListAt : RoutineList → (at to : ℕ) → Type 0
  RoutineListAt l at to = RoutineListIn nestings l at to

  abbrev pub ListBehindAt : (sort : ℕ) → Option RoutineList → (at to : ℕ) → Type 0
  ListBehindAt sort o at to = ListBehindIn nestings sort o at to

  abbrev pub RoutineAt : Routine → (at to : ℕ) → Type 0
  RoutineAt r at to = RoutineIn nestings r at to

  abbrev pub RoutinesAt : List Routine → (at to : ℕ) → Type 0
  RoutinesAt rs at to = RoutinesIn nestings rs at to

  abbrev pub ModuleAt : Module → (words : ℕ) → Type 0
  ModuleAt m words = ModuleIn nestings m words

  abbrev pub Stands : Module → Type 0
  Stands m = StandsIn nestings m
