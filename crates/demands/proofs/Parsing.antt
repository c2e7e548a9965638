-- What the form of a module ensures: a refusal is 8, or 9 at a word; each word that a tree names is there, and each statement of a tree begins with a word of its sort. One law for each thing that is read.
use mathlib.Core.Path.{◌≡◌, refl, sym, ap, ◌∙◌}
use mathlib.Core.Bool.{Bool, true, false, ◌&&◌, ◌||◌}
use mathlib.Core.List.{List}
use mathlib.Core.Option.{Option, none, some}
use Prim.Native.Nat.{ℕ, zero, suc, ◌+◌, ◌-◌}
use native.Mathlib.Omega.{arith}
use lib.Dec.{eqb}
use borrow.Author.Tests.{eqb-true}
use Rattle.laws.proofs.Tests.{false-true}
use Rattle.paper.specs.Sorts.{NAME, STRING, NUM, NOTHING, close_brace, close_paren, open_brace, open_paren, comma, semicolon, becomes, colon, backslash, CASE, DEFAULT, DO, ELSE, ELSEIF, ENDFOR, ENDFUNC}
use Rattle.paper.specs.Sorts.{ENDIF, ENDMODULE, ENDPROC, ENDTEST, ENDWHILE, ERROR, EXIT, FOR, FROM, IF, MODULE, PROC, RAISE, RETRY, RETURN, STEP, TEST, THEN, TO, TPREADNUM, TPWRITE, TRYNEXT, UNDO, VAR}
use Rattle.paper.specs.Sorts.{WHILE}
use Rattle.paper.specs.Trees.{variable_data, initial_data, array_data, constant_data, first, Expr, leaf, element, nested, signed, joined, Target, Simple, assign, assign_call, call, returns, raises, exits}
use Rattle.paper.specs.Trees.{retries, tries_next, writes, reads, Statement, Statements, Arms, Cases, simple, compact_if, full_if, for, while, test, empty, ◌then◌, no_arm, arm, no_case, case, Content}
use Rattle.paper.specs.Trees.{Declared, Parameter, RoutineList, Routine, Module}
use Rattle.paper.specs.Expressions.{Parsed, Parser, got, no, ◌>>=◌, parts, nestings, sums, relations, disjunctions, level_of, stands_before, is_literal, is_type, starts_data, starts_routine}
use Rattle.paper.specs.Expressions.{starts_statement, expect, expect_type, in_parentheses, indexed, named, operand, chain, prefixed, level, expr_in, expr, unless, separated, repeated, exprs, arguments}
use Rattle.paper.specs.Statements.{target_index, target, value_side, call_side, right_side, assignment, procedure_call, started_by_name, with_optional, written, tp_write, tp_read_num, simple_word}
use Rattle.paper.specs.Statements.{simple_statement, else_part, last_arm, arms, if_then, if_simple, if_statement, step_part, for_statement, while_statement, default_part, last_case, cases, test_statement}
use Rattle.paper.specs.Statements.{opening, plain_statement, statement, statements, list_in, list}
use Rattle.paper.specs.Form.{initial_part, size_part, var_part, const_part, datum, declaration, declarations, parameter, parameters, list_behind, routine_from, function, routine, routines, formed}
use Rattle.paper.specs.Checks.{is_some}
use Rattle.raised.proofs.Choices.{chosen, forked, chosen_by, forked-by}
use Rattle.demands.specs.Vocabulary.{All, nothing, ◌also◌, ClosesRoutine, by-endproc, by-endfunc, Closes, by-error, by-undo, by-end}

-- The word i is there.
abbrev pub Is : (ℕ → ℕ) → ℕ → Type 0
Is W i = ¬ (W i ≡ NOTHING)

-- Refused by 8; or by 9, at a word.
pub data Refuses (W : ℕ → ℕ) (number at : ℕ) : Type 0 where
  by_8 : number ≡ 8 → Refuses W number at
  by-9 : number ≡ 9 → Is W at → Refuses W number at

-- What is read has a property; or it is refused so.
abbrev pub Reads : {A : Type 0} → (ℕ → ℕ) → (A → Type 0) → Parsed A → Type 0
Reads W Q (got a) = Q a
Reads W Q (no number at) = Refuses W number at

then-reads : {A B : Type 0} (W : ℕ → ℕ) (Q : A → Type 0) (S : B → Type 0) (p : Parsed A) (f : A → Parsed B) → Reads W Q p → ((a : A) → Q a → Reads W S (f a)) → Reads W S (p >>= f)
unfolding ◌>>=◌
then-reads W Q S (got a) f h g = g a h
then-reads W Q S (no number at) f h g = h

-- ---- the words that a tree names are there
module _ (W : ℕ → ℕ) where
  pub is-by : (i n : ℕ) → W i ≡ suc n → Is W i
  is-by i n e z = omega arith

  abbrev pub ExprIn : Expr → Type 0
  ExprIn (leaf at) = Is W at
  ExprIn (element at e) = Is W at × ExprIn e
  ExprIn (nested at e) = Is W at × ExprIn e
  ExprIn (signed at e) = Is W at × ExprIn e
  ExprIn (joined at a b) = ExprIn a × ExprIn b

  pub first-in : (e : Expr) → ExprIn e → Is W (first e)
  unfolding first
  first-in (leaf at) h = h
  first-in (element at e) h = h.0
  first-in (nested at e) h = h.0
  first-in (signed at e) h = h.0
  first-in (joined at a b) h = first-in a h.0

  abbrev pub OptionalIn : Option Expr → Type 0
  OptionalIn none = Unit
  OptionalIn (some e) = ExprIn e

  abbrev pub ReadsExpr : Parsed (Expr × ℕ) → Type 0
  ReadsExpr p = Reads W (λ x. ExprIn x.0) p

  -- what a test of a word says of it
  tested : (f : ℕ → Bool) (i : ℕ) → f NOTHING ≡ false → f (W i) ≡ true → Is W i
  tested f i z t e = false-true (sym z ∙ ap f (sym e) ∙ t)

module _ (W : ℕ → ℕ) where
  expect-reads : (sort at : ℕ) → Reads W (λ n. W at ≡ sort) (expect W sort at)
  unfolding expect
  expect-reads sort at = chosen_by (Reads W (λ n. W at ≡ sort)) (eqb (W at) sort) _ _ (λ t. eqb-true (W at) sort t) (λ t. (by_8 refl))

  type_reads : (at : ℕ) → Reads W (λ n. n ≡ at + 1) (expect_type W at)
  unfolding expect_type
  type_reads at = chosen (Reads W (λ n. n ≡ at + 1)) (is_type (W at)) _ _ refl (by_8 refl)

  -- ---- expressions
  -- the word before a place
  before : (i j : ℕ) → j - 1 ≡ i → Is W i → Is W (j - 1)
  before i j e h = rw e h

  module _ (inner : Parser Expr) (h : (at : ℕ) → Is W (at - 1) → ReadsExpr W (inner at)) where
    parentheses-reads : (at : ℕ) → Is W at → ReadsExpr W (in_parentheses W inner at)
    unfolding in_parentheses
    parentheses-reads at i =
        then-reads W (λ x. ExprIn W x.0) _ _ _ (h (at + 1) (before at (at + 1) (omega arith) i)) (λ e k. then-reads W _ _ _ _ (expect-reads close_paren e.1) (λ m k'. (i, k)))

    indexed-reads : (at : ℕ) → Is W at → Is W (at + 1) → ReadsExpr W (indexed W inner at)
    unfolding indexed
    indexed-reads at i b = then-reads W (λ x. ExprIn W x.0) _ _ _ (h (at + 2) (before (at + 1) (at + 2) (omega arith) b)) (λ e k. then-reads W _ _ _ _ (expect-reads close_brace e.1) (λ m k'. (i, k)))

    named-reads : (at : ℕ) → Is W at → ReadsExpr W (named W inner at)
    unfolding named
    named-reads at i =
        chosen_by (ReadsExpr W) (eqb (W (at + 1)) open_brace) _ _ (λ t. indexed-reads at i (tested W (λ s. eqb s open_brace) (at + 1) refl t)) (λ t. i)

    operand-reads : (at : ℕ) → ReadsExpr W (operand W inner at)
    unfolding operand is_literal
    operand-reads at =
        chosen_by (ReadsExpr W) (eqb (W at) open_paren) _ _ (λ t. parentheses-reads at (tested W (λ s. eqb s open_paren) at refl t)) (λ _.
        chosen_by (ReadsExpr W) (eqb (W at) NAME) _ _ (λ t. named-reads at (tested W (λ s. eqb s NAME) at refl t)) (λ _.
        chosen_by (ReadsExpr W) (is_literal (W at)) _ _ (λ t. tested W is_literal at refl t) (λ _. (by_8 refl))))

    chain-reads : (p j : ℕ) (sub : Parser Expr) → ((at : ℕ) → ReadsExpr W (sub at)) → (e : Expr) (at : ℕ) → ExprIn W e → ReadsExpr W (chain W p j sub e at)
    unfolding chain
    chain-reads zero j sub s e at i = (by_8 refl)
    chain-reads (suc p) j sub s e at i =
        forked (ReadsExpr W) (eqb (level_of (W at)) j) _ _
        (then-reads W (λ x. ExprIn W x.0) _ _ _ (s (at + 1)) (λ u k.
        forked (ReadsExpr W) (eqb j relations) _ _ (i, k) (chain-reads p j sub s (joined at e u.0) u.1 (i, k))))
        i

    prefixed-reads : (j : ℕ) (sub : Parser Expr) → ((at : ℕ) → ReadsExpr W (sub at)) → (at : ℕ) → ReadsExpr W (prefixed W j sub at)
    unfolding prefixed stands_before
    prefixed-reads j sub s at =
        forked-by (ReadsExpr W) (stands_before j (W at)) _ _
        (λ t. then-reads W (λ x. ExprIn W x.0) _ _ _ (s (at + 1)) (λ e k. (tested W (stands_before j) at (nothing-stands j) t, k)))
        (λ t. s at)
      where
        nothing-stands : (j : ℕ) → stands_before j NOTHING ≡ false
        nothing-stands j = chosen (λ (b : Bool). b ≡ false) (eqb j disjunctions) _ _ refl (chosen (λ (b : Bool). b ≡ false) (eqb j sums) _ _ refl refl)

    level-reads : (j at : ℕ) → ReadsExpr W (level W inner j at)
    unfolding level
    level-reads zero at = operand-reads at
    level-reads (suc j) at =
        then-reads W (λ x. ExprIn W x.0) _ _ _ (prefixed-reads (suc j) (level W inner j) (level-reads j) at) (λ e k.
        chain-reads parts (suc j) (level W inner j) (level-reads j) e.0 e.1 k)

  nested-reads : (d at : ℕ) → Is W (at - 1) → ReadsExpr W (expr_in W d at)
  unfolding expr_in
  nested-reads zero at i = by-9 refl i
  nested-reads (suc d) at i = level-reads (expr_in W d) (nested-reads d) _ at

  expr-reads : (at : ℕ) → ReadsExpr W (expr W at)
  unfolding expr expr_in
  expr-reads at = level-reads (expr_in W nestings) (nested-reads nestings) _ at

  abbrev ReadsOptional : Parsed (Option Expr × ℕ) → Type 0
  ReadsOptional p = Reads W (λ x. OptionalIn W x.0) p

  unless-reads : (sort at : ℕ) → ReadsOptional (unless W sort at)
  unfolding unless
  unless-reads sort at = forked ReadsOptional (eqb (W at) sort) _ _ tt (then-reads W (λ x. ExprIn W x.0) _ _ _ (expr-reads at) (λ e k. k))

  -- ---- sequences
  separated-reads : {A : Type 0} (Q : A → Type 0) (p : ℕ) (one : Parser A) → ((at : ℕ) → Reads W (λ x. Q x.0) (one at)) → (at : ℕ) → Reads W (λ x. All Q x.0) (separated W p one at)
  unfolding separated
  separated-reads Q zero one h at = (by_8 refl)
  separated-reads Q (suc p) one h at =
      then-reads W (λ x. Q x.0) _ _ _ (h at) (λ a k.
      forked (Reads W (λ x. All Q x.0)) (eqb (W a.1) comma) _ _
      (then-reads W (λ x. All Q x.0) _ _ _ (separated-reads Q p one h (a.1 + 1)) (λ r k'. k also k'))
      (k also nothing))

  repeated-reads : {A : Type 0} (Q : A → Type 0) (p : ℕ) (starts : ℕ → Bool) (one : Parser A) → ((at : ℕ) → Reads W (λ x. Q x.0) (one at)) → (at : ℕ)
      → Reads W (λ x. All Q x.0) (repeated W p starts one at)
  unfolding repeated
  repeated-reads Q zero starts one h at = (by_8 refl)
  repeated-reads Q (suc p) starts one h at =
      forked (Reads W (λ x. All Q x.0)) (starts (W at)) _ _
      (then-reads W (λ x. Q x.0) _ _ _ (h at) (λ a k. then-reads W (λ x. All Q x.0) _ _ _ (repeated-reads Q p starts one h a.1) (λ r k'. k also k')))
      nothing

  abbrev ReadsExprs : Parsed (List Expr × ℕ) → Type 0
  ReadsExprs p = Reads W (λ x. All (ExprIn W) x.0) p

  exprs-reads : (at : ℕ) → ReadsExprs (exprs W at)
  unfolding exprs
  exprs-reads at = separated-reads (ExprIn W) parts (expr W) expr-reads at

  arguments-reads : (closing at : ℕ) → ReadsExprs (arguments W closing at)
  unfolding arguments
  arguments-reads closing at = chosen ReadsExprs (eqb (W at) closing) _ _ nothing (exprs-reads at)

-- ---- the sorts of the words that statements and lists begin or close with
module _ (W : ℕ → ℕ) where
  pub record SortsOfTarget (t : Target) : Type 0 where
    pub name : W t.name ≡ NAME
    pub index : OptionalIn W t.index

  abbrev pub SimpleSorts : Simple → Type 0
  SimpleSorts (assign t e) = SortsOfTarget t × ExprIn W e
  SimpleSorts (assign_call t f es) = SortsOfTarget t × (W f ≡ NAME) × All (ExprIn W) es
  SimpleSorts (call p es) = (W p ≡ NAME) × All (ExprIn W) es
  SimpleSorts (returns at e) = (W at ≡ RETURN) × OptionalIn W e
  SimpleSorts (raises at e) = (W at ≡ RAISE) × OptionalIn W e
  SimpleSorts (exits at) = W at ≡ EXIT
  SimpleSorts (retries at) = W at ≡ RETRY
  SimpleSorts (tries_next at) = W at ≡ TRYNEXT
  SimpleSorts (writes at s e) = (W at ≡ TPWRITE) × OptionalIn W e
  SimpleSorts (reads at t s) = (W at ≡ TPREADNUM) × SortsOfTarget t

  pub record SortsOfFor (at v : ℕ) (a b : Expr) (c : Option Expr) : Type 0 where
    pub for : W at ≡ FOR
    pub variable : W v ≡ NAME
    pub start : ExprIn W a
    pub end : ExprIn W b
    pub step : OptionalIn W c

  abbrev mutual
    pub Sorts : Statement → Type 0
    Sorts (simple s) = SimpleSorts s
    Sorts (compact_if at e s) = (W at ≡ IF) × ExprIn W e × SimpleSorts s
    Sorts (full_if at a o) = (W at ≡ IF) × SortsOfArms a × SortsOfList o
    Sorts (for at v a b c body end) = SortsOfFor at v a b c × SortsOfList body
    Sorts (while at e body) = (W at ≡ WHILE) × ExprIn W e × SortsOfList body
    Sorts (test at e c d) = (W at ≡ TEST) × ExprIn W e × SortsOfCases c × SortsOfList d

    pub SortsOfList : Statements → Type 0
    SortsOfList empty = Unit
    SortsOfList (s then r) = Sorts s × SortsOfList r

    pub SortsOfArms : Arms → Type 0
    SortsOfArms no_arm = Unit
    SortsOfArms (arm e b r) = ExprIn W e × SortsOfList b × SortsOfArms r

    pub SortsOfCases : Cases → Type 0
    SortsOfCases no_case = Unit
    SortsOfCases (case cs b r) = All (ExprIn W) cs × SortsOfList b × SortsOfCases r

  -- A list of a routine, closed by a word of such a sort; and one that it may have or not.
  pub record SortsOfRoutineList (closing : ℕ → Type 0) (l : RoutineList) : Type 0 where
    pub statements : SortsOfList l.statements
    pub closes : closing (W l.closes)

  abbrev pub SortsOfOptional : (closing : ℕ → Type 0) → Option RoutineList → Type 0
  SortsOfOptional closing none = Unit
  SortsOfOptional closing (some l) = SortsOfRoutineList closing l

  -- data and parameters
  abbrev pub ContentIn : Content → Type 0
  ContentIn variable_data = Unit
  ContentIn (initial_data e) = ExprIn W e
  ContentIn (array_data e) = ExprIn W e
  ContentIn (constant_data e) = ExprIn W e

  pub record DeclaredIn (d : Declared) : Type 0 where
    pub name : Is W d.name
    pub content : ContentIn d.content

  pub record ParameterIn (p : Parameter) : Type 0 where
    pub name : Is W p.name

  pub record SortsOfRoutine (r : Routine) : Type 0 where
    pub name : Is W r.name
    pub parameters : All ParameterIn r.parameters
    pub declared : All DeclaredIn r.declared
    pub body : SortsOfRoutineList (λ s. Closes s (is_some r.result)) r.body
    pub handler : SortsOfOptional (λ s. Closes s (is_some r.result)) r.handler
    pub undo : SortsOfOptional (λ s. ClosesRoutine s (is_some r.result)) r.undo

-- a test of two
both_first : (a b : Bool) → (a && b) ≡ true → a ≡ true
both_first true b h = refl
both_first false b h = h

-- ---- statements
module _ (W : ℕ → ℕ) where
  abbrev ReadsTarget : Parsed (Target × ℕ) → Type 0
  ReadsTarget p = Reads W (λ x. SortsOfTarget W x.0) p

  abbrev ReadsSimple : Parsed (Simple × ℕ) → Type 0
  ReadsSimple p = Reads W (λ x. SimpleSorts W x.0) p

  abbrev ReadsStatement : Parsed (Statement × ℕ) → Type 0
  ReadsStatement p = Reads W (λ x. Sorts W x.0) p

  abbrev ReadsList : Parsed (Statements × ℕ) → Type 0
  ReadsList p = Reads W (λ x. SortsOfList W x.0) p

  index_reads : (at : ℕ) → W at ≡ NAME → Is W (at + 1) → ReadsTarget (target_index W at)
  unfolding target_index
  index_reads at n b =
      then-reads W (λ x. ExprIn W x.0) _ _ _ (nested-reads W nestings (at + 2) (before W (at + 1) (at + 2) (omega arith) b)) (λ e k.
      then-reads W _ _ _ _ (expect-reads W close_brace e.1) (λ m k'. record { name = n; index = k }))

  target-reads : (at : ℕ) → ReadsTarget (target W at)
  unfolding target
  target-reads at =
      forked-by ReadsTarget (eqb (W at) NAME) _ _
      (λ t. let n : W at ≡ NAME = eqb-true (W at) NAME t in forked-by ReadsTarget (eqb (W (at + 1)) open_brace) _ _ (λ b. index_reads at n (tested W (λ s. eqb s open_brace) (at + 1) refl b)) (λ b. record { name = n; index = tt }))
      (λ t. (by_8 refl))

  value-reads : (t : Target) (at : ℕ) → SortsOfTarget W t → ReadsSimple (value_side W t at)
  unfolding value_side
  value-reads t at n = then-reads W (λ x. ExprIn W x.0) _ _ _ (expr-reads W at) (λ e k. (n, k))

  call-reads : (t : Target) (at : ℕ) → SortsOfTarget W t → W at ≡ NAME → ReadsSimple (call_side W t at)
  unfolding call_side
  call-reads t at n m =
      then-reads W (λ x. All (ExprIn W) x.0) _ _ _ (arguments-reads W close_paren (at + 2)) (λ e k.
      then-reads W _ _ _ _ (expect-reads W close_paren e.1) (λ i k'. (n, m, k)))

  right-reads : (t : Target) (at : ℕ) → SortsOfTarget W t → ReadsSimple (right_side W t at)
  unfolding right_side
  right-reads t at n =
      chosen_by ReadsSimple (eqb (W at) NAME && eqb (W (at + 1)) open_paren) _ _
      (λ h. call-reads t at n (eqb-true (W at) NAME (both_first _ _ h)))
      (λ h. value-reads t at n)

  assignment-reads : (at : ℕ) → ReadsSimple (assignment W at)
  unfolding assignment
  assignment-reads at =
      then-reads W (λ x. SortsOfTarget W x.0) _ _ _ (target-reads at) (λ t k.
      then-reads W _ _ _ _ (expect-reads W becomes t.1) (λ m k'. right-reads t.0 m k))

  procedure-reads : (at : ℕ) → W at ≡ NAME → ReadsSimple (procedure_call W at)
  unfolding procedure_call
  procedure-reads at n = then-reads W (λ x. All (ExprIn W) x.0) _ _ _ (arguments-reads W semicolon (at + 1)) (λ e k. (n, k))

  name-reads : (at : ℕ) → W at ≡ NAME → ReadsSimple (started_by_name W at)
  unfolding started_by_name
  name-reads at n = chosen ReadsSimple (eqb (W (at + 1)) becomes || eqb (W (at + 1)) open_brace) _ _ (assignment-reads at) (procedure-reads at n)

  optional-reads : (make : ℕ → Option Expr → Simple) (at : ℕ) → ((e : Option Expr) → OptionalIn W e → SimpleSorts W (make at e)) → ReadsSimple (with_optional W make at)
  unfolding with_optional
  optional-reads make at h = then-reads W (λ x. OptionalIn W x.0) _ _ _ (unless-reads W semicolon (at + 1)) (λ e k. h e.0 k)

  written-reads : (at : ℕ) → ReadsOptional W (written W at)
  unfolding written
  written-reads at =
      forked (ReadsOptional W) (eqb (W at) backslash) _ _
      (then-reads W _ _ _ _ (expect-reads W NUM (at + 1)) (λ n k.
      then-reads W _ _ _ _ (expect-reads W becomes n) (λ m k'. then-reads W (λ x. ExprIn W x.0) _ _ _ (expr-reads W m) (λ e k''. k''))))
      tt

  write-reads : (at : ℕ) → W at ≡ TPWRITE → ReadsSimple (tp_write W at)
  unfolding tp_write
  write-reads at n =
      then-reads W _ _ _ _ (expect-reads W STRING (at + 1)) (λ m k. then-reads W (λ x. OptionalIn W x.0) _ _ _ (written-reads m) (λ e k'. (n, k')))

  read-reads : (at : ℕ) → W at ≡ TPREADNUM → ReadsSimple (tp_read_num W at)
  unfolding tp_read_num
  read-reads at n =
      then-reads W (λ x. SortsOfTarget W x.0) _ _ _ (target-reads (at + 1)) (λ t k.
      then-reads W _ _ _ _ (expect-reads W comma t.1) (λ m k'. then-reads W _ _ _ _ (expect-reads W STRING m) (λ i k''. (n, k))))

  word-reads : (at : ℕ) → ReadsSimple (simple_word W at)
  unfolding simple_word
  word-reads at =
      chosen_by ReadsSimple (eqb (W at) NAME) _ _ (λ t. name-reads at (eqb-true _ _ t)) (λ _.
      chosen_by ReadsSimple (eqb (W at) RETURN) _ _ (λ t. optional-reads returns at (λ e k. (eqb-true _ _ t, k))) (λ _.
      chosen_by ReadsSimple (eqb (W at) RAISE) _ _ (λ t. optional-reads raises at (λ e k. (eqb-true _ _ t, k))) (λ _.
      chosen_by ReadsSimple (eqb (W at) EXIT) _ _ (λ t. eqb-true _ _ t) (λ _.
      chosen_by ReadsSimple (eqb (W at) RETRY) _ _ (λ t. eqb-true _ _ t) (λ _.
      chosen_by ReadsSimple (eqb (W at) TRYNEXT) _ _ (λ t. eqb-true _ _ t) (λ _.
      chosen_by ReadsSimple (eqb (W at) TPWRITE) _ _ (λ t. write-reads at (eqb-true _ _ t)) (λ _.
      chosen_by ReadsSimple (eqb (W at) TPREADNUM) _ _ (λ t. read-reads at (eqb-true _ _ t)) (λ _. (by_8 refl)))))))))

  simple-reads : (at : ℕ) → ReadsSimple (simple_statement W at)
  unfolding simple_statement
  simple-reads at = then-reads W (λ x. SimpleSorts W x.0) _ _ _ (word-reads at) (λ s k. then-reads W _ _ _ _ (expect-reads W semicolon s.1) (λ m k'. k))

  -- ---- compound statements
  abbrev ReadsArms : Parsed ((Arms × Statements) × ℕ) → Type 0
  ReadsArms p = Reads W (λ x. SortsOfArms W x.0.0 × SortsOfList W x.0.1) p

  abbrev ReadsCases : Parsed ((Cases × Statements) × ℕ) → Type 0
  ReadsCases p = Reads W (λ x. SortsOfCases W x.0.0 × SortsOfList W x.0.1) p

  module _ (list : Parser Statements) (h : (at : ℕ) → ReadsList (list at)) where
    else-reads : (at : ℕ) → ReadsList (else_part W list at)
    unfolding else_part
    else-reads at = forked ReadsList (eqb (W at) ELSE) _ _ (h (at + 1)) tt

    last-arm-reads : (e : Expr) (b : Statements) (at : ℕ) → ExprIn W e → SortsOfList W b → ReadsArms (last_arm W list e b at)
    unfolding last_arm
    last-arm-reads e b at c k =
        then-reads W (λ x. SortsOfList W x.0) _ _ _ (else-reads at) (λ o k'. then-reads W _ _ _ _ (expect-reads W ENDIF o.1) (λ m k''. ((c, k, tt), k')))

    arms-reads : (p : ℕ) (e : Expr) (at : ℕ) → ExprIn W e → ReadsArms (arms W p list e at)
    unfolding arms
    arms-reads zero e at i = (by_8 refl)
    arms-reads (suc p) e at i =
        then-reads W (λ x. SortsOfList W x.0) _ _ _ (h at) (λ b k.
        forked ReadsArms (eqb (W b.1) ELSEIF) _ _
        (then-reads W (λ x. ExprIn W x.0) _ _ _ (expr-reads W (b.1 + 1)) (λ c k₁.
        then-reads W _ _ _ _ (expect-reads W THEN c.1) (λ n k₂.
        then-reads W (λ x. SortsOfArms W x.0.0 × SortsOfList W x.0.1) _ _ _ (arms-reads p c.0 n k₁) (λ a k₃. ((i, k, k₃.0), k₃.1)))))
        (last-arm-reads e b.0 b.1 i k))

    then-list-reads : (at : ℕ) (e : Expr) (n : ℕ) → ExprIn W e → W at ≡ IF → ReadsStatement (if_then W at list e n)
    unfolding if_then
    then-list-reads at e n c i =
        then-reads W (λ x. SortsOfArms W x.0.0 × SortsOfList W x.0.1) _ _ _ (arms-reads parts e (n + 1) c) (λ a k. (i, k.0, k.1))

    step-reads : (at : ℕ) → ReadsOptional W (step_part W at)
    unfolding step_part
    step-reads at = forked (ReadsOptional W) (eqb (W at) STEP) _ _ (then-reads W (λ x. ExprIn W x.0) _ _ _ (expr-reads W (at + 1)) (λ e k. k)) tt

    for-reads : (at : ℕ) → W at ≡ FOR → ReadsStatement (for_statement W list at)
    unfolding for_statement
    for-reads at i =
        then-reads W _ _ _ _ (expect-reads W NAME (at + 1)) (λ n₁ v.
        then-reads W _ _ _ _ (expect-reads W FROM n₁) (λ n₂ _.
        then-reads W (λ x. ExprIn W x.0) _ _ _ (expr-reads W n₂) (λ a ha.
        then-reads W _ _ _ _ (expect-reads W TO a.1) (λ n₄ _.
        then-reads W (λ x. ExprIn W x.0) _ _ _ (expr-reads W n₄) (λ b hb.
        then-reads W (λ x. OptionalIn W x.0) _ _ _ (step-reads b.1) (λ c hc.
        then-reads W _ _ _ _ (expect-reads W DO c.1) (λ n₇ _.
        then-reads W (λ x. SortsOfList W x.0) _ _ _ (h n₇) (λ body k.
        then-reads W _ _ _ _ (expect-reads W ENDFOR body.1) (λ n₉ _. (record { for = i; variable = v; start = ha; end = hb; step = hc }, k))))))))))

    while-reads : (at : ℕ) → W at ≡ WHILE → ReadsStatement (while_statement W list at)
    unfolding while_statement
    while-reads at i =
        then-reads W (λ x. ExprIn W x.0) _ _ _ (expr-reads W (at + 1)) (λ e c.
        then-reads W _ _ _ _ (expect-reads W DO e.1) (λ n₂ _.
        then-reads W (λ x. SortsOfList W x.0) _ _ _ (h n₂) (λ body k. then-reads W _ _ _ _ (expect-reads W ENDWHILE body.1) (λ n₄ _. (i, c, k)))))

    default-reads : (at : ℕ) → ReadsList (default_part W list at)
    unfolding default_part
    default-reads at = forked ReadsList (eqb (W at) DEFAULT) _ _ (then-reads W _ _ _ _ (expect-reads W colon (at + 1)) (λ n _. h n)) tt

    last-case-reads : (at : ℕ) → ReadsCases (last_case W list at)
    unfolding last_case
    last-case-reads at =
        then-reads W (λ x. SortsOfList W x.0) _ _ _ (default-reads at) (λ d k. then-reads W _ _ _ _ (expect-reads W ENDTEST d.1) (λ m _. (tt, k)))

    cases-reads : (p at : ℕ) → ReadsCases (cases W p list at)
    unfolding cases
    cases-reads zero at = (by_8 refl)
    cases-reads (suc p) at =
        forked ReadsCases (eqb (W at) CASE) _ _
        (then-reads W (λ x. All (ExprIn W) x.0) _ _ _ (exprs-reads W (at + 1)) (λ c hc.
        then-reads W _ _ _ _ (expect-reads W colon c.1) (λ n₂ _.
        then-reads W (λ x. SortsOfList W x.0) _ _ _ (h n₂) (λ b k.
        then-reads W (λ x. SortsOfCases W x.0.0 × SortsOfList W x.0.1) _ _ _ (cases-reads p b.1) (λ a k'. ((hc, k, k'.0), k'.1))))))
        (last-case-reads at)

    test-reads : (at : ℕ) → W at ≡ TEST → ReadsStatement (test_statement W list at)
    unfolding test_statement
    test-reads at i =
        then-reads W (λ x. ExprIn W x.0) _ _ _ (expr-reads W (at + 1)) (λ e he.
        then-reads W (λ x. SortsOfCases W x.0.0 × SortsOfList W x.0.1) _ _ _ (cases-reads parts e.1) (λ c k. (i, he, k.0, k.1)))

  compact-reads : (at : ℕ) (e : Expr) (n : ℕ) → ExprIn W e → W at ≡ IF → ReadsStatement (if_simple W at e n)
  unfolding if_simple
  compact-reads at e n c i = then-reads W (λ x. SimpleSorts W x.0) _ _ _ (simple-reads n) (λ s k. (i, c, k))

  -- where statements may nest deeper, the list inside is read so
  abbrev Deeper : Option (Parser Statements) → Type 0
  Deeper none = Unit
  Deeper (some list) = (at : ℕ) → ReadsList (list at)

  if-reads : (deeper : Option (Parser Statements)) → Deeper deeper → (at : ℕ) → W at ≡ IF → ReadsStatement (if_statement W deeper at)
  unfolding if_statement
  if-reads none h at i =
      then-reads W (λ x. ExprIn W x.0) _ _ _ (expr-reads W (at + 1)) (λ e c. chosen_by ReadsStatement (eqb (W e.1) THEN) _ _ (λ t. by-9 refl (tested W (λ s. eqb s THEN) e.1 refl t)) (λ t. compact-reads at e.0 e.1 c i))
  if-reads (some list) h at i =
      then-reads W (λ x. ExprIn W x.0) _ _ _ (expr-reads W (at + 1)) (λ e c.
      chosen ReadsStatement (eqb (W e.1) THEN) _ _ (then-list-reads list h at e.0 e.1 c i) (compact-reads at e.0 e.1 c i))

  opening-reads : (deeper : Option (Parser Statements)) → Deeper deeper → (compound : Parser Statements → Parser Statement) (at : ℕ) → Is W at
      → ((list : Parser Statements) → ((n : ℕ) → ReadsList (list n)) → ReadsStatement (compound list at)) → ReadsStatement (opening W deeper compound at)
  unfolding opening
  opening-reads none h compound at i f = by-9 refl i
  opening-reads (some list) h compound at i f = f list h

  plain-reads : (at : ℕ) → ReadsStatement (plain_statement W at)
  unfolding plain_statement
  plain-reads at = then-reads W (λ x. SimpleSorts W x.0) _ _ _ (simple-reads at) (λ s k. k)

  statement-reads : (deeper : Option (Parser Statements)) → Deeper deeper → (at : ℕ) → ReadsStatement (statement W deeper at)
  unfolding statement
  statement-reads deeper h at =
      chosen_by ReadsStatement (eqb (W at) IF) _ _ (λ t. if-reads deeper h at (eqb-true _ _ t)) (λ _.
      chosen_by ReadsStatement (eqb (W at) FOR) _ _ (λ t. opening-reads deeper h _ at (tested W (λ s. eqb s FOR) at refl t) (λ l k. for-reads l k at (eqb-true _ _ t))) (λ _.
      chosen_by ReadsStatement (eqb (W at) WHILE) _ _ (λ t. opening-reads deeper h _ at (tested W (λ s. eqb s WHILE) at refl t) (λ l k. while-reads l k at (eqb-true _ _ t))) (λ _.
      chosen_by ReadsStatement (eqb (W at) TEST) _ _ (λ t. opening-reads deeper h _ at (tested W (λ s. eqb s TEST) at refl t) (λ l k. test-reads l k at (eqb-true _ _ t))) (λ _. plain-reads at))))

  statements-reads : (p : ℕ) (deeper : Option (Parser Statements)) → Deeper deeper → (at : ℕ) → ReadsList (statements W p deeper at)
  unfolding statements
  statements-reads zero deeper h at = (by_8 refl)
  statements-reads (suc p) deeper h at =
      forked ReadsList (starts_statement (W at)) _ _
      (then-reads W (λ x. Sorts W x.0) _ _ _ (statement-reads deeper h at) (λ s k.
      then-reads W (λ x. SortsOfList W x.0) _ _ _ (statements-reads p deeper h s.1) (λ r k'. (k, k'))))
      tt

  list-in-reads : (d at : ℕ) → ReadsList (list_in W d at)
  unfolding list_in
  list-in-reads zero at = statements-reads parts none tt at
  list-in-reads (suc d) at = statements-reads parts (some (list_in W d)) (list-in-reads d) at

  list-reads : (at : ℕ) → ReadsList (list W at)
  unfolding list
  list-reads at = list-in-reads nestings at

  -- ---- data and routines
  abbrev ReadsContent : Parsed (Content × ℕ) → Type 0
  ReadsContent p = Reads W (λ x. ContentIn W x.0) p

  initial-reads : (at : ℕ) → ReadsContent (initial_part W at)
  unfolding initial_part
  initial-reads at = then-reads W (λ x. ExprIn W x.0) _ _ _ (expr-reads W at) (λ c k. k)

  size-reads : (at : ℕ) → ReadsContent (size_part W at)
  unfolding size_part
  size-reads at = then-reads W (λ x. ExprIn W x.0) _ _ _ (expr-reads W at) (λ c k. then-reads W _ _ _ _ (expect-reads W close_brace c.1) (λ m _. k))

  var-reads : (at : ℕ) → ReadsContent (var_part W at)
  unfolding var_part
  var-reads at = chosen ReadsContent (eqb (W at) becomes) _ _ (initial-reads (at + 1)) (chosen ReadsContent (eqb (W at) open_brace) _ _ (size-reads (at + 1)) tt)

  const-reads : (at : ℕ) → ReadsContent (const_part W at)
  unfolding const_part
  const-reads at = then-reads W _ _ _ _ (expect-reads W becomes at) (λ n _. then-reads W (λ x. ExprIn W x.0) _ _ _ (expr-reads W n) (λ c k. k))

  -- the name after a type
  name-after : (i n j : ℕ) → n ≡ i → i ≡ j → W n ≡ NAME → Is W j
  name-after i n j e q h = is-by W j 0 (ap W (sym (e ∙ q)) ∙ h)

  datum-reads : (content : Parser Content) → ((at : ℕ) → ReadsContent (content at)) → (at : ℕ) → Reads W (λ x. DeclaredIn W x.0) (datum W content at)
  unfolding datum
  datum-reads content h at =
      then-reads W (λ n. n ≡ at + 1 + 1) _ _ _ (type_reads W (at + 1)) (λ n₁ e.
      then-reads W _ _ _ _ (expect-reads W NAME n₁) (λ n₂ q.
      then-reads W (λ x. ContentIn W x.0) _ _ _ (h n₂) (λ c k.
      then-reads W _ _ _ _ (expect-reads W semicolon c.1) (λ n₄ _. record { name = name-after (at + 1 + 1) n₁ (at + 2) e (omega arith) q; content = k }))))

  declaration-reads : (at : ℕ) → Reads W (λ x. DeclaredIn W x.0) (declaration W at)
  unfolding declaration
  declaration-reads at = chosen (Reads W (λ x. DeclaredIn W x.0)) (eqb (W at) VAR) _ _ (datum-reads (var_part W) var-reads at) (datum-reads (const_part W) const-reads at)

  declarations-reads : (at : ℕ) → Reads W (λ x. All (DeclaredIn W) x.0) (declarations W at)
  unfolding declarations
  declarations-reads at = repeated-reads W (DeclaredIn W) parts starts_data (declaration W) declaration-reads at

  parameter-reads : (at : ℕ) → Reads W (λ x. ParameterIn W x.0) (parameter W at)
  unfolding parameter
  parameter-reads at =
      then-reads W (λ n. n ≡ at + 1) _ _ _ (type_reads W at) (λ n e.
      then-reads W _ _ _ _ (expect-reads W NAME n) (λ m q. record { name = name-after (at + 1) n (at + 1) e refl q }))

  parameters-reads : (at : ℕ) → Reads W (λ x. All (ParameterIn W) x.0) (parameters W at)
  unfolding parameters
  parameters-reads at =
      chosen (Reads W (λ x. All (ParameterIn W) x.0)) (eqb (W at) close_paren) _ _ nothing (separated-reads W (ParameterIn W) parts (parameter W) parameter-reads at)

  -- a list behind a word of that sort, if there is one, from the word `at` on
  abbrev Behind : ℕ → ℕ → Option RoutineList × ℕ → Type 0
  Behind sort at x = elim x.0 [ none ↦ x.1 ≡ at | some l ↦ (W at ≡ sort) × SortsOfList W l.statements × (l.closes ≡ x.1) ]

  behind-reads : (sort at : ℕ) → Reads W (Behind sort at) (list_behind W sort at)
  unfolding list_behind
  behind-reads sort at =
      forked-by (Reads W (Behind sort at)) (eqb (W at) sort) _ _
      (λ t. then-reads W (λ x. SortsOfList W x.0) _ _ _ (list-reads (at + 1)) (λ ss k. (eqb-true _ _ t, k, refl)))
      (λ t. refl)

  -- the word that closes the list before it: of that sort, or the one behind
  closed-by : (sort at : ℕ) (o : Option RoutineList) (n : ℕ) (Q : ℕ → Type 0) → Behind sort at (o, n) → (W at ≡ sort → Q (W at)) → Q (W n) → Q (W at)
  closed-by sort at none n Q e f h = rw e at h
  closed-by sort at (some l) n Q e f h = f e.0

  -- and its own
  optional-closed : (sort at : ℕ) (o : Option RoutineList) (n : ℕ) (Q : ℕ → Type 0) → Behind sort at (o, n) → Q (W n) → SortsOfOptional W Q o
  optional-closed sort at none n Q e h = tt
  optional-closed sort at (some l) n Q e h = record { statements = e.1; closes = rw e.2 h }

  routine-from-reads : (result : Option ℕ) (closing at : ℕ) → ClosesRoutine closing (is_some result) → Reads W (λ x. SortsOfRoutine W x.0) (routine_from W result closing at)
  unfolding routine_from
  routine-from-reads result closing at c =
      then-reads W _ _ _ _ (expect-reads W NAME at) (λ n₁ i.
      then-reads W _ _ _ _ (expect-reads W open_paren n₁) (λ n₂ _.
      then-reads W (λ x. All (ParameterIn W) x.0) _ _ _ (parameters-reads n₂) (λ ps hp.
      then-reads W _ _ _ _ (expect-reads W close_paren ps.1) (λ n₄ _.
      then-reads W (λ x. All (DeclaredIn W) x.0) _ _ _ (declarations-reads n₄) (λ ds hd.
      then-reads W (λ x. SortsOfList W x.0) _ _ _ (list-reads ds.1) (λ ss k.
      then-reads W (Behind ERROR ss.1) _ _ _ (behind-reads ERROR ss.1) (λ h e.
      then-reads W (Behind UNDO h.1) _ _ _ (behind-reads UNDO h.1) (λ u e'.
      then-reads W _ _ _ _ (expect-reads W closing u.1) (λ n₉ q.
      let last : ClosesRoutine (W u.1) (is_some result) = rw q c in
      let second : Closes (W h.1) (is_some result) = closed-by UNDO h.1 u.0 u.1 (λ s. Closes s (is_some result)) e' by-undo (by-end last) in
      record {
        name = is-by W at 0 i;
        parameters = hp;
        declared = hd;
        body = record { statements = k; closes = closed-by ERROR ss.1 h.0 h.1 (λ s. Closes s (is_some result)) e by-error second };
        handler = optional-closed ERROR ss.1 h.0 h.1 (λ s. Closes s (is_some result)) e second;
        undo = optional-closed UNDO h.1 u.0 u.1 (λ s. ClosesRoutine s (is_some result)) e' last;
      })))))))))

  function-reads : (at : ℕ) → Reads W (λ x. SortsOfRoutine W x.0) (function W at)
  unfolding function is_some
  function-reads at = then-reads W (λ n. n ≡ at + 1) _ _ _ (type_reads W at) (λ n _. routine-from-reads (some (W at)) ENDFUNC n (by-endfunc refl))

  routine-reads : (at : ℕ) → Reads W (λ x. SortsOfRoutine W x.0) (routine W at)
  unfolding routine is_some
  routine-reads at =
      chosen (Reads W (λ x. SortsOfRoutine W x.0)) (eqb (W at) PROC) _ _ (routine-from-reads none ENDPROC (at + 1) (by-endproc refl)) (function-reads (at + 1))

  routines-reads : (at : ℕ) → Reads W (λ x. All (SortsOfRoutine W) x.0) (routines W at)
  unfolding routines
  routines-reads at = repeated-reads W (SortsOfRoutine W) parts starts_routine (routine W) routine-reads at

  -- ---- a module: its first word is MODULE
  pub record SortsOfModule (m : Module) : Type 0 where
    pub first : W 0 ≡ MODULE
    pub declared : All (DeclaredIn W) m.declared
    pub routines : All (SortsOfRoutine W) m.routines

  pub formed-reads : Reads W SortsOfModule (formed W)
  unfolding formed
  formed-reads =
      then-reads W _ _ _ _ (expect-reads W MODULE 0) (λ n₁ f.
      then-reads W _ _ _ _ (expect-reads W NAME n₁) (λ n₂ _.
      then-reads W (λ x. All (DeclaredIn W) x.0) _ _ _ (declarations-reads n₂) (λ ds hd.
      then-reads W (λ x. All (SortsOfRoutine W) x.0) _ _ _ (routines-reads ds.1) (λ rs k.
      then-reads W _ _ _ _ (expect-reads W ENDMODULE rs.1) (λ n₅ _.
      then-reads W _ _ _ _ (expect-reads W NOTHING n₅) (λ n₆ _. record { first = f; declared = hd; routines = k }))))))
