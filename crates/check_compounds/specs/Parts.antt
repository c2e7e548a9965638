-- What opens and closes a statement that holds lists.
use Rattle.layout.specs.Parts.{link_part}
use Rattle.std.specs.Prelude.{◌≡◌, false, List, [], ◌∷◌, ◌++◌, ℕ, ◌+◌, ◌*◌, ◌<◌, ◌≤◌, length, ℤ}
use Rattle.std.proofs.Math.Option.{Option}
use Rattle.paper.specs.Sorts.{DO, ELSE, colon}
use Rattle.paper.specs.Words.{Word, word_limit}
use Rattle.paper.specs.Terms.{Memory}
use Rattle.paper.specs.Trees.{Expr}
use Rattle.paper.specs.Expressions.{level_of}
use Rattle.paper.specs.Names.{a_num, Scopes, sort_in, spelled, cannot_declare, hides_own}
use Rattle.paper.specs.Types.{Fault, fault_if, of_type, constant_value}
use Rattle.paper.specs.Declarations.{routine_word_limit, crosses}
use Rattle.paper.specs.Checks.{optional_num, case_faults}
use Rattle.store_cells.specs.Cells.{cells_of}
use Rattle.code.specs.Cells.{op_at, place_at, link_at}
use Rattle.code.specs.Steps.{a_while, a_for, a_for_test, a_case, a_next_value, a_then, a_do, a_pass, constant_at}
use Rattle.store_evaluation.specs.Answers.{call_slots}
use Rattle.check_names.specs.Meanings.{is_protected}
use Rattle.check_names.specs.Promises.{store_bytes}
use Rattle.store_writing.specs.Promises.{tail_with, Rewritten, Linked}
use Rattle.grammar.specs.Form.{Parses, ExprAt, StepAt, ForHeadAt, ExprsAt}
use Rattle.check_links.specs.Resolved.{is_led}
use Rattle.check_links.specs.Raw.{Ground, SameWords, RawBound, RawStep, RawConstants}
use Rattle.check_around.specs.declared.Setting.{Setting}
use Rattle.check_around.specs.Around.{Around, ground_of}
use Rattle.check_around.specs.Answers as answered
use Rattle.check_around.specs.Answers.{Stepped}
use Rattle.check_compounds.specs.Here.{Outside, Here}
use Rattle.layout.specs.Rules.{too_many, taken_name, hiding_loop}

-- ---- WHILE at i, DO at d, ENDWHILE at e
pub record WhileEnded (before after : List ℕ) (i d e : ℕ) : Type 0 where
  pub one : List ℕ
  pub two : List ℕ
  pub opens : Linked before one d a_do (d + 1) 0
  pub again : Linked one two e a_pass 0 i
  pub head : Linked two after i a_while d (e + 1)

-- ---- FOR
-- An expression of num behind the word i, whose link it gets, up to z.
pub record Bounds (code values : List ℕ) (i : ℕ) : Type 0 where
  pub text : List ℕ
  pub k : Setting
  pub used : ℕ
  pub to : ℕ
  pub around : Around text values
  pub here : Here around code k used (i + 1) to
  pub still : is_led (op_at (cells_of code) i) ≡ false
  pub e : Expr
  pub z : ℕ
  pub is : ExprAt (sort_in around.known.W) (Parses (sort_in around.known.W)) e (i + 1) z
  pub ends : level_of (sort_in around.known.W z) ≡ 0
  pub inside : z ≤ to

-- what a run reads there; the word has the op that it had
pub record BoundWritten (raw : Type 0) (before after : List ℕ) (i : ℕ) : Type 0 where
  pub is : raw
  pub op : op_at (cells_of after) i ≡ op_at (cells_of before) i

pub record Bounded (code values after : List ℕ) (i : ℕ) (r : Stepped) : Type 0 where
  pub is : (g : Bounds code values i)
      → answered.Answer (of_type g.around.known.W a_num g.around.known.S g.e) code after i g.z
      (BoundWritten (RawBound (ground_of g.around) g.around.known.n (cells_of after) g.around.known.S g.e i g.z) code after i) r

-- STEP with its bound, or DO, at s
pub record Steps (code values : List ℕ) (s : ℕ) : Type 0 where
  pub text : List ℕ
  pub k : Setting
  pub used : ℕ
  pub to : ℕ
  pub around : Around text values
  pub here : Here around code k used s to
  pub c : Option Expr
  pub d : ℕ
  pub is : StepAt (sort_in around.known.W) (Parses (sort_in around.known.W)) c s d
  pub do_word : sort_in around.known.W d ≡ DO
  pub inside : d ≤ to

pub record ForStepped (code values after : List ℕ) (s : ℕ) (r : Stepped) : Type 0 where
  pub is : (g : Steps code values s)
      → answered.Answer (optional_num g.around.known.W g.around.known.S g.c) code after s g.d
      (RawStep (ground_of g.around) g.around.known.n (cells_of after) g.around.known.S g.c s g.d) r

-- From FOR at i up to its DO.
pub record ForHeads (code values : List ℕ) (used i : ℕ) : Type 0 where
  pub text : List ℕ
  pub k : Setting
  pub to : ℕ
  pub around : Around text values
  pub here : Here around code k used i to
  pub a : Expr
  pub b : Expr
  pub c : Option Expr
  pub do_at : ℕ
  pub is : ForHeadAt (sort_in around.known.W) (Parses (sort_in around.known.W)) (i + 1) a b c i do_at
  pub inside : do_at < to

-- its bounds, by its TO and what comes after the bound there
pub record RawHead (g : Ground) (n : ℕ) (C : List ℕ) (S : Scopes) (a b : Expr) (c : Option Expr) (i d : ℕ) : Type 0 where
  pub t : ℕ
  pub s : ℕ
  pub lower : RawBound g n C S a (i + 2) t
  pub upper : RawBound g n C S b t s
  pub steps : RawStep g n C S c s d

-- the rules at the variable of the FOR at i, in their order
abbrev pub name_faults : (W : List Word) (S : Scopes) (used i : ℕ) → List Fault
name_faults W S used i =
    fault_if (cannot_declare [] (spelled W (i + 1))) taken_name (i + 1)
    ++ fault_if (hides_own S (spelled W (i + 1))) hiding_loop (i + 1)
    ++ fault_if (crosses routine_word_limit used 1) too_many (i + 1)

-- its name is free and hides nothing of its routine, and there is a word for it
pub record NameMay (W : List Word) (S : Scopes) (used i : ℕ) : Type 0 where
  pub free : is_protected (spelled W (i + 1)) ≡ false
  pub hides-none : hides_own S (spelled W (i + 1)) ≡ false
  pub spare : used < call_slots

pub record ForNamed (code values : List ℕ) (used i : ℕ) (r : Stepped) : Type 0 where
  pub is : (g : ForHeads code values used i)
      → answered.Answer (name_faults g.around.known.W g.around.known.S used i) code code (i + 1) (i + 2) (NameMay g.around.known.W g.around.known.S used i) r

pub record ForMay (g : Ground) (n : ℕ) (C : List ℕ) (S : Scopes) (used : ℕ) (a b : Expr) (c : Option Expr) (i d : ℕ) : Type 0 where
  pub name : NameMay g.W S used i
  pub bounds : RawHead g n C S a b c i d

pub record ForHeaded (code values after : List ℕ) (used i : ℕ) (r : Stepped) : Type 0 where
  pub is : (g : ForHeads code values used i)
      → answered.Answer
      (name_faults g.around.known.W g.around.known.S used i
      ++ of_type g.around.known.W a_num g.around.known.S g.a
      ++ of_type g.around.known.W a_num g.around.known.S g.b
      ++ optional_num g.around.known.W g.around.known.S g.c)
      code after (i + 2) g.do_at
      (ForMay (ground_of g.around) g.around.known.n (cells_of after) g.around.known.S used g.a g.b g.c i g.do_at) r

-- DO at d, ENDFOR at e, which has FOR's offset
pub record ForEnded (before after : List ℕ) (used i d e : ℕ) : Type 0 where
  pub one : List ℕ
  pub two : List ℕ
  pub opens : Linked before one d a_do (d + 1) 0
  pub head : Linked one two i a_for used (e + 1)
  pub test : Rewritten two after e (a_for_test + 256 * (used + 256 * i)) (tail_with (place_at (cells_of two) i) (d + 1))

-- Where the list of the last THEN goes on if its condition does not hold: behind ELSE, or at ENDIF.
pub record BehindElse (code : List ℕ) (e r : ℕ) : Type 0 where
  pub at-else : op_at (cells_of code) e ≡ ELSE → r ≡ e + 1
  pub elsewhere : (op_at (cells_of code) e ≡ ELSE → ⊥) → r ≡ e
  pub small : r < link_part

-- The list of the THEN at t is closed by the word e; its arm begins with the word c.
pub record ArmEnded (before after : List ℕ) (op c t e : ℕ) : Type 0 where
  pub mid : List ℕ
  pub link : ℕ
  pub behind : BehindElse before e link
  pub then_is : Linked before mid t a_then (t + 1) link
  pub arm_is : Linked mid after c op t e

-- ---- TEST
-- A value of a CASE behind the one at w, at its comma.
pub record ChainValue (C : List ℕ) (value : ℤ) (more : ℕ → Type 0) (colon w : ℕ) : Type 0 where
  pub v : ℕ
  pub leaves : link_at C w ≡ v
  -- an expression stands between them
  pub on : w + 1 < v
  pub before : v < colon
  pub op : op_at C v ≡ a_next_value
  pub constant : constant_at C v ≡ value
  pub rest : more v

module _ (W : List Word) (S : Scopes) (M : Memory) (C : List ℕ) where
  -- those behind the one at w, each of which leads to the next, and the last to the colon
  unfoldable pub Chain : List Expr → (colon w : ℕ) → Type 0
  Chain [] colon w = link_at C w ≡ colon
  Chain (e ∷ es) colon w = ChainValue C (constant_value W S M e) (Chain es colon) colon w

  -- all values of a CASE at c
  unfoldable pub CaseChain : List Expr → (colon c : ℕ) → Type 0
  CaseChain [] colon c = ⊥
  CaseChain (e ∷ es) colon c = (op_at C c ≡ a_case) × (constant_at C c ≡ constant_value W S M e) × Chain es colon c

-- the values of a CASE at c
pub record CaseValues (code values : List ℕ) (c : ℕ) : Type 0 where
  pub text : List ℕ
  pub k : Setting
  pub used : ℕ
  pub to : ℕ
  pub around : Around text values
  pub here : Here around code k used c to
  pub es : List Expr
  pub n : ℕ
  pub is : ExprsAt (sort_in around.known.W) (Parses (sort_in around.known.W)) es (c + 1) n
  pub ends : sort_in around.known.W n ≡ colon
  pub inside : n < to

pub record CaseValued (code values after : List ℕ) (c : ℕ) (r : Stepped) : Type 0 where
  pub is : (g : CaseValues code values c)
      → answered.Answer (case_faults g.around.known.W g.around.known.S g.around.M g.es) code after c g.n
      (CaseChain g.around.known.W g.around.known.S g.around.M (cells_of after) g.es g.n c) r

pub record Chained (code : List ℕ) (colon c : ℕ) : Type 0 where
  pub W : List Word
  pub S : Scopes
  pub M : Memory
  pub es : List Expr
  pub is : CaseChain W S M (cells_of code) es colon c
  pub before : c + 1 < colon
  pub last : colon < word_limit
  pub room : store_bytes ≤ length code

-- The values have the list's first word as their place, and the last one leads to the word that closes the list.
pub record ValuesLinked (before after : List ℕ) (colon next c : ℕ) : Type 0 where
  pub op : op_at (cells_of after) c ≡ op_at (cells_of before) c
  pub place : place_at (cells_of after) c ≡ colon + 1
  pub values : (g : Ground) (n : ℕ) (S : Scopes) (es : List Expr) → CaseChain g.W S g.M (cells_of before) es colon c → RawConstants g n (cells_of after) S es (colon + 1) next c
  -- the word behind CASE is no value's
  pub behind : SameWords (cells_of before) (cells_of after) (c + 1) (c + 2)
  pub outside : Outside (cells_of before) (cells_of after) c colon
  pub long : length after ≡ length before
