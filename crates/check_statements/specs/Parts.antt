-- The parts of the check of statements that hold lists.
use Rattle.std.specs.Prelude.{◌≡◌, List, ◌++◌, ℕ, ◌+◌, ◌<◌, ◌≤◌}
use Rattle.paper.specs.Sorts.{IF, FOR, WHILE, TEST, ELSE, ELSEIF, ENDIF, THEN, ENDTEST, semicolon}
use Rattle.paper.specs.Trees.{Expr, Simple, Statements, Arms, Cases, arm, no_arm, compact_if, full_if}
use Rattle.paper.specs.Names.{sort_in}
use Rattle.paper.specs.Checks.{fors_in_list, fors_in_arms, fors_in_cases, simple_faults, list_faults, arm_faults, cases_faults}
use Rattle.store_cells.specs.Cells.{cells_of}
use Rattle.code.specs.Cells.{place_at}
use Rattle.grammar.specs.Form.{Parses, SimpleAt, ListAt, ArmsAt, ElseAt, CasesAt, DefaultAt}
use Rattle.check_links.specs.Raw.{RawTerm, RawElse, RawDefault, RawStatement, RawList, RawCases}
use Rattle.check_around.specs.declared.Setting.{Setting}
use Rattle.check_around.specs.Around.{Around, ground_of, offset_in, Calls}
use Rattle.check_names.specs.Scopes.{Walked}
use Rattle.check_compounds.specs.Here.{Here}
use Rattle.check_statements.specs.Answers.{Stands, Answer, StatementAnswer}

-- ---- a simple statement
pub record Plain (text code values : List ℕ) (k : Setting) (used at : ℕ) : Type 0 where
  pub stands : Stands text code values k used at
  pub no-if : sort_in stands.around.known.W at ≡ IF → ⊥
  pub no-for : sort_in stands.around.known.W at ≡ FOR → ⊥
  pub no-while : sort_in stands.around.known.W at ≡ WHILE → ⊥
  pub no_test : sort_in stands.around.known.W at ≡ TEST → ⊥

pub record Plainly (text code values after : List ℕ) (k : Setting) (used at : ℕ) (r : Walked) : Type 0 where
  pub is : (g : Plain text code values k used at) → StatementAnswer g.stands after values r

-- ---- IF
-- A compact IF at i, whose condition ends before t.
pub record Compacts (text code values : List ℕ) (k : Setting) (used i t : ℕ) : Type 0 where
  pub to : ℕ
  pub around : Around text values
  pub here : Here around code k used t to
  pub before : i < t
  pub place : place_at (cells_of code) i ≡ offset_in around.known.W i
  pub e : Expr
  pub term : RawTerm (ground_of (around)) around.known.n (cells_of code) around.known.S e (i + 1) t
  pub s : Simple
  pub n : ℕ
  pub is : SimpleAt (sort_in around.known.W) (Parses (sort_in around.known.W)) s t n
  pub ends : sort_in around.known.W n ≡ semicolon
  pub after : to ≡ n + 1

pub record Compacted (text code values after : List ℕ) (k : Setting) (used i t : ℕ) (r : Walked) : Type 0 where
  pub is : (g : Compacts text code values k used i t)
      → Answer (simple_faults g.around.known.W g.around.K g.around.known.S g.s) code after values values i g.to used
      (RawStatement (ground_of g.around) g.around.known.n (cells_of after) (compact_if i g.e g.s) g.around.known.S used i g.to) r

-- THEN at t and its list b, and the other arms, up to ELSE or ENDIF
pub record ThenAt (W : ℕ → ℕ) (d : ℕ) (b : Statements) (rest : Arms) (t last : ℕ) : Type 0 where
  pub then_word : W t ≡ THEN
  pub m : ℕ
  pub list : ListAt W (Parses W) d b (t + 1) m
  pub more : W m ≡ ELSEIF → ArmsAt W (Parses W) d rest (m + 1) last
  pub none_more : (W m ≡ ELSEIF → ⊥) → (rest ≡ no_arm) × (last ≡ m)

-- A full IF at i, whose condition ends before THEN at t.
pub record Thens (text code values : List ℕ) (k : Setting) (used i t : ℕ) : Type 0 where
  pub to : ℕ
  pub around : Around text values
  pub here : Here around code k used t to
  pub calls : Calls (around) code i to
  pub before : i < t
  pub place : place_at (cells_of code) i ≡ offset_in around.known.W i
  pub e : Expr
  pub term : RawTerm (ground_of (around)) around.known.n (cells_of code) around.known.S e (i + 1) t
  pub d : ℕ
  pub b : Statements
  pub rest : Arms
  pub o : Statements
  pub last : ℕ
  pub z : ℕ
  pub is : ThenAt (sort_in around.known.W) d b rest t last
  pub otherwise : ElseAt (sort_in around.known.W) (Parses (sort_in around.known.W)) d o last z
  pub ends : sort_in around.known.W z ≡ ENDIF
  pub after : to ≡ z + 1
  pub room : used + (fors_in_list b + fors_in_arms rest + fors_in_list o) ≤ around.known.n

pub record Thened (text code values after values' : List ℕ) (k : Setting) (used i t : ℕ) (r : Walked) : Type 0 where
  pub is : (g : Thens text code values k used i t)
      → Answer
      (list_faults g.around.known.W g.around.K g.around.M g.b g.around.known.S used
      ++ arm_faults g.around.known.W g.around.K g.around.M g.rest g.around.known.S (used + fors_in_list g.b)
      ++ list_faults g.around.known.W g.around.K g.around.M g.o g.around.known.S (used + (fors_in_list g.b + fors_in_arms g.rest)))
      code after values values' i g.to (used + (fors_in_list g.b + fors_in_arms g.rest + fors_in_list g.o))
      (RawStatement (ground_of g.around) g.around.known.n (cells_of after) (full_if i (arm g.e g.b g.rest) g.o) g.around.known.S used i g.to) r

-- ELSE with its list, or ENDIF, at c
pub record Elses (text code values : List ℕ) (k : Setting) (used c : ℕ) : Type 0 where
  pub to : ℕ
  pub around : Around text values
  pub here : Here around code k used c to
  pub d : ℕ
  pub o : Statements
  pub z : ℕ
  pub is : ElseAt (sort_in around.known.W) (Parses (sort_in around.known.W)) d o c z
  pub ends : sort_in around.known.W z ≡ ENDIF
  pub after : to ≡ z + 1
  pub room : used + fors_in_list o ≤ around.known.n

-- what is written of it: where its list begins, and what a run reads
pub record ElseWritten (W : ℕ → ℕ) (raw : (first : ℕ) → Type 0) (c : ℕ) : Type 0 where
  pub first : ℕ
  pub at-else : W c ≡ ELSE → first ≡ c + 1
  pub elsewhere : (W c ≡ ELSE → ⊥) → first ≡ c
  pub is : raw first

pub record Elsed (text code values after values' : List ℕ) (k : Setting) (used c : ℕ) (r : Walked) : Type 0 where
  pub is : (g : Elses text code values k used c)
      → Answer (list_faults g.around.known.W g.around.K g.around.M g.o g.around.known.S used) code after values values' c g.to (used + fors_in_list g.o)
      (ElseWritten (sort_in g.around.known.W)
      (λ (first : ℕ). RawElse (ground_of g.around) g.around.known.n (cells_of after)
      (λ (x y : ℕ). RawList (ground_of g.around) g.around.known.n (cells_of after) g.o g.around.known.S used x y) c first g.to) c) r

-- DEFAULT with its list, or ENDTEST, at c
pub record Defaults (text code values : List ℕ) (k : Setting) (used c : ℕ) : Type 0 where
  pub to : ℕ
  pub around : Around text values
  pub here : Here around code k used c to
  pub d : ℕ
  pub o : Statements
  pub z : ℕ
  pub is : DefaultAt (sort_in around.known.W) (Parses (sort_in around.known.W)) d o c z
  pub ends : sort_in around.known.W z ≡ ENDTEST
  pub after : to ≡ z + 1
  pub room : used + fors_in_list o ≤ around.known.n

pub record Defaulted (text code values after values' : List ℕ) (k : Setting) (used c : ℕ) (r : Walked) : Type 0 where
  pub is : (g : Defaults text code values k used c)
      → Answer (list_faults g.around.known.W g.around.K g.around.M g.o g.around.known.S used) code after values values' c g.to (used + fors_in_list g.o)
      (RawDefault (ground_of g.around) g.around.known.n (cells_of after)
      (λ (x y : ℕ). RawList (ground_of g.around) g.around.known.n (cells_of after) g.o g.around.known.S used x y) c g.to) r

-- the cases of a TEST from c on, and its DEFAULT
pub record Chooses (text code values : List ℕ) (k : Setting) (used c : ℕ) : Type 0 where
  pub to : ℕ
  pub around : Around text values
  pub here : Here around code k used c to
  pub d : ℕ
  pub cs : Cases
  pub o : Statements
  pub last : ℕ
  pub z : ℕ
  pub is : CasesAt (sort_in around.known.W) (Parses (sort_in around.known.W)) d cs c last
  pub otherwise : DefaultAt (sort_in around.known.W) (Parses (sort_in around.known.W)) d o last z
  pub ends : sort_in around.known.W z ≡ ENDTEST
  pub after : to ≡ z + 1
  pub room : used + (fors_in_cases cs + fors_in_list o) ≤ around.known.n

pub record CasesWritten (cases : (last : ℕ) → Type 0) (default : (last : ℕ) → Type 0) : Type 0 where
  pub last : ℕ
  pub cases-are : cases last
  pub default-is : default last

pub record Chosen (text code values after values' : List ℕ) (k : Setting) (used c : ℕ) (r : Walked) : Type 0 where
  pub is : (g : Chooses text code values k used c)
      → Answer
      (cases_faults g.around.known.W g.around.K g.around.M g.cs g.around.known.S used
      ++ list_faults g.around.known.W g.around.K g.around.M g.o g.around.known.S (used + fors_in_cases g.cs))
      code after values values' c g.to (used + (fors_in_cases g.cs + fors_in_list g.o))
      (CasesWritten
      (λ (last : ℕ). RawCases (ground_of g.around) g.around.known.n (cells_of after) g.cs g.around.known.S used c last)
      (λ (last : ℕ). RawDefault (ground_of g.around) g.around.known.n (cells_of after)
      (λ (x y : ℕ). RawList (ground_of g.around) g.around.known.n (cells_of after) g.o g.around.known.S (used + fors_in_cases g.cs) x y) last g.to)) r
