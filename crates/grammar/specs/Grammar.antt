-- The paper, "Form of a module": the grammar. Expressions are derived here, a level at a time; with them the relation of Form is the grammar of modules.
-- proofs/Grammar has what it is for: the parser gives a tree exactly where the words are that module, and it says 8 of the first word with which no module begins.
use Rattle.std.specs.Prelude.{◌≡◌, true, ◌⊎◌, ℕ, ◌+◌, ◌-◌, ◌<◌, ◌≤◌}
use Rattle.paper.specs.Sorts.{NOTHING, NAME, NOT, plus, minus_sign, open_paren, close_paren, open_brace, close_brace}
use Rattle.paper.specs.Words.{word_limit}
use Rattle.paper.specs.Trees.{Expr, leaf, element, nested, signed, joined, Module}
use Rattle.paper.specs.Expressions.{products, sums, relations, conjunctions, disjunctions, level_of, is_literal}
use Rattle.grammar.specs.Form.{StandsIn, Stands}

-- ---- expressions
-- "Expressions, loosest first": what the words from `at` up to `to` are. No limits, and nothing about the word at `to`.
module _ (W : ℕ → ℕ) where
  mutual
    -- "`[NOT]` chain of OR and XOR": "NOT covers the first AND chain only"
    pub data DisjunctionAt : Expr → (at to : ℕ) → Type 0 where
      a-conjunction : {e : Expr} {at to : ℕ} → ConjunctionAt e at to → DisjunctionAt e at to
      negated : {i : ℕ} {e : Expr} {at to : ℕ} → i ≡ at → W at ≡ NOT → ConjunctionAt e (at + 1) to → DisjunctionAt (signed i e) at to
      or-xor : {a b : Expr} {at n to : ℕ} → DisjunctionAt a at n → level_of (W n) ≡ disjunctions → ConjunctionAt b (n + 1) to → DisjunctionAt (joined n a b) at to

    -- "chain of AND"
    pub data ConjunctionAt : Expr → (at to : ℕ) → Type 0 where
      a-relation : {e : Expr} {at to : ℕ} → RelationAt e at to → ConjunctionAt e at to
      and : {a b : Expr} {at n to : ℕ} → ConjunctionAt a at n → level_of (W n) ≡ conjunctions → RelationAt b (n + 1) to → ConjunctionAt (joined n a b) at to

    -- "one relation at most"
    pub data RelationAt : Expr → (at to : ℕ) → Type 0 where
      a_sum : {e : Expr} {at to : ℕ} → SumAt e at to → RelationAt e at to
      compared : {a b : Expr} {at n to : ℕ} → SumAt a at n → level_of (W n) ≡ relations → SumAt b (n + 1) to → RelationAt (joined n a b) at to

    -- "`[+|-]` chain of + and -": "a leading + or - [covers] the first chain of * DIV MOD only"
    pub data SumAt : Expr → (at to : ℕ) → Type 0 where
      a-product : {e : Expr} {at to : ℕ} → ProductAt e at to → SumAt e at to
      with-sign : {i : ℕ} {e : Expr} {at to : ℕ} → i ≡ at → (W at ≡ plus) ⊎ (W at ≡ minus_sign) → ProductAt e (at + 1) to → SumAt (signed i e) at to
      plus-minus : {a b : Expr} {at n to : ℕ} → SumAt a at n → level_of (W n) ≡ sums → ProductAt b (n + 1) to → SumAt (joined n a b) at to

    -- "chain of * DIV MOD"
    pub data ProductAt : Expr → (at to : ℕ) → Type 0 where
      an-operand : {e : Expr} {at to : ℕ} → OperandAt e at to → ProductAt e at to
      times-div-mod : {a b : Expr} {at n to : ℕ} → ProductAt a at n → level_of (W n) ≡ products → OperandAt b (n + 1) to → ProductAt (joined n a b) at to

    -- "then literal, name, element, or parentheses"
    pub data OperandAt : Expr → (at to : ℕ) → Type 0 where
      a-literal : {i at to : ℕ} → i ≡ at → is_literal (W at) ≡ true → to ≡ at + 1 → OperandAt (leaf i) at to
      a-name : {i at to : ℕ} → i ≡ at → W at ≡ NAME → to ≡ at + 1 → OperandAt (leaf i) at to
      an-element : {i : ℕ} {e : Expr} {at n to : ℕ} → i ≡ at → W at ≡ NAME → W (at + 1) ≡ open_brace → DisjunctionAt e (at + 2) n → W n ≡ close_brace → to ≡ n + 1 → OperandAt (element i e) at to
      in-parentheses : {i : ℕ} {e : Expr} {at n to : ℕ} → i ≡ at → W at ≡ open_paren → DisjunctionAt e (at + 1) n → W n ≡ close_paren → to ≡ n + 1 → OperandAt (nested i e) at to

-- ---- limits
-- Parentheses and braces nest to n in it.
unfoldable pub NestsTo : Expr → (n : ℕ) → Type 0
NestsTo (leaf i) n = Unit
NestsTo (element i e) n = (0 < n) × NestsTo e (n - 1)
NestsTo (nested i e) n = (0 < n) × NestsTo e (n - 1)
NestsTo (signed i e) n = NestsTo e n
NestsTo (joined i a b) n = NestsTo a n × NestsTo b n

-- An expression in which d - 1 more parentheses or braces may nest.
pub record Derives (W : ℕ → ℕ) (d at : ℕ) (e : Expr) (to : ℕ) : Type 0 where
  pub derived : DisjunctionAt W e at to
  pub deep : 0 < d
  pub nests : NestsTo e (d - 1)

-- ---- modules
-- "7: more than 8,192 words" is judged before the form: past that many words there is nothing.
abbrev pub Short : (W : ℕ → ℕ) → Type 0
Short W = (i : ℕ) → word_limit ≤ i → W i ≡ NOTHING

-- The words are this module: the paper's form, nested as deep as the paper lets it.
abbrev pub IsModule : (W : ℕ → ℕ) → Module → Type 0
IsModule W m = Stands W (Derives W) m

-- The words have the form of this module, however deep it nests.
pub record HasForm (W : ℕ → ℕ) (m : Module) : Type 0 where
  pub nesting : ℕ
  pub stands : StandsIn W (λ d at e to. DisjunctionAt W e at to) nesting m

-- The first n of the words begin a module: with some words behind them they are one. `Is` says what a module is.
pub record Begins (Is : (ℕ → ℕ) → Module → Type 0) (W : ℕ → ℕ) (n : ℕ) : Type 0 where
  pub words : ℕ → ℕ
  pub tree : Module
  pub same : (j : ℕ) → j < n → words j ≡ W j
  pub is : Is words tree
