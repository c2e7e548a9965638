-- What one declaration of data promises, and what it asks of the two stores.
use Rattle.layout.specs.Broken.{as_fault}
use Rattle.std.specs.Prelude.{◌≡◌, false, List, [], ◌++◌, map, ℕ, ◌+◌, ◌*◌, ◌<◌, ◌≤◌, length, replicate, Ok, Err}
use Rattle.paper.specs.Words.{Word, word_limit}
use Rattle.paper.specs.Trees.{Declared}
use Rattle.paper.specs.Names.{type_of, text_of, sort_in, spelled, cannot_declare}
use Rattle.paper.specs.Types.{Fault}
use Rattle.paper.specs.Declarations.{Data, declare_content, module_word_limit}
use Rattle.store_cells.specs.Cells.{cells_of}
use Rattle.code.specs.Cells.{op_at, place_at}
use Rattle.code.specs.Steps.{constant_at, a_datum}
use Rattle.check_names.specs.Promises.{store_bytes}
use Rattle.grammar.specs.Form.{Parses, DeclaredAt}
use Rattle.faults.specs.First.{First}
use Rattle.faults.specs.Added.{declared_faults}
use Rattle.check_expressions.specs.Known.{Loaded}
use Rattle.check_names.specs.Scopes.{Walked}
use Rattle.check_sites.specs.Sites.{Site, filling, own_of, Filled}
use Rattle.check_sites.specs.Walks.{KeepsName, Changed}

-- ---- one declaration
-- It stands from word i on, and of its words none has been changed. `own`, `limit` and `used` are those of the site.
pub record Begins (code values : List ℕ) (own limit used i : ℕ) : Type 0 where
  pub W : List Word
  pub routine : ℕ → ℕ
  pub s : Site
  pub D : Data
  pub x : Declared
  pub to : ℕ
  pub own_is : own ≡ own_of s
  pub limit_is : limit ≡ (filling W s).limit
  pub used-is : used ≡ length D.words
  pub filled : Filled W routine s D values
  pub stands : DeclaredAt (sort_in W) (Parses (sort_in W)) x i to
  pub loaded : Loaded W code i to

-- its name can be declared
abbrev pub Free : {code values : List ℕ} {own limit used i : ℕ} → Begins code values own limit used i → Type 0
Free {i = i} b = cannot_declare (map text_of b.D.names) (spelled b.W (i + 2)) ≡ false

-- what is declared with it
abbrev pub after : {code values : List ℕ} {own limit used i : ℕ} → Begins code values own limit used i → Data
after b = declare_content b.W (filling b.W b.s) (type_of b.x.type) b.x.name b.x.content b.D

abbrev pub faults_of : {code values : List ℕ} {own limit used i : ℕ} → Begins code values own limit used i → List Fault
faults_of b = declared_faults b.W (filling b.W b.s) (type_of b.x.type) b.x.name b.x.content b.D

-- A routine's datum says in its first word how many words it has, and with what they start.
pub record Written (C : List ℕ) (i : ℕ) (D E : Data) : Type 0 where
  pub op-is : op_at C i ≡ a_datum
  pub words_are : E.words ≡ D.words ++ replicate (place_at C i) (constant_at C i)

-- No rule is broken: the word after it, and how many words are used.
pub record Goes {code values : List ℕ} {own limit used i : ℕ} (b : Begins code values own limit used i) (code' values' : List ℕ) (next used' : ℕ) : Type 0 where
  pub none : faults_of b ≡ []
  pub next-is : next ≡ b.to
  pub used-is : used' ≡ length (after b).words
  pub filled : Filled b.W b.routine b.s (after b) values'
  pub keeps : KeepsName b.routine b.W b.s (cells_of code') (i + 2)
  pub written : own ≡ 1 → Written (cells_of code') i b.D (after b)
  pub changed : Changed (cells_of code) (cells_of code') i b.to

unfoldable pub Says : {code values : List ℕ} {own limit used i : ℕ} (b : Begins code values own limit used i) (code' values' : List ℕ) → Walked → Type 0
Says b code' values' (Ok (next, scope)) = Goes b code' values' next scope.used
Says b code' values' (Err broken) = First (as_fault broken) (faults_of b)

pub record Declares (code values code' values' : List ℕ) (own limit used i : ℕ) (r : Walked) : Type 0 where
  pub is : (b : Begins code values own limit used i) → Says b code' values' r

-- what numbers a declaration that begins at word i has to do with
abbrev pub Near : (code values : List ℕ) (own limit used i : ℕ) → Type 0
Near code values own limit used i = (i + 4 < word_limit) × (i * 8 + 40 ≤ length code) × (store_bytes ≤ length values) × (own < 2) × (used ≤ limit) × (limit ≤ module_word_limit)
