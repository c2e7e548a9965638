-- What the check of a module promises: the paper's verdict, and every lent word after it.
use Rattle.std.specs.Prelude.{◌≡◌, true, false, ◌||◌, List, [], ◌++◌, map, ℕ, ◌<◌, ◌≤◌, ltb, length, get_or, take, drop, replicate, Result, Ok, Err}
use Rattle.std.specs.Int.{w32}
use Rattle.std.proofs.Common.{to_z}
use Rattle.paper.specs.Words.{Word, Refusal}
use Rattle.paper.specs.Expressions.{got, no}
use Rattle.paper.specs.Form.{formed}
use Rattle.paper.specs.Names.{sort_in}
use Rattle.paper.specs.Answer.{Accepted, Verdict, refused_by, accepted, verdict, offset_of}
use Rattle.store_cells.specs.Cells.{cells_of}
use Rattle.code.specs.Steps.{Head, no_head}
use Rattle.code.specs.Holds.{Holds}
use Rattle.check_heads.specs.Trees.{heads_for}
use Rattle.layout.specs.Broken.{number_of}
use Rattle.layout.specs.declared.rules.Rule.TheVariants.{SmallStore}
use Rattle.text_words.specs.declared.Refusal as refusals
use Rattle.check_whole.specs.declared.Accepted as answers

-- what the check of a module answers
abbrev pub Checked : Type 0
Checked = Result answers.Accepted refusals.Refusal

-- "16,384 words" of four bytes
abbrev pub store_bytes : ℕ
store_bytes = 65536

-- a store whose cells are all 0; what lies past them stays
abbrev pub Emptied : (before after : List ℕ) → Type 0
Emptied before after = after ≡ replicate store_bytes 0 ++ drop store_bytes before

-- the routines of the module that the words form, in the order of the text
unfoldable pub heads_in : List Word → List Head
heads_in W = elim (formed (sort_in W)) [ got m ↦ heads_for m.routines | no number i ↦ [] ]

-- An accepted module: how many words it has, how many words of data, and the word that main begins with. The code store holds its program, and the value store its words.
pub record Ready (text code values : List ℕ) (a : Accepted) (r : Checked) (code' values' : List ℕ) : Type 0 where
  pub R : List Head
  pub heads-are : R ≡ heads_in a.words
  pub answer : r ≡ Ok (record { words = length a.words; count = length a.program.words; main = (get_or R a.main no_head).word })
  pub holds : Holds text R (offset_of text a.words) (cells_of (take store_bytes code')) a.program
  pub there : a.main < length R
  pub alone : (get_or R a.main no_head).parameters ≡ 0
  pub words : map (to_z w32) (take (length a.program.words) (cells_of values')) ≡ a.program.words
  pub zeros : (c : ℕ) → length a.program.words ≤ c → c < 16384 → get_or (cells_of values') c 0 ≡ 0
  pub code-past : drop store_bytes code' ≡ drop store_bytes code
  pub values-past : drop store_bytes values' ≡ drop store_bytes values
  pub code-long : length code' ≡ length code
  pub values-long : length values' ≡ length values

-- The answer is this refusal: the number of the rule broken, and its offset.
pub record Refuses (f : Refusal) (r : Checked) : Type 0 where
  pub refusal : refusals.Refusal
  pub answer : r ≡ Err refusal
  pub number-is : number_of refusal.rule ≡ f.number
  pub offset-is : refusal.place ≡ f.offset

pub record Refused (code values : List ℕ) (f : Refusal) (r : Checked) (code' values' : List ℕ) : Type 0 where
  pub answer : Refuses f r
  pub code-empty : Emptied code code'
  pub values-empty : Emptied values values'

unfoldable pub Judges : (text code values : List ℕ) → Verdict → (r : Checked) → (code' values' : List ℕ) → Type 0
Judges text code values (refused_by f) r code' values' = Refused code values f r code' values'
Judges text code values (accepted a) r code' values' = Ready text code values a r code' values'

-- "1: a store under 16,384 words"
pub record TooSmall (code values : List ℕ) (r : Checked) (code' values' : List ℕ) : Type 0 where
  pub answer : r ≡ Err (record { rule = SmallStore; place = 0 })
  pub code_same : code' ≡ code
  pub values_same : values' ≡ values

unfoldable pub Checks : (text code values : List ℕ) → (r : Checked) → (code' values' : List ℕ) → Type 0
Checks text code values r code' values' =
    elim (ltb (length code) store_bytes || ltb (length values) store_bytes) [
      | true ↦ TooSmall code values r code' values'
      | false ↦ Judges text code values (verdict text) r code' values'
    ]
