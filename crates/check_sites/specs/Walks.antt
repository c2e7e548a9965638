-- What walks over declarations share: what the words of names keep, and which words those are.
use Rattle.std.specs.Prelude.{◌≡◌, List, [], ◌∷◌, ℕ, zero, suc, ◌+◌, ◌*◌, ◌<◌, ◌≤◌, get_or}
use Rattle.paper.specs.Words.{Word, word_limit}
use Rattle.paper.specs.Names.{Scopes}
use Rattle.check_names.specs.Numbers.{IsName}
use Rattle.check_names.specs.Meanings.{Keeps}
use Rattle.check_sites.specs.Sites.{Site, filling}

-- the scopes before any name of a site is declared
abbrev pub outer_of : List Word → Site → Scopes
outer_of W s = (filling W s).scopes_with []

-- Word i is a name's, and keeps what its name meant outside.
pub record KeepsName (routine : ℕ → ℕ) (W : List Word) (s : Site) (C : List ℕ) (i : ℕ) : Type 0 where
  pub near : i < word_limit
  pub name : IsName W i
  pub keeps : Keeps routine W (outer_of W s) C i

-- No cell changes but those of the words from `from` up to `to`.
pub record Changed (C D : List ℕ) (from to : ℕ) : Type 0 where
  pub below : (k : ℕ) → k < from * 2 → get_or D k 0 ≡ get_or C k 0
  pub above : (k : ℕ) → to * 2 ≤ k → get_or D k 0 ≡ get_or C k 0

-- the word of a datum's name, by the word that its declaration begins with
unfoldable pub name_of : (first : ℕ) → ℕ
name_of i = i + 2

-- So do all of these words.
unfoldable pub KeepsAll : (routine : ℕ → ℕ) (W : List Word) (s : Site) (C : List ℕ) → List ℕ → Type 0
KeepsAll routine W s C [] = Unit {0}
KeepsAll routine W s C (i ∷ r) = KeepsName routine W s C i × KeepsAll routine W s C r

-- the words of the names of so many parameters, of which the first one's type stands at a word
unfoldable pub name_words : (first count : ℕ) → List ℕ
name_words first zero = []
name_words first (suc n) = (first + 1) ∷ name_words (first + 3) n
