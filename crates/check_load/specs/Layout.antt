-- What the cells of both stores hold, when the first n words of a text are loaded.
use Rattle.std.specs.Prelude.{◌≡◌, Bool, true, false, List, map, ℕ, zero, suc, ◌+◌, ◌*◌, ◌<◌, ◌≤◌, eqb, ltb, length, get_or, take, drop, if◌then◌else◌, Option, None, Some}
use Rattle.store_cells.specs.Cells.{cells_of}
use Rattle.paper.specs.Sorts.{folded, NAME, STRING}
use Rattle.paper.specs.Words.{Word, reading, text_limit, word_limit, name_limit, largest_number}
use Rattle.paper.specs.Names.{Text, nth, sort_in, spelled}
use Rattle.code.specs.Cells.{head_at, place_at, link_at}
use Rattle.text_words.specs.declared.Word as declared
use Rattle.text_words.specs.Answers.{word_of}
use Rattle.check_names.specs.Numbers.{first_named, number_of, IsName}
use Rattle.check_names.specs.Meanings.{protected_cell, first_meaning}
use Rattle.check_names.specs.Promises.{store_bytes, number_limit}
use Rattle.check_spelling.specs.Hash.{buckets, hash_of}

-- ---- heads
-- The value in a word's head: of a name its number, and its length above it; of a string its length; of a number its value, and 0 of any other.
unfoldable pub head_value : List Word → ℕ → ℕ
head_value W i =
    if eqb (sort_in W i) NAME then number_of W i + number_limit * length (nth W i).covers
    else if eqb (sort_in W i) STRING then length (nth W i).covers
    else (nth W i).value

abbrev pub head_of : List Word → ℕ → ℕ
head_of W i = sort_in W i + 256 * head_value W i

-- ---- first names
-- a name that is the first of its spelling
unfoldable pub is_first : List Word → ℕ → Bool
is_first W i = if eqb (sort_in W i) NAME then eqb (number_of W i) i else false

-- The cell of the table of meanings that a word has: a first name's, if it is protected.
unfoldable pub first_cell : List Word → ℕ → ℕ
first_cell W i = if is_first W i then protected_cell (spelled W i) else 0

-- ---- chains
-- A chain goes through all first names of one hash, the latest first. Each is known by its index and 1, and 0 ends it.
unfoldable pub opens : List Word → (hash i : ℕ) → Bool
opens W h i = if is_first W i then eqb (hash_of (spelled W i)) h else false

-- the latest among the first m words
unfoldable pub latest : List Word → (hash m : ℕ) → ℕ
latest W h zero = 0
latest W h (suc m) = if opens W h m then suc m else latest W h m

-- The first name of a text, if it is among the first m words: its index and 1; else 0.
unfoldable pub known_as : List Word → (m : ℕ) → Text → ℕ
known_as W m text = if ltb (first_named W text) m then suc (first_named W text) else 0

-- ---- the stores
abbrev pub first_bucket : ℕ
first_bucket = 4096

-- the first cell behind the buckets
abbrev pub past_buckets : ℕ
past_buckets = 6144

-- the code store's cells
pub record Written (W : List Word) (n : ℕ) (C : List ℕ) : Type 0 where
  pub heads : (i : ℕ) → i < n → head_at C i ≡ head_of W i
  pub places : (i : ℕ) → i < n → place_at C i ≡ (nth W i).place
  pub links : (i : ℕ) → i < n → is_first W i ≡ true → link_at C i ≡ latest W (hash_of (spelled W i)) i

-- the value store's cells
pub record Tabled (W : List Word) (n : ℕ) (X : List ℕ) : Type 0 where
  pub before : (k : ℕ) → k < first_bucket → get_or X k 0 ≡ 0
  pub chains : (h : ℕ) → h < buckets → get_or X (first_bucket + h) 0 ≡ latest W h n
  pub between : (k : ℕ) → past_buckets ≤ k → k < first_meaning → get_or X k 0 ≡ 0
  pub table : (i : ℕ) → i < n → get_or X (first_meaning + i) 0 ≡ first_cell W i
  pub empty : (i : ℕ) → n ≤ i → i < number_limit → get_or X (first_meaning + i) 0 ≡ 0

abbrev pub words_in : List ℕ → List Word
words_in text = (reading text).words

pub record Loading (text : List ℕ) (n : ℕ) (code values : List ℕ) : Type 0 where
  pub written : Written (words_in text) n (cells_of code)
  pub tabled : Tabled (words_in text) n (cells_of values)
  pub code-room : store_bytes ≤ length code
  pub values-room : store_bytes ≤ length values

-- From n words on the code store is as it was, and the value store behind its cells.
pub record Keeping (n : ℕ) (code values code' values' : List ℕ) : Type 0 where
  pub rest : drop (n * 8) code' ≡ drop (n * 8) code
  pub beyond : drop store_bytes values' ≡ drop store_bytes values
  pub code-size : length code' ≡ length code
  pub values-size : length values' ≡ length values

-- one word more is loaded
pub record Goes (text : List ℕ) (i : ℕ) (code values code' values' : List ℕ) : Type 0 where
  pub loading : Loading text (i + 1) code' values'
  pub keeping : Keeping (i + 1) code values code' values'

-- ---- the word that comes
-- word i of the reading, with what bounds it
pub record Comes (text : List ℕ) (i : ℕ) (w : declared.Word) : Type 0 where
  pub is : w ≡ word_of (nth (words_in text) i)
  pub room : i < word_limit
  pub sorts : w.sort < 256
  pub values : w.value ≤ largest_number
  pub some_bytes : 0 < w.length
  pub inside : w.place + w.length ≤ length text
  pub short : length text ≤ text_limit
  pub names : w.sort ≡ NAME → w.length ≤ name_limit

-- the value of a word that is no name, as `head_value` has it
abbrev pub value_of : declared.Word → ℕ
value_of w = if eqb w.sort STRING then w.length else w.value

pub record Valued (w : declared.Word) : Type 0 where
  pub values : w.value ≤ largest_number
  pub lengths : w.length ≤ text_limit

-- a name among them
pub record NameComes (text : List ℕ) (i place len : ℕ) : Type 0 where
  pub name : IsName (words_in text) i
  pub place_is : place ≡ (nth (words_in text) i).place
  pub length-is : len ≡ length (nth (words_in text) i).covers
  pub covers : take len (drop place text) ≡ (nth (words_in text) i).covers
  pub room : i < word_limit
  pub some_bytes : 0 < len
  pub most : len ≤ name_limit
  pub inside : place + len ≤ length text
  pub short : length text ≤ text_limit

-- ---- a chain
-- The words before `first` are loaded, and it begins the chain of a name's hash.
pub record Chain (text code : List ℕ) (name : List ℕ) (first : ℕ) : Type 0 where
  pub written : Written (words_in text) first (cells_of code)
  pub begins : first ≡ latest (words_in text) (hash_of name) first
  pub most : first ≤ number_limit
  pub room : store_bytes ≤ length code

-- what is found in it as a chain knows it: an index and 1, or 0
abbrev pub link_of : Option ℕ → ℕ
link_of None = 0
link_of (Some i) = i + 1

-- the first name that is found in it, and how far its number can go
pub record Finds (text name : List ℕ) (first : ℕ) (r : Option ℕ) : Type 0 where
  pub is : link_of r ≡ known_as (words_in text) first (map folded name)
  pub most : link_of r ≤ first
  pub small : first ≤ number_limit
