-- The paper's case for each answer of the scanner, and what its counts count.
use Rattle.std.specs.Prelude.{◌≡◌, Bool, true, false, List, [], ◌∷◌, ℕ, zero, suc, ◌+◌, ◌*◌, ◌≤◌, ltb, get_or, take, drop, Result, Ok, Err}
use Rattle.paper.specs.Sorts.{STRING, sign_sort}
use Rattle.paper.specs.Words as paper
use Rattle.layout.specs.Rules.{bad_byte}
use Rattle.layout.specs.Broken.{number_of}
use Rattle.text_reserved.specs.Runs.{Counted}
use Rattle.text_scanner.specs.declared.Token.{Token}
use Rattle.text_scanner.specs.declared.Flaw.{Flaw}
use Rattle.text_scanner.specs.declared.BadByte.{BadByte}

abbrev pub Scan : Type 0
Scan = Result Token Flaw

abbrev pub scan_of : Scan → paper.Scan
scan_of (Ok t) = paper.word t.sort t.length t.value
scan_of (Err f) = paper.refused (number_of f.rule) f.after

abbrev pub Gap : Type 0
Gap = Result ℕ BadByte

abbrev pub gap_of : Gap → paper.Gap
gap_of (Ok place) = paper.up_to place
gap_of (Err bad) = paper.bad_byte bad.place

-- ---- what is promised
-- the word that a text begins with
abbrev pub Scanned : List ℕ → Scan → Type 0
Scanned text r = scan_of r ≡ paper.scan paper.largest_number (get_or text 0 0) text

-- what lies before the next word, from a place on
abbrev pub Skipped : List ℕ → (at : ℕ) → Gap → Type 0
Skipped text at r = gap_of r ≡ paper.gap false (drop at text) at

-- the place of the first byte that is not permitted, or 0, after the byte at a place, which is permitted or not
unfoldable pub noted : (bad at : ℕ) → Bool → ℕ
noted bad at true = bad
noted bad at false = elim bad [ zero ↦ at | suc m ↦ suc m ]

-- a string of n bytes that is well formed but for that byte
unfoldable pub closed_string : (n bad : ℕ) → paper.Scan
closed_string n zero = paper.word STRING n 0
closed_string n (suc m) = paper.refused bad_byte (suc m)

-- What follows a comment that is open at a place is as if a gap began there anew; or the comment holds a byte that is permitted nowhere.
unfoldable pub Commented : List ℕ → (at : ℕ) → Gap → Type 0
Commented text at (Ok place) = (at ≤ place) × (paper.gap true (drop at text) at ≡ paper.gap false (drop place text) place)
Commented text at (Err bad) = paper.gap true (drop at text) at ≡ paper.bad_byte bad.place

-- Numbers above the largest are one.
unfoldable pub capped : ℕ → ℕ
capped v = elim (ltb paper.largest_number v) [ true ↦ suc paper.largest_number | false ↦ v ]

-- Below it is every number that has one digit more than one that is not above the largest.
abbrev pub value_bound : ℕ
value_bound = paper.largest_number * 10 + 10

pub record Digits·of (text : List ℕ) (n v : ℕ) : Type 0 where
  pub count : Counted paper.digit text n
  pub worth : capped v ≡ capped (paper.value_of (take n text) 0)

-- the sort of the sign that the first two bytes are, or 0
unfoldable pub pair_sort : List ℕ → ℕ
pair_sort [] = 0
pair_sort (b ∷ []) = 0
pair_sort (b ∷ c ∷ r) = sign_sort (b ∷ c ∷ [])

-- the word of a text that begins with no letter, digit or quote
unfoldable pub sign_or_none : List ℕ → paper.Scan
sign_or_none l = elim (paper.permitted (get_or l 0 0)) [ true ↦ paper.scan_sign l | false ↦ paper.refused bad_byte 0 ]
