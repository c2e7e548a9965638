-- What a reading promises: the code's answer for each of the paper's.
use Rattle.std.specs.Prelude.{◌≡◌, Bool, true, false, List, [], ℕ, suc, ◌+◌, ◌-◌, ◌<◌, ◌^◌, ltb, leb, length, drop, Option, None, Some, Result, Ok, Err}
use Rattle.std.proofs.Math.Option as math
use Rattle.std.proofs.Math.Option.{none, some}
use Rattle.std.specs.Borrow.{Bor}
use Rattle.paper.specs.Words as paper
use Rattle.layout.specs.Broken.{number_of}
use Rattle.text_scanner.specs.Answers.{Scan, scan_of}
use Rattle.text_words.specs.declared.Word.{Word}
use Rattle.text_words.specs.declared.Cursor.{Cursor}
use Rattle.text_words.specs.declared.Refusal.{Refusal}

-- ---- refusals
-- a refusal as the paper tells it: the rule's number, and the place
abbrev pub as_refusal : Refusal → paper.Refusal
as_refusal r = record { number = number_of r.rule; offset = r.place }

-- an answer, of which a refusal is told so
abbrev pub told : {A : Type 0} → Result A Refusal → Result A paper.Refusal
told (Ok x) = Ok x
told (Err r) = Err (as_refusal r)

-- ---- a step
abbrev pub Step : Type 0
Step = Result (Option (Word × Cursor)) Refusal

abbrev pub word_of : paper.Word → Word
word_of w = record { sort = w.sort; place = w.place; length = length w.covers; value = w.value }

-- the cursor with a word stands after it, and has one word more
abbrev pub after : (words : ℕ) → paper.Word → Cursor
after words w = record { place = paper.place_after w; words = words + 1 }

-- what comes next, where so many words came before
abbrev pub step_of : (words : ℕ) → paper.Next → Result (Option (Word × Cursor)) paper.Refusal
step_of words (paper.next w) = Ok (Some (word_of w, after words w))
step_of words paper.ended = Ok None
step_of words (paper.refusal r) = Err r

abbrev pub full : (words : ℕ) → Bool
full words = leb paper.word_limit words

abbrev pub Here : List ℕ → (place words : ℕ) → Step → Type 0
Here text place words r = told r ≡ step_of words (paper.word_at (full words) place (drop place text))

-- a flaw, whose place is a number of the machine
abbrev pub Refuses : (place : ℕ) → Scan → Type 0
Refuses place (Ok token) = ⊥
Refuses place (Err flaw) = place + flaw.after < 2 ^ 64

-- of a refusal neither what was scanned nor how many words came before is told
abbrev pub RefusedAt : (place : ℕ) → Bool → Scan → Step → Type 0
RefusedAt place full s r = told r ≡ step_of 0 (paper.scanned full place [] (scan_of s))

-- ---- the reading
abbrev pub too_long : paper.Refusal
too_long = record { number = 3; offset = paper.text_limit }

-- what comes next in the reading of a text, at a cursor
unfoldable pub next_at : List ℕ → Cursor → paper.Next
next_at text c =
    elim (ltb paper.text_limit (length text)) [
      | true ↦ paper.refusal too_long
      | false ↦ paper.following (full c.words) c.place (drop c.place text)
    ]

-- what is left of the reading at a cursor
unfoldable pub left_of : List ℕ → Cursor → paper.Reading
left_of text c =
    elim (ltb paper.text_limit (length text)) [
      | true ↦ paper.no_words (some too_long)
      | false ↦ paper.read_from (suc (length text)) (paper.word_limit - c.words) c.place (drop c.place text)
    ]

-- a reading starts at the first byte, with no word given
abbrev pub Started : Cursor → Type 0
Started r = r ≡ record { place = 0; words = 0 }

abbrev pub Stepped : List ℕ → Cursor → Step → Type 0
Stepped text c r = told r ≡ step_of c.words (next_at text c)

-- ---- a place
abbrev pub found_of : math.Option (List ℕ) → Option ℕ
found_of none = None
found_of (some part) = Some (length part)

abbrev pub FoundAt : List ℕ → (place : ℕ) → Option ℕ → Type 0
FoundAt text place r = r ≡ found_of (paper.asked text place)

-- Of a part that is asked for: its bytes, whether there is one, and where it begins. It lies in the text itself, at its place; where there is none, the empty
-- part at the text's own start stands for it.
abbrev pub bytes_of : math.Option (List ℕ) → List ℕ
bytes_of none = []
bytes_of (some part) = part

abbrev pub is_there : math.Option (List ℕ) → Bool
is_there none = false
is_there (some part) = true

-- a start is a block of memory and an offset in it
abbrev pub start_of : ℕ × ℕ → (place : ℕ) → math.Option (List ℕ) → ℕ × ℕ
start_of start place none = start
start_of start place (some part) = (start.0, place + start.1)

pub record PartAt (text : Bor (List ℕ)) (place : ℕ) (part : Bor (List ℕ)) (found : Bool) : Type 0 where
  pub start : part.ref_ptr ≡ start_of text.ref_ptr place (paper.asked text.now place)
  pub bytes : part.now ≡ bytes_of (paper.asked text.now place)
  pub flag : found ≡ is_there (paper.asked text.now place)
