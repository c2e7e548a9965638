-- The paper's listing as bytes.
use Rattle.std.specs.Prelude.{◌≡◌, true, false, List, [], ◌∷◌, ◌++◌, ℕ, ◌+◌, ◌*◌, ◌/◌, ◌%◌, ltb, length, take, drop}
use Rattle.std.specs.Prelude as code
use Rattle.std.specs.Prelude.{None, Some}
use Rattle.std.proofs.Math.Option.{Option, none, some}
use Rattle.laws.specs.Lists.{replaced}
use Rattle.store_cells.specs.Cells.{bytes_of}
use Rattle.paper.specs.Words.{Refusal, Kind, a_name, a_reserved, a_number, a_string, a_sign, kind_of, Listed, listing}
use Rattle.text_words.specs.declared.Word.{Word}
use Rattle.text_words.specs.declared.Refusal as refusals
use Rattle.text_words.specs.Answers.{as_refusal}
use Rattle.call_listing.specs.declared.Summary.{Summary}

-- Three numbers: four bytes each, low byte first.
unfoldable pub three_bytes : ℕ → ℕ → ℕ → List ℕ
three_bytes a b c = bytes_of (a % 4294967296 ∷ b % 4294967296 ∷ c % 4294967296 ∷ [])

-- Three numbers at a place of a slice.
abbrev pub three_put : List ℕ → (at : ℕ) → ℕ → ℕ → ℕ → List ℕ
three_put out at a b c = replaced out at (three_bytes a b c) 12

-- ---- entries
abbrev pub kind_number : Kind → ℕ
kind_number a_name = 0
kind_number a_reserved = 1
kind_number a_number = 2
kind_number a_string = 3
kind_number a_sign = 4

abbrev pub listed_of : Word → Listed
listed_of w = record { kind = kind_of w.sort; place = w.place; length = w.length }

-- An entry: kind, place and length.
abbrev pub entry_of : Listed → List ℕ
entry_of w = three_bytes (kind_number w.kind) w.place w.length

-- The entry with an index, where there is room for it.
unfoldable pub entered : List ℕ → (index : ℕ) → Listed → List ℕ
entered out index w =
    elim (ltb (length out) (index * 12 + 12)) [
      | true ↦ out
      | false ↦ three_put out (index * 12) (kind_number w.kind) w.place w.length
    ]

-- The entries of a listing, the first of which has an index, put one after another.
unfoldable pub written : List ℕ → (index : ℕ) → List Listed → List ℕ
written out index [] = out
written out index (w ∷ l) = written (entered out index w) (index + 1) l

-- The entries of a listing, one behind the other.
unfoldable pub entries_of : List Listed → List ℕ
entries_of [] = []
entries_of (w ∷ l) = entry_of w ++ entries_of l

-- ---- the end of a listing
abbrev pub refusal_number : Option Refusal → ℕ
refusal_number none = 0
refusal_number (some r) = r.number

abbrev pub refusal_offset : Option Refusal → ℕ
refusal_offset none = 0
refusal_offset (some r) = r.offset

-- a refusal that may be, as the paper tells it
abbrev pub refused_as : code.Option refusals.Refusal → Option Refusal
refused_as None = none
refused_as (Some q) = some (as_refusal q)

pub record Listed·all (text before after : List ℕ) (r : Summary) : Type 0 where
  pub entries : after ≡ written before 0 (listing text).0
  pub count : r.words ≡ length (listing text).0
  pub refusal : refused_as r.refusal ≡ (listing text).1

-- the end of a listing at the front of a slice
abbrev pub summary_put : List ℕ → Summary → List ℕ
summary_put answer s = three_put answer 0 s.words (refusal_number (refused_as s.refusal)) (refusal_offset (refused_as s.refusal))

-- ---- what is promised
-- A slice with these bytes at its front: what lies behind them stays.
abbrev pub fronted : List ℕ → List ℕ → List ℕ
fronted out bytes = bytes ++ drop (length bytes) out

-- The output has as many entries as there is room for, and the answer the end of the listing. Where the answer is too short, nothing is touched.
pub record Exported (text out answer : List ℕ) (r : ℕ) (out' answer' : List ℕ) : Type 0 where
  pub result : r ≡ elim (ltb (length answer) 12) [ true ↦ 0 | false ↦ 1 ]
  pub entries : out' ≡ elim (ltb (length answer) 12) [ true ↦ out | false ↦ fronted out (entries_of (take (length out / 12) (listing text).0)) ]
  pub summary : answer'
      ≡ elim (ltb (length answer) 12) [
        | true ↦ answer
        | false ↦ fronted answer (three_bytes (length (listing text).0) (refusal_number (listing text).1) (refusal_offset (listing text).1))
      ]
