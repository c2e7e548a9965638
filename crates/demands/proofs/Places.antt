-- What a reading ensures: a refusal of it is 3 to 7, and its place is in the text.
use mathlib.Core.Path.{◌≡◌}
use mathlib.Core.Bool.{Bool, true, false}
use mathlib.Core.List.{List, [], ◌∷◌}
use mathlib.Core.Option.{Option, none, some}
use Prim.Native.Nat.{ℕ, zero, suc, ◌+◌, ◌-◌, ◌≤◌, ◌<◌}
use native.Mathlib.Omega.{arith}
use lib.Dec.{T, eqb, ltb, leb, leb→le}
use lib.ListN.{length, get_or, take, drop, length-take, length-drop}
use borrow.Author.Tests.{ltb-true}
use Rattle.paper.specs.Sorts.{sign_sort}
use Rattle.paper.specs.Words.{text_limit, word_limit, name_limit, string_limit, largest_number, QUOTE, EXCLAMATION, LF, permitted, permitted_inside, letter, digit, in_name, separates, spoils_number}
use Rattle.paper.specs.Words.{barred_in_string, leading, Scan, word, refused, scan_name, value_of, scan_number, string_end, scan_string, scan_sign, scan, Gap, up_to, bad_byte, gap, place_after, Refusal, Next}
use Rattle.paper.specs.Words.{next, ended, refusal, scanned, word_at, following, Reading, read_from, reading}
use Rattle.raised.proofs.Choices.{forked, forked-by}
use Rattle.demands.specs.Vocabulary.{All, nothing, ◌also◌}

-- ---- a word
-- A scan of the bytes l: a refusal of 4 to 6, at a byte of l.
abbrev Scans : List ℕ → Scan → Type 0
Scans l (word sort n v) = Unit
Scans l (refused number after) = (4 ≤ number) × (number ≤ 6) × (after < length l)

-- A string's length, if it has one.
data EndsBy (most : ℕ) : Option ℕ → Type 0 where
  unended : EndsBy most none
  ended_by : (n : ℕ) → n ≤ most → EndsBy most (some n)

longer-ends : (a b : ℕ) {o : Option ℕ} → a ≤ b → EndsBy a o → EndsBy b o
longer-ends a b h unended = unended
longer-ends a b h (ended_by n g) = ended_by n (omega arith)

room-ends : (most room : ℕ) (f : ℕ → Option ℕ) → ((m : ℕ) → EndsBy most (f m)) → EndsBy most (elim room [ zero ↦ none | suc m ↦ f m ])
room-ends most zero f h = unended
room-ends most (suc m) f h = h m

string-ends : (room : ℕ) (quoted : Bool) (l : List ℕ) (n : ℕ) → EndsBy (n + length l) (string_end room quoted l n)
unfolding string_end
string-ends room true [] n = ended_by n (omega arith)
string-ends room false [] n = unended
string-ends room true (b ∷ r) n =
    forked (EndsBy (n + suc (length r))) (eqb b QUOTE) _ _
    (room-ends _ room _ (λ m. longer-ends (n + 1 + length r) _ (omega arith) (string-ends m false r (n + 1))))
    (ended_by n (omega arith))
string-ends room false (b ∷ r) n =
    forked (EndsBy (n + suc (length r))) (eqb b QUOTE) _ _
    (longer-ends (n + 1 + length r) _ (omega arith) (string-ends room true r (n + 1)))
    (forked (EndsBy (n + suc (length r))) (barred_in_string b) _ _ unended
    (room-ends _ room _ (λ m. longer-ends (n + 1 + length r) _ (omega arith) (string-ends m false r (n + 1)))))

module _ (b : ℕ) (r : List ℕ) where
  here : (number : ℕ) → T (leb 4 number) → T (leb number 6) → Scans (b ∷ r) (refused number 0)
  here number l h = (leb→le 4 number l, leb→le number 6 h, omega arith)

  name-scans : Scans (b ∷ r) (scan_name (b ∷ r))
  unfolding scan_name
  name-scans = forked (Scans (b ∷ r)) (ltb name_limit (leading in_name (b ∷ r))) _ _ (here 5 tt tt) tt

  number-scans : (largest : ℕ) → Scans (b ∷ r) (scan_number largest (b ∷ r))
  unfolding scan_number
  number-scans largest =
      forked (Scans (b ∷ r)) (spoils_number (get_or (b ∷ r) (leading digit (b ∷ r)) 0)) _ _ (here 5 tt tt)
      (forked (Scans (b ∷ r)) (ltb largest (value_of (take (leading digit (b ∷ r)) (b ∷ r)) 0)) _ _ (here 6 tt tt) tt)

  string-scans : Scans (b ∷ r) (scan_string (b ∷ r))
  unfolding scan_string
  string-scans = by-end (string_end string_limit false r 1) (string-ends string_limit false r 1)
    where
      by-end : (o : Option ℕ) → EndsBy (1 + length r) o
          → Scans (b ∷ r) (elim o [ none ↦ refused 5 0 | some n ↦ elim (ltb (leading permitted_inside (b ∷ r)) n) [ true ↦ refused 4 (leading permitted_inside (b ∷ r)) | false ↦ word 3 n 0 ] ])
      by-end o unended = here 5 tt tt
      by-end o (ended_by n h) =
          let p = leading permitted_inside (b ∷ r) in
          forked-by (Scans (b ∷ r)) (ltb p n) _ _ (λ t. (omega arith, omega arith, omega (arith, ltb-true p n t))) (λ t. tt)

  sign-scans : Scans (b ∷ r) (scan_sign (b ∷ r))
  unfolding scan_sign
  sign-scans = by_two (sign_sort (take 2 (b ∷ r)))
    where
      by_one : (s : ℕ) → Scans (b ∷ r) (elim s [ suc n ↦ word (suc n) 1 0 | zero ↦ refused 5 0 ])
      by_one zero = here 5 tt tt
      by_one (suc n) = tt

      by_two : (s : ℕ) → Scans (b ∷ r) (elim s [ suc n ↦ word (suc n) (length (take 2 (b ∷ r))) 0 | zero ↦ elim (sign_sort (take 1 (b ∷ r))) [ suc n ↦ word (suc n) 1 0 | zero ↦ refused 5 0 ] ])
      by_two zero = by_one (sign_sort (take 1 (b ∷ r)))
      by_two (suc n) = tt

  scans : (largest : ℕ) → Scans (b ∷ r) (scan largest b (b ∷ r))
  unfolding scan
  scans largest =
      forked (Scans (b ∷ r)) (permitted b) _ _
      (forked (Scans (b ∷ r)) (letter b) _ _ name-scans
      (forked (Scans (b ∷ r)) (digit b) _ _ (number-scans largest) (forked (Scans (b ∷ r)) (eqb b QUOTE) _ _ string-scans sign-scans)))
      (here 4 tt tt)

-- ---- what lies between words
data Gaps (place : ℕ) (l : List ℕ) : Gap → Type 0 where
  up-to : (p : ℕ) → place ≤ p → p ≤ place + length l → Gaps place l (up_to p)
  bad-byte : (p : ℕ) → place ≤ p → p < place + length l → Gaps place l (bad_byte p)

one_on : (place b : ℕ) (r : List ℕ) {g : Gap} → Gaps (place + 1) r g → Gaps place (b ∷ r) g
one_on place b r (up-to p l h) = up-to p (omega arith) (omega arith)
one_on place b r (bad-byte p l h) = bad-byte p (omega arith) (omega arith)

gaps : (comment : Bool) (l : List ℕ) (place : ℕ) → Gaps place l (gap comment l place)
unfolding gap
gaps comment [] place = up-to place (omega arith) (omega arith)
gaps false (b ∷ r) place =
    forked (Gaps place (b ∷ r)) (separates b) _ _ (one_on place b r (gaps false r (place + 1)))
    (forked (Gaps place (b ∷ r)) (eqb b EXCLAMATION) _ _ (one_on place b r (gaps true r (place + 1))) (up-to place (omega arith) (omega arith)))
gaps true (b ∷ r) place =
    forked (Gaps place (b ∷ r)) (eqb b LF) _ _ (one_on place b r (gaps false r (place + 1)))
    (forked (Gaps place (b ∷ r)) (permitted_inside b) _ _ (one_on place b r (gaps true r (place + 1))) (bad-byte place (omega arith) (omega arith)))

-- ---- what comes next: a word that ends in the text, or a refusal of 4 to 7 at a byte of it
abbrev Follows : (end place : ℕ) → Next → Type 0
Follows end place (next w) = (place ≤ w.place) × (place_after w ≤ end) × (w.place < end)
Follows end place ended = Unit
Follows end place (refusal f) = (4 ≤ f.number) × (f.number ≤ 7) × (f.offset < end)

scanned-follows : (full : Bool) (place b : ℕ) (r : List ℕ) (s : Scan) → Scans (b ∷ r) s → Follows (place + length (b ∷ r)) place (scanned full place (b ∷ r) s)
unfolding scanned
scanned-follows false place b r (word sort n v) h = (omega arith, omega (arith, length-take n (b ∷ r)), omega arith)
scanned-follows true place b r (word sort n v) h = (omega arith, omega arith, omega arith)
scanned-follows false place b r (refused number after) h = (omega arith, omega arith, omega arith)
scanned-follows true place b r (refused number after) h =
    forked (Follows (place + length (b ∷ r)) place) (eqb after 0) _ _ (omega arith, omega arith, omega arith) (omega arith, omega arith, omega arith)

word-follows : (full : Bool) (place : ℕ) (l : List ℕ) → Follows (place + length l) place (word_at full place l)
unfolding word_at
word-follows full place [] = tt
word-follows full place (b ∷ r) = scanned-follows full place b r _ (scans b r largest_number)

sooner : (end p place : ℕ) (x : Next) → place ≤ p → Follows end p x → Follows end place x
sooner end p place (next w) h g = (omega arith, g.1, g.2)
sooner end p place ended h g = tt
sooner end p place (refusal f) h g = g

follows : (full : Bool) (place : ℕ) (l : List ℕ) → Follows (place + length l) place (following full place l)
unfolding following
follows full place l = by-gap (gap false l place) (gaps false l place)
  where
    by-gap : (g : Gap) → Gaps place l g
        → Follows (place + length l) place (elim g [ bad_byte p ↦ refusal (record { number = 4; offset = p }) | up_to p ↦ word_at full p (drop (p - place) l) ])
    by-gap g (bad-byte p low high) = (omega arith, omega arith, high)
    by-gap g (up-to p low high) =
        let e : p + length (drop (p - place) l) ≡ place + length l = omega (arith, length-drop (p - place) l) in
        sooner (place + length l) p place (word_at full p (drop (p - place) l)) low (rw e at (word-follows full p (drop (p - place) l)))

-- ---- the reading
abbrev RefusesIn : (end : ℕ) → Option Refusal → Type 0
RefusesIn end none = Unit
RefusesIn end (some f) = (4 ≤ f.number) × (f.number ≤ 7) × (f.offset < end)

-- A reading of a text up to its end: its words begin before it, and so does what it refuses.
pub record ReadsIn (end : ℕ) (r : Reading) : Type 0 where
  pub refuses : RefusesIn end r.refusal
  pub words : All (λ w. w.place < end) r.words

reads-from : (bytes words place : ℕ) (l : List ℕ) → ReadsIn (place + length l) (read_from bytes words place l)
unfolding read_from
reads-from zero words place l = record { refuses = tt; words = nothing }
reads-from (suc bytes) words place l = by_next (following (eqb words 0) place l) (follows (eqb words 0) place l) (λ p r. reads-from bytes (words - 1) p r)
  where
    by_next : (x : Next) → Follows (place + length l) place x → ((p : ℕ) (r : List ℕ) → ReadsIn (p + length r) (read_from bytes (words - 1) p r))
        → ReadsIn (place + length l) (elim x [
          | ended ↦ record { words = []; refusal = none }
          | refusal f ↦ record { words = []; refusal = some f }
          | next w ↦
              let q = read_from bytes (words - 1) (place_after w) (drop (place_after w - place) l) in
              record { words = w ∷ q.words; refusal = q.refusal }
        ])
    by_next ended h on = record { refuses = tt; words = nothing }
    by_next (refusal f) h on = record { refuses = h; words = nothing }
    by_next (next w) h on =
        let e : place_after w + length (drop (place_after w - place) l) ≡ place + length l = omega (arith, length-drop (place_after w - place) l) in
        let rest : ReadsIn (place + length l) (read_from bytes (words - 1) (place_after w) (drop (place_after w - place) l)) =
        rw e at (on (place_after w) (drop (place_after w - place) l)) in
        record { refuses = rest.refuses; words = h.2 also rest.words }

whole-text : (text : List ℕ) → ReadsIn (length text) (read_from (suc (length text)) word_limit 0 text)
whole-text text =
    let e : 0 + length text ≡ length text = omega arith in
    rw e at (reads-from (suc (length text)) word_limit 0 text)

-- "3: text too long: 32,768"; else 4 to 7, in the text
pub data ReadingRefuses (text : List ℕ) : Option Refusal → Type 0 where
  not : ReadingRefuses text none
  too_long : text_limit < length text → ReadingRefuses text (some (record { number = 3; offset = text_limit }))
  in-text : {f : Refusal} → 4 ≤ f.number → f.number ≤ 7 → f.offset < length text → ReadingRefuses text (some f)

pub reading-refuses : (text : List ℕ) → ReadingRefuses text (reading text).refusal
unfolding reading
reading-refuses text =
    forked-by (λ (r : Reading). ReadingRefuses text r.refusal) (ltb text_limit (length text)) _ _
    (λ t. too_long (ltb-true text_limit (length text) t))
    (λ t. within _ (whole-text text).refuses)
  where
    within : (o : Option Refusal) → RefusesIn (length text) o → ReadingRefuses text o
    within none h = not
    within (some f) h = in-text {f = f} h.0 h.1 h.2

-- Every word begins in the text.
pub words-in-text : (text : List ℕ) → All (λ w. w.place < length text) (reading text).words
unfolding reading
words-in-text text = forked (λ (r : Reading). All (λ w. w.place < length text) r.words) (ltb text_limit (length text)) _ _ nothing (whole-text text).words
