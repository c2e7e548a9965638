-- What a text is refused for is a rule of the table.
use mathlib.Core.Path.{◌≡◌, refl, ap}
use mathlib.Core.Bool.{Bool, true, false}
use mathlib.Core.List.{List, [], ◌∷◌}
use mathlib.Core.Option.{Option, none, some}
use Prim.Native.Nat.{ℕ, zero, suc, ◌-◌}
use lib.Dec.{eqb, ltb}
use lib.ListN.{length, get_or, take, drop}
use Rattle.laws.proofs.Tests.{test}
use Rattle.paper.specs.Sorts.{sign_sort}
use Rattle.paper.specs.Words as paper
use Rattle.paper.specs.Words.{Scan, word, refused, name_limit, string_limit, largest_number, leading, in_name, letter, digit, permitted, permitted_inside, spoils_number, value_of, string_end}
use Rattle.paper.specs.Words.{scan_name, scan_number, scan_string, scan_sign, scan, Gap, up_to, bad_byte, gap, Next, next, ended, refusal, scanned, word_at, following, text_limit}
use Rattle.layout.specs.Broken.{number_of}
use Rattle.layout.proofs.RuleNumbers.{rule_of}
use Rattle.text_words.specs.declared.Cursor.{Cursor}
use Rattle.text_words.specs.declared.Refusal.{Refusal}
use Rattle.text_words.specs.Answers.{as_refusal, full, next_at}

abbrev InTable : ℕ → Type 0
InTable n = number_of (rule_of n) ≡ n

abbrev ScanRuled : Scan → Type 0
ScanRuled (word s n v) = Unit {0}
ScanRuled (refused k a) = InTable k

abbrev pub NextRuled : Next → Type 0
NextRuled (next w) = Unit {0}
NextRuled ended = Unit {0}
NextRuled (refusal r) = InTable r.number

module _ (l : List ℕ) where
  name-ruled : ScanRuled (scan_name l)
  unfolding scan_name
  name-ruled = test (ltb name_limit (leading in_name l)) (λ t. rw (t, scan_name) refl) (λ t. rw (t, scan_name) tt)

  number-ruled : ScanRuled (scan_number largest_number l)
  unfolding scan_number
  number-ruled =
      test (spoils_number (get_or l (leading digit l) 0)) (λ t. rw (t, scan_number) refl)
      (λ t. test (ltb largest_number (value_of (take (leading digit l) l) 0)) (λ u. rw (t, scan_number) (rw u refl)) (λ u. rw (t, scan_number) (rw u tt)))

  string-ruled : ScanRuled (scan_string l)
  unfolding scan_string
  string-ruled = go (string_end string_limit false (drop 1 l) 1) refl
    where
      go : (x : Option ℕ) → string_end string_limit false (drop 1 l) 1 ≡ x → ScanRuled (scan_string l)
      go none e = rw (e, scan_string) refl
      go (some n) e = test (ltb (leading permitted_inside l) n) (λ u. rw (e, scan_string) (rw u refl)) (λ u. rw (e, scan_string) (rw u tt))

  sign-ruled : ScanRuled (scan_sign l)
  unfolding scan_sign
  sign-ruled = go (sign_sort (take 2 l)) refl (sign_sort (take 1 l)) refl
    where
      go : (x : ℕ) → sign_sort (take 2 l) ≡ x → (y : ℕ) → sign_sort (take 1 l) ≡ y → ScanRuled (scan_sign l)
      go (suc s) e y f = rw (e, scan_sign) tt
      go zero e (suc s) f = rw (e, scan_sign) (rw f tt)
      go zero e zero f = rw (e, scan_sign) (rw f refl)

  scan-ruled : (b : ℕ) → ScanRuled (scan largest_number b l)
  unfolding scan
  scan-ruled b =
      test (permitted b)
      (λ p. test (letter b) (λ t. rw (p, scan) (rw t name-ruled))
      (λ t. test (digit b) (λ d. rw (p, scan) (rw t (rw d number-ruled)))
      (λ d. test (eqb b 34) (λ q. rw (p, scan) (rw t (rw d (rw q string-ruled)))) (λ q. rw (p, scan) (rw t (rw d (rw q sign-ruled)))))))
      (λ p. rw (p, scan) refl)

scanned-ruled : (full : Bool) (p : ℕ) (l : List ℕ) (s : Scan) → ScanRuled s → NextRuled (scanned full p l s)
unfolding scanned
scanned-ruled false p l (word s n v) h = tt
scanned-ruled true p l (word s n v) h = refl
scanned-ruled false p l (refused k a) h = h
scanned-ruled true p l (refused k a) h = test (eqb a 0) (λ t. rw (t, scanned) h) (λ t. rw (t, scanned) refl)

word-ruled : (full : Bool) (p : ℕ) (l : List ℕ) → NextRuled (word_at full p l)
unfolding word_at
word-ruled full p [] = tt
word-ruled full p (b ∷ r) = scanned-ruled full p (b ∷ r) (scan largest_number b (b ∷ r)) (scan-ruled (b ∷ r) b)

following-ruled : (full : Bool) (p : ℕ) (l : List ℕ) → NextRuled (following full p l)
unfolding following
following-ruled full p l = go (gap false l p) refl
  where
    go : (g : Gap) → gap false l p ≡ g → NextRuled (following full p l)
    go (bad_byte q) e = rw (e, following) refl
    go (up_to q) e = rw (e, following) (word-ruled full q (drop (q - p) l))

pub next-ruled : (text : List ℕ) (c : Cursor) → NextRuled (next_at text c)
unfolding next_at
next-ruled text c =
    test (ltb text_limit (length text)) (λ t. rw (t, next_at) refl)
    (λ t. rw (t, next_at) (following-ruled (full c.words) c.place (drop c.place text)))

-- a refusal of the paper's as a step tells it
abbrev pub refusal_of : paper.Refusal → Refusal
refusal_of r = record { rule = rule_of r.number; place = r.offset }

pub refusal-is : (text : List ℕ) (c : Cursor) (r : paper.Refusal) → next_at text c ≡ refusal r → as_refusal (refusal_of r) ≡ r
refusal-is text c r e =
    let known : InTable r.number = rw e at (next-ruled text c) in
    ap (λ (n : ℕ). record { number = n; offset = r.offset }) known
