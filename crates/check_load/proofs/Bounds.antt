-- Every word of a reading lies in its text, and its sort, value and length have bounds.
use mathlib.Core.Path.{◌≡◌, refl, ap}
use mathlib.Core.Bool.{Bool, true, false}
use mathlib.Core.List.{List, [], ◌∷◌, map}
use mathlib.Core.Option.{Option, none, some}
use mathlib.Core.Logic.{◌⊎◌, inl, inr}
use Prim.Native.Nat.{ℕ, zero, suc, ◌+◌, ◌-◌, ◌*◌, ◌<◌, ◌≤◌}
use Prim.Native.String.{String}
use native.Mathlib.Omega.{arith}
use lib.Dec.{eqb, ltb}
use lib.ListN.{length, get_or, take, drop, length-take}
use lib.Seq.{length-take-le}
use borrow.Author.Tests.{ltb-false, le-ltb, eqb-false}
use Rattle.laws.proofs.Tests.{test, apart}
use Rattle.paper.specs.Sorts.{bytes, folded, signs, reserved, equal_texts, number_in, sign_sort, name_sort, NAME, STRING}
use Rattle.paper.specs.Words.{Scan, word, refused, scan_name, scan_number, scan_string, scan_sign, scan, leading, in_name, digit, value_of, spoils_number, permitted_inside, string_end, string_limit}
use Rattle.paper.specs.Words.{barred_in_string, QUOTE, letter, permitted, Gap, up_to, bad_byte, gap, Word, Next, next, ended, refusal, scanned, word_at, following, Reading, no_words, read_from, reading}
use Rattle.paper.specs.Words.{place_after, text_limit, word_limit, name_limit, largest_number}
use Rattle.paper.specs.Names.{nth}
use Rattle.text_words.proofs.Places.{Lies, NextLies, lies-nearer, following-lies}
use Rattle.check_load.specs.Layout.{words_in}

-- ---- sorts
number-range : (T : List String) (n : ℕ) (text : List ℕ) → (number_in T n text ≡ 0) ⊎ ((n ≤ number_in T n text) × (number_in T n text < n + length T))
unfolding number_in
number-range [] n text = inl refl
number-range (s ∷ T) n text =
    test (equal_texts (map folded (bytes s)) text) (λ t. rw (t, number_in) (inr (omega arith, omega arith)))
    (λ t. rw (t, number_in) (wider (number-range T (n + 1) text)))
  where
    wider : (number_in T (n + 1) text ≡ 0) ⊎ ((n + 1 ≤ number_in T (n + 1) text) × (number_in T (n + 1) text < n + 1 + length T))
        → (number_in T (n + 1) text ≡ 0) ⊎ ((n ≤ number_in T (n + 1) text) × (number_in T (n + 1) text < n + suc (length T)))
    wider (inl e) = inl e
    wider (inr h) = inr (omega arith, omega arith)

name-small : (text : List ℕ) → (name_sort text < 128) × (name_sort text ≡ STRING → ⊥) × (0 < name_sort text)
unfolding name_sort reserved
name-small text = go (number_in reserved 32 text) refl (number-range reserved 32 text)
  where
    go : (x : ℕ) → number_in reserved 32 text ≡ x → (number_in reserved 32 text ≡ 0) ⊎ ((32 ≤ number_in reserved 32 text) × (number_in reserved 32 text < 32 + length reserved))
        → (name_sort text < 128) × (name_sort text ≡ STRING → ⊥) × (0 < name_sort text)
    go zero e h = rw (e, name_sort) (omega arith, (λ q. omega arith), omega arith)
    go (suc x) e (inl z) = absurd (omega arith)
    go (suc x) e (inr h) = rw (e, name_sort) (omega arith, (λ q. omega arith), omega arith)

sign_small : (text : List ℕ) (s : ℕ) → sign_sort text ≡ suc s → (3 ≤ s) × (s < 127)
unfolding sign_sort signs
sign_small text s e = go (number-range signs 4 text)
  where
    go : (number_in signs 4 text ≡ 0) ⊎ ((4 ≤ number_in signs 4 text) × (number_in signs 4 text < 4 + length signs)) → (3 ≤ s) × (s < 127)
    go (inl z) = absurd (omega arith)
    go (inr h) = (omega arith, omega arith)

-- ---- a word
pub record Sizes (sort size value : ℕ) : Type 0 where
  -- a word's sort is not that of nothing
  pub real : 0 < sort
  pub sorts : sort < 128
  pub values : value ≤ largest_number
  pub names : sort ≡ NAME → size ≤ name_limit
  -- two quotes, and between them 80 characters at most, each of two bytes at most
  pub strings : sort ≡ STRING → 2 ≤ size
  pub string-most : sort ≡ STRING → size ≤ 162

-- the word at the beginning of l
abbrev Sized : List ℕ → Scan → Type 0
Sized l (word s n v) = Sizes s (length (take n l)) v
Sized l (refused k a) = Unit {0}

no-string : (s n v : ℕ) (l : List ℕ) → 0 < s → s < 128 → (s ≡ STRING → ⊥) → v ≤ largest_number → (s ≡ NAME → n ≤ name_limit) → Sizes s (length (take n l)) v
no-string s n v l z a b c d = record { real = z; sorts = a; values = c; names = λ e. simp length-take (omega (arith, d e)); strings = λ e. absurd (b e); string-most = λ e. absurd (b e) }

-- A string that ends at k of the bytes behind its first n, of which there are so many.
record Ends (room n len k e : ℕ) : Type 0 where
  least : n + e ≤ k
  most : k ≤ n + 2 * room + e
  inside : k ≤ n + len

one_more : (f : ℕ → Option ℕ) (n len k e : ℕ) → e ≤ 1 → ((m : ℕ) → f m ≡ some k → Ends m (n + 1) len k 1) → (room : ℕ) → elim room [ zero ↦ none | suc m ↦ f m ] ≡ some k → Ends room n (suc len) k e
one_more f n len k e h more zero q = absurd (apart (cc))
one_more f n len k e h more (suc m) q =
    let x = more m q in
    record { least = omega (arith, x.least); most = omega (arith, x.most); inside = omega (arith, x.inside) }

slack : Bool → ℕ
slack true = 0
slack false = 1

string-ends : (room : ℕ) (quoted : Bool) (l : List ℕ) (n k : ℕ) → string_end room quoted l n ≡ some k → Ends room n (length l) k (slack quoted)
unfolding string_end slack
string-ends room true [] n k h = let e : n ≡ k = cc in record { least = omega arith; most = omega arith; inside = omega arith }
string-ends room false [] n k h = absurd (apart (cc))
string-ends room true (b ∷ r) n k h =
    test (eqb b QUOTE)
    (λ t. one_more (λ (m : ℕ). string_end m false r (n + 1)) n (length r) k 0 (omega arith) (λ m q. string-ends m false r (n + 1) k q) room (rw (t, string_end) at h))
    (λ t. let g : some n ≡ some k = rw (t, string_end) at h in let e : n ≡ k = cc in record { least = omega arith; most = omega arith; inside = omega arith })
string-ends room false (b ∷ r) n k h =
    test (eqb b QUOTE)
    (λ t. let x = string-ends room true r (n + 1) k (rw (t, string_end) at h) in record { least = omega (arith, x.least); most = omega (arith, x.most); inside = omega (arith, x.inside) })
    (λ t. test (barred_in_string b)
    (λ u. let g : ◌≡◌ {A = Option ℕ} none (some k) = rw u at (rw (t, string_end) at h) in absurd (apart (cc)))
    (λ u. one_more (λ (m : ℕ). string_end m false r (n + 1)) n (length r) k 1 (omega arith) (λ m q. string-ends m false r (n + 1) k q) room (barred t u h)))
  where
    barred : eqb b QUOTE ≡ false → barred_in_string b ≡ false → string_end room false (b ∷ r) n ≡ some k → elim room [ zero ↦ none | suc m ↦ string_end m false r (n + 1) ] ≡ some k
    barred t u q = rw u at (rw (t, string_end) at q)

sized-name : (l : List ℕ) → Sized l (scan_name l)
unfolding scan_name
sized-name l =
    test (ltb name_limit (leading in_name l)) (λ t. rw (t, scan_name) tt)
    (λ t.
    let n = name-small (map folded (take (leading in_name l) l)) in
    rw (t, scan_name) (no-string _ (leading in_name l) 0 l n.2 n.0 n.1 (omega arith) (λ e. ltb-false name_limit (leading in_name l) t)))

sized-number : (l : List ℕ) → Sized l (scan_number largest_number l)
unfolding scan_number
sized-number l =
    test (spoils_number (get_or l (leading digit l) 0)) (λ t. rw (t, scan_number) tt)
    (λ t. test (ltb largest_number (value_of (take (leading digit l) l) 0)) (λ u. rw (t, scan_number) (rw u tt))
    (λ u. rw (t, scan_number) (rw u (no-string _ (leading digit l) _ l (omega arith) (omega arith) (λ e. omega arith) (ltb-false largest_number (value_of (take (leading digit l) l) 0) u) (λ e. absurd (omega arith))))))

string-fits : (l : List ℕ) (n : ℕ) → string_end string_limit false (drop 1 l) 1 ≡ some n → (2 ≤ length (take n l)) × (length (take n l) ≤ 162)
unfolding slack string_end
string-fits [] n e = absurd (apart (cc))
string-fits (b ∷ r) n e =
    let x = string-ends string_limit false r 1 n e in
    let a : length (take n (b ∷ r)) ≡ n = length-take-le n (b ∷ r) (omega (arith, x.inside)) in
    (omega (arith, x.least), omega (arith, x.most))

sized-string : (l : List ℕ) → Sized l (scan_string l)
unfolding scan_string
sized-string l = go (string_end string_limit false (drop 1 l) 1) refl
  where
    go : (x : Option ℕ) → string_end string_limit false (drop 1 l) 1 ≡ x → Sized l (scan_string l)
    go none e = rw (e, scan_string) tt
    go (some n) e =
        test (ltb (leading permitted_inside l) n) (λ u. rw (e, scan_string) (rw u tt))
        (λ u. rw (e, scan_string) (rw u (record { real = omega arith; sorts = omega arith; values = omega arith; names = λ z. absurd (omega arith); strings = λ z. (string-fits l n e).0; string-most = λ z. (string-fits l n e).1 })))

sized-sign : (l : List ℕ) → Sized l (scan_sign l)
unfolding scan_sign
sized-sign l = go (sign_sort (take 2 l)) refl (sign_sort (take 1 l)) refl
  where
    sized : (s n : ℕ) → (3 ≤ s) × (s < 127) → Sizes (suc s) (length (take n l)) 0
    sized s n h = no-string (suc s) n 0 l (omega arith) (omega arith) (λ e. omega arith) (omega arith) (λ e. absurd (omega arith))

    go : (x : ℕ) → sign_sort (take 2 l) ≡ x → (y : ℕ) → sign_sort (take 1 l) ≡ y → Sized l (scan_sign l)
    go (suc s) e y f = rw (e, scan_sign) (sized s (length (take 2 l)) (sign_small (take 2 l) s e))
    go zero e (suc s) f = rw (e, scan_sign) (rw f (sized s 1 (sign_small (take 1 l) s f)))
    go zero e zero f = rw (e, scan_sign) (rw f tt)

sized : (b : ℕ) (l : List ℕ) → Sized l (scan largest_number b l)
unfolding scan
sized b l =
    test (permitted b)
    (λ p. test (letter b) (λ t. rw (p, scan) (rw t (sized-name l)))
    (λ t. test (digit b) (λ d. rw (p, scan) (rw t (rw d (sized-number l))))
    (λ d. test (eqb b 34) (λ q. rw (p, scan) (rw t (rw d (rw q (sized-string l))))) (λ q. rw (p, scan) (rw t (rw d (rw q (sized-sign l))))))))
    (λ p. rw (p, scan) tt)

-- ---- what comes next
abbrev NextSized : Next → Type 0
NextSized (next w) = Sizes w.sort (length w.covers) w.value
NextSized ended = Unit {0}
NextSized (refusal r) = Unit {0}

scanned-sized : (full : Bool) (p : ℕ) (l : List ℕ) (s : Scan) → Sized l s → NextSized (scanned full p l s)
unfolding scanned
scanned-sized false p l (word s n v) h = h
scanned-sized true p l (word s n v) h = tt
scanned-sized false p l (refused k a) h = tt
scanned-sized true p l (refused k a) h = test (eqb a 0) (λ t. rw (t, scanned) tt) (λ t. rw (t, scanned) tt)

word-sized : (full : Bool) (p : ℕ) (l : List ℕ) → NextSized (word_at full p l)
unfolding word_at
word-sized full p [] = tt
word-sized full p (b ∷ r) = scanned-sized full p (b ∷ r) (scan largest_number b (b ∷ r)) (sized b (b ∷ r))

next-sized : (full : Bool) (p : ℕ) (l : List ℕ) → NextSized (following full p l)
unfolding following
next-sized full p l = go (gap false l p) refl
  where
    go : (g : Gap) → gap false l p ≡ g → NextSized (following full p l)
    go (bad_byte q) e = rw (e, following) tt
    go (up_to q) e = rw (e, following) (word-sized full q (drop (q - p) l))

-- ---- the reading
pub record Good (p : ℕ) (l : List ℕ) (w : Word) : Type 0 where
  pub lies : Lies p l w.place w.covers
  pub sizes : Sizes w.sort (length w.covers) w.value

abbrev AllGood : ℕ → Type 0
AllGood f = (words p : ℕ) (l : List ℕ) (i : ℕ) → i < length (read_from f words p l).words → Good p l (nth (read_from f words p l).words i)

good-step : (f : ℕ) → AllGood f → AllGood (suc f)
unfolding read_from nth
good-step f more words p l i h = go (following (eqb words 0) p l) refl (following-lies (eqb words 0) p l) (next-sized (eqb words 0) p l) i h
  where
    go : (x : Next) → following (eqb words 0) p l ≡ x → NextLies (eqb words 0) p l x → NextSized x → (i : ℕ) → i < length (read_from (suc f) words p l).words → Good p l (nth (read_from (suc f) words p l).words i)
    go ended e k s i h = absurd (omega (arith, rw (e, read_from) at h))
    go (refusal r) e k s i h = absurd (omega (arith, rw (e, read_from) at h))
    go (next w) e k s zero h = rw (e, read_from) (record { lies = k.0; sizes = s })
    go (next w) e k s (suc i) h =
        let g = more (words - 1) (place_after w) (drop (place_after w - p) l) i (omega (arith, rw (e, read_from) at h)) in
        rw (e, read_from) (record {
          lies = lies-nearer p (place_after w) (place_after w - p) l _ _ (omega (arith, k.0.behind)) (omega (arith, k.0.inside)) g.lies;
          sizes = g.sizes;
        })

good-by : (f : ℕ) → AllGood f
unfolding read_from
good-by zero words p l i h = absurd (omega arith)
good-by (suc f) words p l i h = good-step f (good-by f) words p l i h

long-none : (text : List ℕ) → ltb text_limit (length text) ≡ true → words_in text ≡ []
unfolding reading
long-none text t = let e : reading text ≡ no_words (some (record { number = 3; offset = text_limit })) = rw (t, reading) in ap (λ (r : Reading). r.words) e

short-read : (text : List ℕ) → ltb text_limit (length text) ≡ false → words_in text ≡ (read_from (suc (length text)) word_limit 0 text).words
unfolding reading
short-read text t = let e : reading text ≡ read_from (suc (length text)) word_limit 0 text = rw (t, reading) in ap (λ (r : Reading). r.words) e

module _ (text : List ℕ) (i : ℕ) (h : i < length (words_in text)) where
  pub text-short : length text ≤ text_limit
  text-short = test (ltb text_limit (length text)) (λ t. absurd (omega (arith, h, ap length (long-none text t)))) (λ t. ltb-false text_limit (length text) t)

  pub reading-good : Good 0 text (nth (words_in text) i)
  reading-good =
      let e = short-read text (le-ltb text_limit (length text) text-short) in
      rw e (good-by (suc (length text)) word_limit 0 text i (rw e at h))

-- ---- how many words there are
most-from : (f words p : ℕ) (l : List ℕ) → length (read_from f words p l).words ≤ words
unfolding read_from
most-from zero words p l = omega arith
most-from (suc f) words p l = go (following (eqb words 0) p l) refl (following-lies (eqb words 0) p l) (most-from f (words - 1))
  where
    go : (x : Next) → following (eqb words 0) p l ≡ x → NextLies (eqb words 0) p l x → ((q : ℕ) (m : List ℕ) → length (read_from f (words - 1) q m).words ≤ words - 1)
        → length (read_from (suc f) words p l).words ≤ words
    go ended e k more = rw (e, read_from) (omega arith)
    go (refusal r) e k more = rw (e, read_from) (omega arith)
    go (next w) e k more = rw (e, read_from) (omega (arith, more (place_after w) (drop (place_after w - p) l), eqb-false words 0 k.1))

pub reading-most : (text : List ℕ) → length (words_in text) ≤ word_limit
reading-most text =
    test (ltb text_limit (length text)) (λ t. rw (long-none text t) (omega arith))
    (λ t. rw (short-read text t) (most-from (suc (length text)) word_limit 0 text))
