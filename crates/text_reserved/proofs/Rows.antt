-- The decision by length and first letter: what stands under a number of a table, that every reserved word stands in its own row, and that no row has another.
use mathlib.Core.Path.{◌≡◌, refl, sym, ap, ◌∙◌}
use mathlib.Core.Bool.{Bool, true, false, ◌&&◌}
use mathlib.Core.List.{List, [], ◌∷◌, map}
use Prim.Native.Nat.{ℕ, ◌+◌, ◌<◌, ◌≤◌}
use Prim.Native.String.{String}
use native.Mathlib.Omega.{arith}
use lib.Dec.{eqb, ltb, leb}
use lib.ListN.{length, get_or}
use borrow.Author.Tests.{eqb-true, eq-eqb, ne_eqb, leb-true}
use Rattle.laws.proofs.Tests.{test, false-true, by_most}
use Rattle.paper.specs.Sorts.{bytes, folded, reserved, equal_texts, number_in, name_sort, first_reserved, NAME}
use Rattle.paper.specs.Words.{between}
use Rattle.text_reserved.specs.declared.words.Word.{Word}
use Rattle.text_reserved.specs.Keys.{packed, behind, word_of, look, of, row, table, candidates, or_else, chosen}
use Rattle.text_reserved.proofs.Texts.{capitals, same_word, equal-text}

-- ---- a word, or another
module _ (w : Word) (rest other : ℕ) where
  pub this-one : rest ≡ w.rest → w.sort ≡ or_else w rest other
  unfolding or_else
  this-one e = rw (eq-eqb rest w.rest e, or_else)

  pub other-one : (rest ≡ w.rest → ⊥) → other ≡ or_else w rest other
  unfolding or_else
  other-one e = rw (ne_eqb rest w.rest e, or_else)

pub one_more : (w : Word) (row : List Word) (rest other s : ℕ) → other ≡ chosen row rest → s ≡ or_else w rest other → s ≡ chosen (w ∷ row) rest
unfolding chosen
one_more w row rest other s h e = rw h at e

-- ---- a match on a letter, or on a length
-- what its last arm knows, after that of the arms before it
abbrev pub Past : {A : Type 0} → ℕ → List (ℕ × List A) → Type 0 → Type 0
Past n [] Known = Known
Past n (e ∷ r) Known = Past n r (Known × (n ≡ e.0 → ⊥))

past : {A : Type 0} (n : ℕ) (rows : List (ℕ × List A)) (Known : Type 0) → Past n rows Known → (look rows n ≡ []) × Known
unfolding look
past n [] Known k = (refl, k)
past n (e ∷ r) Known k =
    let p = past n r (Known × (n ≡ e.0 → ⊥)) k in
    (rw (ne_eqb n e.0 p.1.1, look) p.0, p.1.0)

module _ (first rest s : ℕ) where
  -- an arm for a letter, and one for a length
  pub by-letter : (length letter : ℕ) (row : List Word) → first ≡ letter → s ≡ chosen row rest → candidates length letter ≡ row → s ≡ chosen (candidates length first) rest
  by-letter length letter row e h g = rw (e, g) h

  pub by_length : (length n : ℕ) → n ≡ length → s ≡ chosen (candidates length first) rest → s ≡ chosen (candidates n first) rest
  by_length length n e h = rw e h

-- and the last arm of each
pub no-letter : (length first rest : ℕ) → Past first (look table length) (Unit {0}) → NAME ≡ chosen (candidates length first) rest
unfolding candidates chosen
no-letter length first rest k = rw ((past first (look table length) (Unit {0}) k).0, candidates)

pub no_length : (n first rest : ℕ) → Past n table (Unit {0}) → NAME ≡ chosen (candidates n first) rest
unfolding candidates chosen look
no_length n first rest k = rw ((past n table (Unit {0}) k).0, candidates)

-- ---- what is so of all that stands in a table
unfoldable pub all : {A : Type 0} → (A → Bool) → List A → Bool
all such [] = true
all such (a ∷ r) = elim (such a) [ true ↦ all such r | false ↦ false ]

module _ {A : Type 0} (such : ℕ → A → Bool) where
  unfoldable in_row : ℕ × List A → Bool
  in_row e = all (such e.0) e.1

  -- so of what stands under a number too
  looked : (n : ℕ) (rows : List (ℕ × List A)) → all in_row rows ≡ true → all (such n) (look rows n) ≡ true
  unfolding all look in_row
  looked n [] t = refl
  looked n (e ∷ r) t =
      test (in_row e) (λ h. test (eqb n e.0)
      (λ g. rw (g, look) (rw (eqb-true n e.0 g) h))
      (λ g. rw (g, look) (looked n r (rw (h, all) at t))))
      (λ h. false-true (rw (h, all) at t))

-- ---- the table
unfoldable spelling : String → List ℕ
spelling s = map folded (bytes s)

-- no row has another word: each is reserved, and has the length and the first letter that it stands under
unfoldable fits : ℕ → ℕ → String → Bool
fits n l s = ltb NAME (name_sort (spelling s)) && capitals (spelling s) && eqb (length (spelling s)) n && eqb (get_or (spelling s) 0 0) l

unfoldable fitting : ℕ → ℕ × List String → Bool
fitting n = in_row (fits n)

all_fit : all (in_row fitting) table ≡ true
unfolding all in_row fitting fits capitals between spelling name_sort number_in equal_texts reserved bytes folded table of row
all_fit = refl

row_fits : (n l : ℕ) → all (fits n l) (look (look table n) l) ≡ true
unfolding fitting
row_fits n l = looked (fits n) l (look table n) (looked fitting n table all_fit)

-- every reserved word stands in its own row
unfoldable pub decided : List ℕ → ℕ
decided text = chosen (candidates (length text) (get_or text 0 0)) (behind text)

unfoldable own : String → Bool
own s = eqb (decided (spelling s)) (name_sort (spelling s))

all_own : all own reserved ≡ true
unfolding all own decided spelling chosen or_else candidates look table of row word_of behind packed name_sort number_in equal_texts reserved bytes folded
all_own = refl

-- ---- the law of recognition
all_so : (a b c d : Bool) → a && b && c && d ≡ true → (b ≡ true) × (c ≡ true) × (d ≡ true)
all_so true true true d e = (refl, refl, e)
all_so true true false d e = false-true e
all_so true false c d e = false-true e
all_so false b c d e = false-true e

module _ (text : List ℕ) where
  -- a word of the table with the text's letters is the text
  module _ (c : capitals text ≡ true) (none : name_sort text ≡ NAME) where
    this-word : (s : String) → fits (length text) (get_or text 0 0) s ≡ true → behind text ≡ behind (spelling s) → name_sort (spelling s) ≡ NAME
    unfolding fits
    this-word s t e =
        let so = all_so (ltb NAME (name_sort (spelling s))) (capitals (spelling s)) (eqb (length (spelling s)) (length text)) (eqb (get_or (spelling s) 0 0) (get_or text 0 0)) t in
        ap name_sort (same_word (spelling s) text so.0 c (eqb-true _ _ so.1) (eqb-true _ _ so.2) (sym e)) ∙ none

    no_word : (l : List String) → all (fits (length text) (get_or text 0 0)) l ≡ true → chosen (map word_of l) (behind text) ≡ NAME
    unfolding all chosen or_else word_of spelling
    no_word [] t = refl
    no_word (s ∷ r) t =
        test (fits (length text) (get_or text 0 0) s) (λ h. test (eqb (behind text) (behind (spelling s)))
        (λ g. rw (g, or_else) (this-word s h (eqb-true _ _ g)))
        (λ g. rw (g, or_else) (no_word r (rw (h, all) at t))))
        (λ h. false-true (rw (h, all) at t))

  own-word {ℓ} : {A : Type ℓ} (l : List String) (n : ℕ) → all own l ≡ true → (number_in l n text ≡ 0 → A) → (name_sort text ≡ decided text → A) → A
  unfolding all own number_in spelling
  own-word [] n t f g = f refl
  own-word (s ∷ r) n t f g =
      test (own s) (λ h. test (equal_texts (spelling s) text)
      (λ e. let same = equal-text _ text e in g (sym (rw same at (eqb-true (decided (spelling s)) (name_sort (spelling s)) h))))
      (λ e. own-word r (n + 1) (rw (h, all) at t) (λ z. f (rw (e, number_in) z)) g))
      (λ h. false-true (rw (h, all) at t))

  pub recognized : capitals text ≡ true → name_sort text ≡ decided text
  unfolding name_sort decided candidates
  recognized c =
      own-word reserved first_reserved all_own
      (λ z. let none : name_sort text ≡ NAME = rw (z, name_sort) in none ∙ sym (no_word c none _ (row_fits (length text) (get_or text 0 0))))
      (λ e. e)

-- No reserved word has more letters, whatever their number is.
unfoldable short : {A : Type 0} → ℕ × List A → Bool
short e = leb e.0 9

all_short : all short table ≡ true
unfolding all short table of
all_short = refl

above : {A : Type 0} (n : ℕ) (rows : List (ℕ × List A)) → all short rows ≡ true → 9 < n → look rows n ≡ []
unfolding all look short
above n [] t h = refl
above n (e ∷ r) t h =
    test (short e) (λ g. rw (ne_eqb n e.0 (λ i. absurd (omega (arith, leb-true e.0 9 g))), look) (above n r (rw (g, all) at t) h))
    (λ g. false-true (rw (g, all) at t))

long : (n first rest : ℕ) → 9 < n → chosen (candidates n first) rest ≡ NAME
unfolding candidates chosen look
long n first rest h = rw (above n table all_short h, candidates)

pub recognized-by : (text : List ℕ) (n first rest : ℕ) → capitals text ≡ true → n ≡ length text → first ≡ get_or text 0 0 → (n ≤ 9 → rest ≡ behind text) → name_sort text ≡ chosen (candidates n first) rest
unfolding decided
recognized-by text n first rest c e f g =
    by_most n 9 (λ h. rw (e, f, g h) (recognized text c))
    (λ h. recognized text c ∙ long (length text) (get_or text 0 0) (behind text) (omega arith) ∙ sym (long n first rest h))
