-- What is left of a reading at a cursor, by what comes next there.
use mathlib.Core.Path.{◌≡◌, refl, sym, ap, subst, ◌∙◌}
use mathlib.Core.Bool.{Bool, true, false}
use mathlib.Core.List.{List, [], ◌∷◌, map}
use mathlib.Core.Option.{Option, none, some}
use Prim.Native.Nat.{ℕ, zero, suc, ◌+◌, ◌-◌, ◌<◌, ◌≤◌}
use native.Mathlib.Omega.{arith}
use lib.Dec.{eqb, ltb}
use lib.ListN.{length, drop, length-drop}
use lib.Seq.{drop-drop}
use borrow.Author.Tests.{eq-eqb, ne_eqb, leb-true, leb-false}
use Rattle.laws.proofs.Tests.{test, apart}
use Rattle.paper.specs.Words as paper
use Rattle.paper.specs.Words.{Next, next, ended, refusal, with_word, no_words, place_after, following, read_from, reading, text_limit, word_limit}
use Rattle.text_words.specs.declared.Word.{Word}
use Rattle.text_words.specs.declared.Cursor.{Cursor}
use Rattle.std.specs.Prelude.{None, Some, Ok, Err}
use Rattle.text_words.specs.declared.Refusal.{Refusal}
use Rattle.text_words.specs.Answers.{as_refusal, told, Step, word_of, after, step_of, full, next_at, left_of, Started, Stepped, too_long}
use Rattle.text_words.proofs.Places.{Lies, NextLies, lies-nearer, following-lies}

-- ---- the bytes that `read_from` counts do not matter once they exceed what is left
abbrev Enough : ℕ → ℕ → Type 0
Enough f g = (words p : ℕ) (l : List ℕ) → length l < f → length l < g → read_from f words p l ≡ read_from g words p l

enough-step : (f g : ℕ) → Enough f g → Enough (suc f) (suc g)
unfolding read_from
enough-step f g more words p l h k = go (following (eqb words 0) p l) refl (following-lies (eqb words 0) p l)
  where
    go : (x : Next) → following (eqb words 0) p l ≡ x → NextLies (eqb words 0) p l x → read_from (suc f) words p l ≡ read_from (suc g) words p l
    go ended e i = rw (e, read_from)
    go (refusal r) e i = rw (e, read_from)
    go (next w) e i =
        let less : length (drop (place_after w - p) l) < length l = simp length-drop (omega (arith, i.0)) in
        rw (e, read_from) (ap (with_word w) (more (words - 1) (place_after w) (drop (place_after w - p) l) (omega arith) (omega arith)))

enough : (f g : ℕ) → Enough f g
enough zero g words p l h k = absurd (omega arith)
enough (suc f) zero words p l h k = absurd (omega arith)
enough (suc f) (suc g) words p l h k = enough-step f g (enough f g) words p l h k

-- ---- what comes next
full-same : (words : ℕ) → eqb (word_limit - words) 0 ≡ full words
full-same words =
    test (full words) (λ t. eq-eqb _ 0 (none_left (leb-true word_limit words t)) ∙ sym t) (λ t. ne_eqb _ 0 (some_left (leb-false word_limit words t)) ∙ sym t)
  where
    none_left : word_limit ≤ words → word_limit - words ≡ 0
    none_left h = omega arith

    some_left : words < word_limit → word_limit - words ≡ 0 → ⊥
    some_left h e = omega arith

-- a word that comes next at a cursor: it lies behind it in the text, and what is left begins with it
pub record Given (text : List ℕ) (c : Cursor) (w : paper.Word) : Type 0 where
  pub left : left_of text c ≡ with_word w (left_of text (after c.words w))
  pub behind : c.place ≤ w.place
  pub lies : Lies 0 text w.place w.covers
  pub room : c.words < word_limit

-- what is left of the reading, by what comes next
abbrev pub Left : List ℕ → Cursor → Next → Type 0
Left text c (next w) = Given text c w
Left text c ended = left_of text c ≡ no_words none
Left text c (refusal r) = left_of text c ≡ no_words (some r)

-- in a text that is not too long
module _ (text : List ℕ) (short : ltb text_limit (length text) ≡ false) (c : Cursor) where
  left_is : left_of text c ≡ read_from (suc (length text)) (word_limit - c.words) c.place (drop c.place text)
  unfolding left_of
  left_is = rw (short, left_of)

  next-is : next_at text c ≡ following (full c.words) c.place (drop c.place text)
  unfolding next_at
  next-is = rw (short, next_at)

module _ (text : List ℕ) (short : ltb text_limit (length text) ≡ false) (c : Cursor) where
  -- `read_from` asks for what comes next by the words that may still come
  at_next : (x : Next) → next_at text c ≡ x → following (eqb (word_limit - c.words) 0) c.place (drop c.place text) ≡ x
  at_next x e = ap (λ (b : Bool). following b c.place (drop c.place text)) (full-same c.words) ∙ sym (next-is text short c) ∙ e

  module _ (w : paper.Word) (e : next_at text c ≡ next w) where
    follows : NextLies (full c.words) c.place (drop c.place text) (next w)
    follows = subst (NextLies (full c.words) c.place (drop c.place text)) (sym (next-is text short c) ∙ e) (following-lies (full c.words) c.place (drop c.place text))

    -- the cursor lies in the text, as what is behind it has some bytes
    lies : Lies 0 text w.place w.covers
    lies =
        let i = follows.0 in
        let bound : place_after w ≤ c.place + (length text - c.place) = rw length-drop at i.inside in
        lies-nearer 0 c.place c.place text w.place w.covers (omega arith) (omega (arith, i.behind, i.some_bytes)) i

    word-left : left_of text c ≡ with_word w (left_of text (after c.words w))
    unfolding read_from
    word-left =
        let i = follows.0 in
        let room = leb-false word_limit c.words follows.1 in
        let place : c.place + (place_after w - c.place) ≡ place_after w = omega (arith, i.behind) in
        let words : word_limit - c.words - 1 ≡ word_limit - (c.words + 1) = omega arith in
        let less : length (drop (place_after w) text) < length text = simp length-drop (omega (arith, lies.some_bytes, lies.inside)) in
        left_is text short c ∙ rw (at_next (next w) e, read_from) (ap (with_word w)
        (rw (drop-drop, place, words) (enough (length text) (suc (length text)) _ _ _ less (omega arith) ∙ sym (left_is text short (after c.words w)))))

    word-given : Given text c w
    word-given = record { left = word-left; behind = follows.0.behind; lies = lies; room = leb-false word_limit c.words follows.1 }

  short-left : (x : Next) → next_at text c ≡ x → Left text c x
  unfolding read_from
  short-left (next w) e = word-given w e
  short-left ended e = left_is text short c ∙ rw (at_next ended e, read_from)
  short-left (refusal r) e = left_is text short c ∙ rw (at_next (refusal r) e, read_from)

-- The law of steps: what is left of the reading begins with what comes next.
pub left_by : (text : List ℕ) (c : Cursor) (x : Next) → next_at text c ≡ x → Left text c x
unfolding left_of next_at
left_by text c x e = test (ltb text_limit (length text)) (λ t. subst (Left text c) (long t) (rw (t, left_of))) (λ t. short-left text t c x e)
  where
    long : ltb text_limit (length text) ≡ true → refusal too_long ≡ x
    long t = rw (t, next_at) at e

-- ---- what a step gives
-- the paper's word for the word that a step gives
pub record Gives (text : List ℕ) (c : Cursor) (w : Word) (d : Cursor) : Type 0 where
  pub paper-word : paper.Word
  pub word-is : w ≡ word_of paper-word
  pub cursor-is : d ≡ after c.words paper-word
  pub given : Given text c paper-word

module _ (text : List ℕ) (c : Cursor) (r : Step) (is : Stepped text c r) where
  pub step_gives : (w : Word) (d : Cursor) → r ≡ Ok (Some (w, d)) → Gives text c w d
  step_gives w d e = go (next_at text c) refl (sym (ap told e) ∙ is)
    where
      go : (x : Next) → next_at text c ≡ x → Ok (Some (w, d)) ≡ step_of c.words x → Gives text c w d
      go (next v) n s =
          let same : (w, d) ≡ (word_of v, after c.words v) = cc in
          record { paper-word = v; word-is = ap (λ (p : Word × Cursor). p.0) same; cursor-is = ap (λ (p : Word × Cursor). p.1) same; given = left_by text c (next v) n }
      go ended n s = apart (cc)
      go (refusal q) n s = apart (cc)

  pub step-ends : r ≡ Ok None → left_of text c ≡ no_words none
  step-ends e = go (next_at text c) refl (sym (ap told e) ∙ is)
    where
      go : (x : Next) → next_at text c ≡ x → Ok None ≡ step_of c.words x → left_of text c ≡ no_words none
      go (next v) n s = apart (cc)
      go ended n s = left_by text c ended n
      go (refusal q) n s = apart (cc)

  pub step-refuses : (q : Refusal) → r ≡ Err q → left_of text c ≡ no_words (some (as_refusal q))
  step-refuses q e = go (next_at text c) refl (sym (ap told e) ∙ is)
    where
      go : (x : Next) → next_at text c ≡ x → Err (as_refusal q) ≡ step_of c.words x → left_of text c ≡ no_words (some (as_refusal q))
      go (next v) n s = apart (cc)
      go ended n s = apart (cc)
      go (refusal p) n s = let same : as_refusal q ≡ p = cc in rw same (left_by text c (refusal p) n)

  -- a step that gives a word moves on in the text
  pub step_less : (w : Word) (d : Cursor) → r ≡ Ok (Some (w, d)) → length text - d.place < length text - c.place
  step_less w d e =
      let g = step_gives w d e in
      let at : d.place ≡ place_after g.paper-word = ap (λ (x : Cursor). x.place) g.cursor-is in
      omega (arith, g.given.behind, g.given.lies.some_bytes, g.given.lies.inside)

-- At the start the whole reading is left.
pub start_left : (text : List ℕ) (c : Cursor) → Started c → left_of text c ≡ reading text
unfolding left_of reading
start_left text c h = rw h

-- ---- one step after another
-- Steps from a cursor on: the words that they give, and how they end.
pub data Steps (text : List ℕ) : Cursor → List Word → Option paper.Refusal → Type 0 where
  end : {c : Cursor} → Stepped text c (Ok None) → Steps text c [] none
  refused : {c : Cursor} (q : Refusal) → Stepped text c (Err q) → Steps text c [] (some (as_refusal q))
  word : {c d : Cursor} {w : Word} {l : List Word} {o : Option paper.Refusal} → Stepped text c (Ok (Some (w, d))) → Steps text d l o → Steps text c (w ∷ l) o

-- The words that steps give one after another are those that are left, and they end as the reading does.
pub steps-left : (text : List ℕ) (c : Cursor) (l : List Word) (o : Option paper.Refusal) → Steps text c l o
    → (map word_of (left_of text c).words ≡ l) × ((left_of text c).refusal ≡ o)
steps-left text c [] none (end h) = let e = step-ends text c (Ok None) h refl in (rw e, rw e)
steps-left text c [] (some r) (refused q h) = let e = step-refuses text c (Err q) h q refl in (rw e, rw e)
steps-left text c (w ∷ l) o (word {d = d} h more) =
    let g = step_gives text c (Ok (Some (w, d))) h w d refl in
    let rest = steps-left text d l o more in
    let left : left_of text c ≡ with_word g.paper-word (left_of text d) = g.given.left ∙ ap (λ (x : Cursor). with_word g.paper-word (left_of text x)) (sym g.cursor-is) in
    (rw left (cc (g.word-is, rest.0)), rw left rest.1)

pub steps-read : (text : List ℕ) (c : Cursor) (l : List Word) (o : Option paper.Refusal) → Started c → Steps text c l o
    → (map word_of (reading text).words ≡ l) × ((reading text).refusal ≡ o)
steps-read text c l o h k = rw (sym (start_left text c h)) (steps-left text c l o k)
