-- The word that starts at a place.
use mathlib.Core.Path.{◌≡◌, refl, sym, ap, ◌∙◌}
use mathlib.Core.Bool.{true, false}
use mathlib.Core.List.{List, [], ◌∷◌}
use mathlib.Core.Option.{Option, none, some}
use Prim.Native.Nat.{ℕ, zero, suc, ◌+◌, ◌-◌, ◌<◌, ◌≤◌, ◌^◌}
use native.Mathlib.Omega.{arith}
use lib.Dec.{eqb, ltb}
use lib.ListN.{length, take, drop}
use borrow.Author.Tests.{eqb-true, eq-eqb, ne_eqb}
use denote.Ref.{Bor}
use Rattle.laws.proofs.Tests.{test, apart}
use Rattle.paper.specs.Words.{Next, next, ended, refusal, Reading, place_after, following, read_from, reading, part_at, asked, text_limit, word_limit}
use Rattle.text_words.specs.declared.Word.{Word}
use Rattle.text_words.specs.declared.Cursor.{Cursor}
use Rattle.std.specs.Prelude as code
use Rattle.std.specs.Prelude.{None, Some, Ok, Err}
use Rattle.text_words.specs.declared.Refusal.{Refusal}
use Rattle.text_words.specs.Answers.{Step, Started, Stepped, left_of, found_of, FoundAt, bytes_of, is_there, start_of, PartAt}
use Rattle.text_words.proofs.Places.{Lies, NextLies, lies-nearer, lies-is, following-lies}
use Rattle.text_words.proofs.Readings.{Gives, step_gives, step-ends, step-refuses, start_left}

-- ---- a part that is asked for lies in what is left
abbrev AskedLies : ℕ → Type 0
AskedLies f = (words p place : ℕ) (l part : List ℕ) → part_at (read_from f words p l).words place ≡ some part → Lies p l place part

lies-step : (f : ℕ) → AskedLies f → AskedLies (suc f)
unfolding read_from part_at
lies-step f more words p place l part h = go (following (eqb words 0) p l) refl (following-lies (eqb words 0) p l)
  where
    go : (x : Next) → following (eqb words 0) p l ≡ x → NextLies (eqb words 0) p l x → Lies p l place part
    go ended e i = let z : none ≡ some part = rw (e, read_from) at h in apart (cc)
    go (refusal r) e i = let z : none ≡ some part = rw (e, read_from) at h in apart (cc)
    go (next w) e i =
        test (eqb w.place place)
        (λ t. let z : some w.covers ≡ some part = rw (t, part_at) at (rw (e, read_from) at h) in
        let same : w.covers ≡ part = cc in
        rw (sym same, sym (eqb-true w.place place t)) i.0)
        (λ t. let rest = more (words - 1) (place_after w) place (drop (place_after w - p) l) part (rw (t, part_at) at (rw (e, read_from) at h)) in
        lies-nearer p (place_after w) (place_after w - p) l place part (omega (arith, i.0.behind)) (omega (arith, i.0.inside)) rest)

lies-by : (f : ℕ) → AskedLies f
unfolding read_from part_at
lies-by zero words p place l part h = let z : none ≡ some part = h in apart (cc)
lies-by (suc f) words p place l part h = lies-step f (lies-by f) words p place l part h

-- The part that a word covers has some bytes, and is the text's own at the place.
pub asked-lies : (text : List ℕ) (place : ℕ) (part : List ℕ) → asked text place ≡ some part → Lies 0 text place part
unfolding asked reading part_at
asked-lies text place part h =
    test (ltb text_limit (length text)) (λ t. let z : none ≡ some part = rw (t, reading) at h in apart (cc))
    (λ t. lies-by (suc (length text)) word_limit 0 place text part (rw (t, reading) at h))

-- no word of what is left starts before its place
left-later : (text : List ℕ) (c : Cursor) (place : ℕ) → place < c.place → part_at (left_of text c).words place ≡ none
unfolding left_of part_at
left-later text c place h =
    test (ltb text_limit (length text)) (λ t. rw (t, left_of))
    (λ t. rw (t, left_of) (go (part_at (read_from (suc (length text)) (word_limit - c.words) c.place (drop c.place text)).words place) refl))
  where
    go : (o : Option (List ℕ)) → part_at (read_from (suc (length text)) (word_limit - c.words) c.place (drop c.place text)).words place ≡ o → o ≡ none
    go none e = refl
    go (some part) e = absurd (omega (arith, (lies-by (suc (length text)) (word_limit - c.words) c.place place (drop c.place text) part e).behind))

-- ---- the search
-- The answer is in what is left of the reading.
pub record Search (text : List ℕ) (place : ℕ) (c : Cursor) : Type 0 where
  pub left : asked text place ≡ part_at (left_of text c).words place

pub search-start : (text : List ℕ) (place : ℕ) (c : Cursor) → Started c → Search text place c
unfolding asked
search-start text place c h = record { left = ap (λ (r : Reading). part_at r.words place) (sym (start_left text c h)) }

module _ (text : List ℕ) (place : ℕ) (c : Cursor) (at : Search text place c) (r : Step) (is : Stepped text c r) where
  -- no word came
  pub search-ends : (o : code.Option (Word × Cursor)) → r ≡ Ok o → o ≡ None → FoundAt text place None
  unfolding part_at
  search-ends o e g =
      let gone : part_at (left_of text c).words place ≡ none = rw (step-ends text c r is (e ∙ ap Ok g)) in
      sym (ap found_of (at.left ∙ gone))

  pub search-refused : (q : Refusal) → r ≡ Err q → FoundAt text place None
  unfolding part_at
  search-refused q e =
      let gone : part_at (left_of text c).words place ≡ none = rw (step-refuses text c r is q e) in
      sym (ap found_of (at.left ∙ gone))

  module _ (o : code.Option (Word × Cursor)) (e : r ≡ Ok o) (w : Word) (d : Cursor) (g : o ≡ Some (w, d)) where
    gives : Gives text c w d
    gives = step_gives text c r is w d (e ∙ ap Ok g)

    word_first : asked text place ≡ part_at (gives.paper-word ∷ (left_of text d).words) place
    word_first =
        at.left ∙ ap (λ (x : Reading). part_at x.words place) gives.given.left
        ∙ ap (λ (x : Cursor). part_at (gives.paper-word ∷ (left_of text x).words) place) (sym gives.cursor-is)

    starts : w.place ≡ gives.paper-word.place
    starts = ap (λ (x : Word). x.place) gives.word-is

    found_first : w.place ≡ place → asked text place ≡ some gives.paper-word.covers
    unfolding part_at
    found_first h = word_first ∙ rw (eq-eqb gives.paper-word.place place (sym starts ∙ h), part_at)

    pub search-found : w.place ≡ place → FoundAt text place (Some w.length)
    search-found h = ap (λ (x : Word). Some x.length) gives.word-is ∙ sym (ap found_of (found_first h))

    pub search-on : (w.place ≡ place → ⊥) → Search text place d
    unfolding part_at
    search-on h = record { left = word_first ∙ rw (ne_eqb gives.paper-word.place place (λ z. h (starts ∙ z)), part_at) }

    pub search-past : (w.place ≡ place → ⊥) → place < w.place → FoundAt text place None
    search-past h l =
        let at_place : d.place ≡ place_after gives.paper-word = ap (λ (x : Cursor). x.place) gives.cursor-is in
        sym (ap found_of ((search-on h).left ∙ left-later text d place (omega (arith, starts))))

-- ---- the part, by where it begins and what it holds
module _ (text : Bor (List ℕ)) (place : ℕ) (r : code.Option ℕ) (is : FoundAt text.now place r) where
  nothing : (o : Option (List ℕ)) → None ≡ found_of o → o ≡ none
  nothing none e = refl
  nothing (some part) e = apart (cc)

  pub part_none : r ≡ None → PartAt text place (record { ref_ptr = text.ref_ptr; now = [] }) false
  part_none e =
      let no = nothing (asked text.now place) (sym e ∙ is) in
      record { start = rw no; bytes = rw no; flag = rw no }

  module _ (n : ℕ) (e : r ≡ Some n) where
    part-is : asked text.now place ≡ some (take n (drop place text.now))
    part-is = go (asked text.now place) refl (sym e ∙ is)
      where
        go : (o : Option (List ℕ)) → asked text.now place ≡ o → Some n ≡ found_of o → asked text.now place ≡ some (take n (drop place text.now))
        go none a f = apart (cc)
        go (some part) a f =
            let size : length part ≡ n = cc in
            a ∙ ap some (lies-is text.now place part (asked-lies text.now place part a) ∙ rw size)

    pub part-inside : place + n ≤ length text.now
    part-inside =
        let l = asked-lies text.now place (take n (drop place text.now)) part-is in
        let size : n ≡ length (take n (drop place text.now)) = cc (is, part-is) in
        omega (arith, l.inside)

    pub part-fits : length text.now < 2 ^ 64 → place + n < 2 ^ 64
    part-fits room = omega (arith, part-inside)

    -- fact by fact: what lies elsewhere is refused for where it lies
    pub part-start : (text.ref_ptr.0, place + text.ref_ptr.1) ≡ start_of text.ref_ptr place (asked text.now place)
    part-start = rw part-is

    pub part_bytes : take (place + n - place) (drop place text.now) ≡ bytes_of (asked text.now place)
    part_bytes = let size : place + n - place ≡ n = omega arith in rw (part-is, size)

    pub part-flag : true ≡ is_there (asked text.now place)
    part-flag = rw part-is
