-- The answers of a step, case by case.
use mathlib.Core.Path.{◌≡◌, refl, sym, ap, subst, ◌∙◌}
use mathlib.Core.Bool.{Bool, true, false}
use mathlib.Core.List.{List, [], ◌∷◌}
use Prim.Native.Nat.{ℕ, suc, ◌+◌, ◌-◌, ◌<◌, ◌≤◌, ◌^◌}
use native.Mathlib.Omega.{arith}
use lib.Dec.{eqb}
use lib.ListN.{length, get_or, take, drop, drop_of_length-le, length-drop}
use lib.Seq.{drop-drop, drop-cons, length-take-le}
use borrow.Author.Tests.{eq-eqb, ne_eqb, lt-ltb, le-ltb, le-leb, lt-leb}
use Rattle.laws.proofs.Tests.{test}
use Rattle.laws.proofs.Lists.{part-rest}
use Rattle.text_scanner.proofs.Bounds.{Within, scan-within}
use Rattle.paper.specs.Words as paper
use Rattle.paper.specs.Words.{scan, scanned, word_at, following, gap, text_limit, word_limit, largest_number}
use Rattle.std.specs.Prelude.{None, Some, Ok, Err}
use Rattle.layout.specs.Broken.{number_of}
use Rattle.layout.specs.declared.rules.Rule.TheVariants.{LongText, BadByte, ManyWords}
use Rattle.text_scanner.specs.declared.Token.{Token}
use Rattle.text_scanner.specs.declared.Flaw.{Flaw}
use Rattle.text_scanner.specs.declared.BadByte as gaps
use Rattle.text_scanner.specs.Answers.{Scan, Gap, scan_of, gap_of, Scanned, Skipped}
use Rattle.text_words.specs.declared.Cursor.{Cursor}
use Rattle.text_words.specs.declared.Refusal.{Refusal}
use Rattle.text_words.specs.Answers.{Step, step_of, full, Here, Refuses, RefusedAt, next_at, Stepped}
use Rattle.text_words.proofs.Places.{gap_within}

-- ---- a refusal at a place
module _ (place : ℕ) (full : Bool) (s : Scan) where
  pub no-refusal : (t : Token) → s ≡ Ok t → Refuses place s → RefusedAt place full s (Ok None)
  no-refusal t e h = absurd (subst (Refuses place) e h)

  module _ (f : Flaw) (e : s ≡ Err f) where
    pub refused-first : full ≡ true → f.after ≡ 0 → RefusedAt place full s (Err (record { rule = f.rule; place = place }))
    unfolding scanned
    refused-first t z = rw (e, t) (rw (eq-eqb f.after 0 z, scanned))

    pub refused-later : full ≡ true → (f.after ≡ 0 → ⊥) → RefusedAt place full s (Err (record { rule = ManyWords; place = place }))
    unfolding scanned
    refused-later t z = rw (e, t) (rw (ne_eqb f.after 0 z, scanned))

    pub refused-after : full ≡ false → RefusedAt place full s (Err (record { rule = f.rule; place = place + f.after }))
    unfolding scanned
    refused-after t = rw (e, t)

    pub refused-reach : Refuses place s → place + f.after < 2 ^ 64
    refused-reach h = subst (Refuses place) e h

-- ---- a word at a place
pub end-here : (text : List ℕ) (place words : ℕ) → length text ≤ place → Here text place words (Ok None)
unfolding word_at
end-here text place words h = rw (drop_of_length-le text h)

module _ (text : List ℕ) (place words : ℕ) (h : place < length text) (s : Scan) (is : Scanned (take (length text - place) (drop place text)) s) where
  first : drop place text ≡ get_or text place 0 ∷ drop (suc place) text
  first = drop-cons text place 0 h

  scan-is : scan_of s ≡ scan largest_number (get_or text place 0) (get_or text place 0 ∷ drop (suc place) text)
  scan-is = is ∙ ap (λ (l : List ℕ). scan largest_number (get_or l 0 0) l) (part-rest text place ∙ first)

  here : word_at (full words) place (drop place text) ≡ scanned (full words) place (drop place text) (scan_of s)
  unfolding word_at
  here = rw (first, word_at) (rw scan-is)

  within : Within (drop place text) (scan_of s)
  within = rw first (subst (Within (get_or text place 0 ∷ drop (suc place) text)) (sym scan-is) (scan-within (get_or text place 0) (drop (suc place) text) largest_number))

  module _ (f : Flaw) (e : s ≡ Err f) where
    pub refuses : length text < 2 ^ 64 → Refuses place s
    refuses room =
        let w : f.after ≤ length text - place = rw length-drop at (subst (λ (x : Scan). Within (drop place text) (scan_of x)) e within) in
        rw e (omega arith)

    pub word-refused : (r : Step) → RefusedAt place (full words) s r → Here text place words r
    unfolding scanned
    word-refused r g = g ∙ ap (λ (x : Scan). step_of 0 (scanned (full words) place [] (scan_of x))) e ∙ same (full words)
        ∙ sym (ap (step_of words) (here ∙ ap (λ (x : Scan). scanned (full words) place (drop place text) (scan_of x)) e))
      where
        same : (b : Bool) → step_of 0 (scanned b place [] (paper.refused (number_of f.rule) f.after)) ≡ step_of words (scanned b place (drop place text) (paper.refused (number_of f.rule) f.after))
        same false = refl
        same true = test (eqb f.after 0) (λ t. rw (t, scanned)) (λ t. rw (t, scanned))

  module _ (t : Token) (e : s ≡ Ok t) where
    word-within : (0 < t.length) × (t.length ≤ length (drop place text))
    word-within = subst (λ (x : Scan). Within (drop place text) (scan_of x)) e within

    pub word_fits : length text < 2 ^ 64 → place + t.length < 2 ^ 64
    word_fits room = let w : t.length ≤ length text - place = rw length-drop at word-within.1 in omega arith

    pub word-full : word_limit ≤ words → Here text place words (Err (record { rule = ManyWords; place = place }))
    unfolding scanned
    word-full f = sym (ap (step_of words) here ∙ rw (le-leb word_limit words f, e))

    pub word_good : words < word_limit
        → Here text place words (Ok (Some (record { sort = t.sort; place = place; length = t.length; value = t.value }, record { place = place + t.length; words = words + 1 })))
    unfolding scanned
    word_good f =
        let size : length (take t.length (drop place text)) ≡ t.length = length-take-le t.length (drop place text) word-within.1 in
        sym (ap (step_of words) here ∙ rw (lt-leb word_limit words f, e) (rw size))

-- ---- a step
pub step-long : (text : List ℕ) (c : Cursor) → text_limit < length text → Stepped text c (Err (record { rule = LongText; place = text_limit }))
unfolding next_at
step-long text c h = rw (lt-ltb text_limit (length text) h, next_at)

module _ (text : List ℕ) (c : Cursor) (h : length text ≤ text_limit) (g : Gap) (is : Skipped text c.place g) (q : ℕ) where
  follows : (x : paper.Next) → following (full c.words) c.place (drop c.place text) ≡ x → step_of c.words x ≡ step_of c.words (next_at text c)
  unfolding next_at
  follows x e = rw (le-ltb text_limit (length text) h, next_at) (rw e)

  pub step-bad : (bad : gaps.BadByte) → g ≡ Err bad → Stepped text c (Err (record { rule = BadByte; place = bad.place }))
  unfolding following
  step-bad bad e = follows (paper.refusal_at 4 bad.place) (rw (sym is ∙ ap gap_of e, following))

  pub step-here : (r : Step) → g ≡ Ok q → Here text q c.words r → Stepped text c r
  unfolding following
  step-here r e k =
      let up : gap false (drop c.place text) c.place ≡ paper.up_to q = sym is ∙ ap gap_of e in
      let at : c.place + (q - c.place) ≡ q = omega (arith, (gap_within false (drop c.place text) c.place q up).0) in
      k ∙ follows (word_at (full c.words) q (drop q text)) (rw (up, following) (rw (drop-drop, at)))
