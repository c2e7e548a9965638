-- A reader that is opened on a text and moved on word by word gives the paper's listing.
use mathlib.Core.Path.{◌≡◌, refl, sym, ap, subst, ◌∙◌}
use mathlib.Core.List.{List, map}
use Prim.Native.Nat.{ℕ, zero, suc, ◌-◌, ◌<◌}
use native.Mathlib.Omega.{arith}
use lib.ListN.{length}
use Rattle.paper.specs.Words as paper
use mathlib.Core.Option.{some}
use Rattle.paper.specs.Words.{Next, next, ended, refusal, Reading, no_words, listed, listing}
use Rattle.text_words.specs.declared.Cursor.{Cursor}
use Rattle.std.specs.Prelude.{Err}
use Rattle.text_words.proofs.Ruled.{refusal_of, refusal-is}
use Rattle.text_words.specs.Answers.{as_refusal, after, step_of, next_at, left_of}
use Rattle.text_words.proofs.Readings.{Given, left_by, start_left}
use Rattle.text_reader.specs.Reads.{Gives, a_word, the_end, a-refusal}

-- what a reading comes to, from a cursor on
abbrev On : (text : List ℕ) → Cursor → Reading → Type 0
On text c r = Gives text c.place c.words (map listed r.words) r.refusal

-- by what comes next, where what comes after a word is known
on-by : (text : List ℕ) (c : Cursor) → ((w : paper.Word) → Given text c w → On text (after c.words w) (left_of text (after c.words w)))
    → (x : Next) → next_at text c ≡ x → On text c (left_of text c)
on-by text c more (next w) e =
    let g : Given text c w = left_by text c (next w) e in
    subst (On text c) (sym g.left) (a_word c.place c.words w _ _ (sym (ap (step_of c.words) e)) (more w g))
on-by text c more ended e = subst (On text c) (sym (left_by text c ended e)) (the_end c.place c.words (sym (ap (step_of c.words) e)))
on-by text c more (refusal r) e =
    let told : as_refusal (refusal_of r) ≡ r = refusal-is text c r e in
    let answer : Err (as_refusal (refusal_of r)) ≡ step_of c.words (next_at text c) = ap Err told ∙ sym (ap (step_of c.words) e) in
    let left : left_of text c ≡ no_words (some (as_refusal (refusal_of r))) = left_by text c (refusal r) e ∙ ap (λ (x : paper.Refusal). no_words (some x)) (sym told) in
    subst (On text c) (sym left) (a-refusal c.place c.words (refusal_of r) answer)

-- n is more than the bytes that are left
on-left : (text : List ℕ) (n : ℕ) (c : Cursor) → length text - c.place < n → On text c (left_of text c)
on-left text zero c h = absurd (omega arith)
on-left text (suc n) c h =
    on-by text c (λ w g. on-left text n (after c.words w) (omega (arith, g.behind, g.lies.some_bytes, g.lies.inside))) (next_at text c) refl

pub gives-listing : (text : List ℕ) → Gives text 0 0 (listing text).0 (listing text).1
unfolding listing
gives-listing text =
    let c : Cursor = record { place = 0; words = 0 } in
    subst (On text c) (start_left text c refl) (on-left text (suc (length text)) c (omega arith))
