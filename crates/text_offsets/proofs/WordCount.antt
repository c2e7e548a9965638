-- Words counted down to the one that is asked for.
use mathlib.Core.Path.{◌≡◌, sym, ap, ◌∙◌}
use mathlib.Core.List.{List, [], ◌∷◌}
use mathlib.Core.Option.{Option, none, some}
use Prim.Native.Nat.{ℕ, suc, ◌-◌, ◌<◌, ◌≤◌}
use native.Mathlib.Omega.{arith}
use lib.Dec.{ltb}
use lib.ListN.{length}
use borrow.Author.Tests.{lt-ltb, le-ltb, ltb-true, ltb-false}
use Rattle.laws.proofs.Tests.{test}
use Rattle.paper.specs.Words as paper
use Rattle.paper.specs.Words.{Refusal, Reading, reading, no_words, with_word}
use Rattle.paper.specs.Names.{nth}
use Rattle.paper.specs.Answer.{offset_of}
use Rattle.text_words.specs.declared.Word.{Word}
use Rattle.text_words.specs.declared.Cursor.{Cursor}
use Rattle.std.specs.Prelude as code
use Rattle.std.specs.Prelude.{None, Some, Ok, Err}
use Rattle.text_words.specs.declared.Refusal as refusals
use Rattle.text_words.specs.Answers.{as_refusal, Step, Started, Stepped, left_of}
use Rattle.text_words.proofs.Readings.{Gives, step_gives, step-ends, step-refuses, start_left}
use Rattle.text_offsets.specs.Offsets.{Offset}

-- What is asked for is so many words behind the cursor.
pub record Counts (text : List ℕ) (i : ℕ) (c : Cursor) (before : ℕ) : Type 0 where
  pub same : offset_of text (left_of text c).words before ≡ offset_of text (reading text).words i

pub counts_start : (text : List ℕ) (i : ℕ) (c : Cursor) → Started c → Counts text i c i
counts_start text i c h = record { same = ap (λ (r : Reading). offset_of text r.words i) (start_left text c h) }

none-there : (text : List ℕ) (i : ℕ) → offset_of text [] i ≡ length text
unfolding offset_of
none-there text i = rw (le-ltb i 0 (omega arith), offset_of)

one-there : (text : List ℕ) (w : paper.Word) (r : List paper.Word) → offset_of text (w ∷ r) 0 ≡ w.place
unfolding offset_of nth
one-there text w r = rw (lt-ltb 0 (suc (length r)) (omega arith), offset_of)

more-there : (text : List ℕ) (w : paper.Word) (r : List paper.Word) (i : ℕ) → offset_of text (w ∷ r) (suc i) ≡ offset_of text r i
unfolding offset_of nth
more-there text w r i =
    test (ltb i (length r)) (λ t. rw (lt-ltb (suc i) (suc (length r)) (less (ltb-true i (length r) t)), t, offset_of))
    (λ t. rw (le-ltb (suc i) (suc (length r)) (no_less (ltb-false i (length r) t)), t, offset_of))
  where
    less : i < length r → suc i < suc (length r)
    less h = omega arith

    no_less : length r ≤ i → suc (length r) ≤ suc i
    no_less h = omega arith

module _ (text : List ℕ) (i : ℕ) (c : Cursor) (before : ℕ) (at : Counts text i c before) (r : Step) (is : Stepped text c r) where
  module _ (o : code.Option (Word × Cursor)) (e : r ≡ Ok o) (w : Word) (d : Cursor) (g : o ≡ Some (w, d)) where
    gives : Gives text c w d
    gives = step_gives text c r is w d (e ∙ ap Ok g)

    left_is : (left_of text c).words ≡ gives.paper-word ∷ (left_of text d).words
    left_is = ap (λ (x : Reading). x.words) gives.given.left ∙ ap (λ (x : Cursor). gives.paper-word ∷ (left_of text x).words) (sym gives.cursor-is)

    pub counts-here : before ≡ 0 → Offset text i w.place
    counts-here h =
        let place : w.place ≡ gives.paper-word.place = ap (λ (x : Word). x.place) gives.word-is in
        place ∙ sym (one-there text gives.paper-word (left_of text d).words) ∙ ap (λ (l : List paper.Word). offset_of text l 0) (sym left_is)
        ∙ ap (λ (k : ℕ). offset_of text (left_of text c).words k) (sym h) ∙ at.same

    pub counts-on : (before ≡ 0 → ⊥) → Counts text i d (before - 1)
    counts-on h =
        let next : before ≡ suc (before - 1) = omega arith in
        record {
          same = sym (more-there text gives.paper-word (left_of text d).words (before - 1))
              ∙ ap (λ (l : List paper.Word). offset_of text l (suc (before - 1))) (sym left_is) ∙ ap (λ (k : ℕ). offset_of text (left_of text c).words k) (sym next) ∙ at.same;
        }

  past : (o : Option Refusal) → left_of text c ≡ no_words o → Offset text i (length text)
  past o gone = sym (none-there text before) ∙ ap (λ (x : Reading). offset_of text x.words before) (sym gone) ∙ at.same

  -- no word comes
  pub counts-end : (o : code.Option (Word × Cursor)) → r ≡ Ok o → o ≡ None → Offset text i (length text)
  counts-end o e g = past none (step-ends text c r is (e ∙ ap Ok g))

  pub counts-refused : (q : refusals.Refusal) → r ≡ Err q → Offset text i (length text)
  counts-refused q e = past (some (as_refusal q)) (step-refuses text c r is q e)
