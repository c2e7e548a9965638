-- A listing, word by word.
use mathlib.Core.Path.{◌≡◌, refl, sym, ap, subst, ◌∙◌}
use mathlib.Core.List.{List, [], map}
use mathlib.Core.Option.{none, some}
use Prim.Native.Nat.{ℕ, ◌+◌}
use native.Mathlib.Omega.{arith}
use lib.ListN.{length}
use Rattle.paper.specs.Words as paper
use Rattle.paper.specs.Words.{Listed, Reading, reading, no_words, listed, listing}
use Rattle.text_words.specs.declared.Word.{Word}
use Rattle.text_words.specs.declared.Cursor.{Cursor}
use Rattle.std.specs.Prelude as code
use Rattle.std.specs.Prelude.{None, Some, Ok, Err}
use Rattle.text_words.specs.declared.Refusal as refusals
use Rattle.text_words.specs.Answers.{as_refusal, Step, after, Started, Stepped, left_of}
use Rattle.text_words.proofs.Readings.{Given, Gives, step_gives, step-ends, step-refuses, start_left}
use Rattle.call_listing.specs.Listing.{listed_of, entered, written, refused_as, Listed·all}
use Rattle.call_listing.proofs.Entries.{length-entered}

abbrev left_list : List ℕ → Cursor → List Listed
left_list text c = map listed (left_of text c).words

-- What is left of a listing at a cursor.
pub record Lists (text before out : List ℕ) (c : Cursor) : Type 0 where
  pub entries : written before 0 (listing text).0 ≡ written out c.words (left_list text c)
  pub count : length (listing text).0 ≡ c.words + length (left_list text c)
  pub refused : (listing text).1 ≡ (left_of text c).refusal
  pub size : length out ≡ length before

pub lists-start : (text out : List ℕ) (c : Cursor) → Started c → Lists text out out c
unfolding listing
lists-start text out c h =
    let left : left_of text c ≡ reading text = start_left text c h in
    let none_yet : c.words ≡ 0 = ap (λ (x : Cursor). x.words) h in
    record { entries = rw (left, none_yet); count = rw (left, none_yet) (omega arith); refused = rw left; size = refl }

module _ (text before out : List ℕ) (c : Cursor) (at : Lists text before out c) where
  word_on : (out' : List ℕ) (v : paper.Word) → Given text c v → out' ≡ entered out c.words (listed v) → Lists text before out' (after c.words v)
  unfolding written
  word_on out' v g e = record {
    entries = at.entries ∙ rw (g.left, e);
    count = at.count ∙ rw g.left (omega arith);
    refused = at.refused ∙ rw g.left;
    size = ap length e ∙ length-entered out c.words (listed v) ∙ at.size;
  }

  done : (o : Reading) → left_of text c ≡ o → o.words ≡ [] → (q : code.Option refusals.Refusal) → refused_as q ≡ o.refusal → Listed·all text before out (record { words = c.words; refusal = q })
  unfolding written
  done o left gone q e =
      let empty : (left_of text c).words ≡ [] = ap (λ (x : Reading). x.words) left ∙ gone in
      record {
        entries = sym (at.entries ∙ rw empty);
        count = sym (at.count ∙ rw empty (omega arith));
        refusal = e ∙ sym (at.refused ∙ ap (λ (x : Reading). x.refusal) left);
      }

  module _ (r : Step) (is : Stepped text c r) where
    module _ (o : code.Option (Word × Cursor)) (e : r ≡ Ok o) where
      pub lists-word : (out' : List ℕ) (w : Word) (d : Cursor) → o ≡ Some (w, d) → out' ≡ entered out c.words (listed_of w) → Lists text before out' d
      unfolding listed
      lists-word out' w d k f =
          let g : Gives text c w d = step_gives text c r is w d (e ∙ ap Ok k) in
          subst (Lists text before out') (sym g.cursor-is) (word_on out' g.paper-word g.given (f ∙ ap (λ (x : Word). entered out c.words (listed_of x)) g.word-is))

      pub lists-end : o ≡ None → Listed·all text before out (record { words = c.words; refusal = None })
      lists-end k = done (no_words none) (step-ends text c r is (e ∙ ap Ok k)) refl None refl

    pub lists-refused : (q : refusals.Refusal) → r ≡ Err q → Listed·all text before out (record { words = c.words; refusal = Some q })
    lists-refused q e = done (no_words (some (as_refusal q))) (step-refuses text c r is q e) refl (Some q) refl
