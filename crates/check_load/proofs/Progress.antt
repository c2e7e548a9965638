-- The loading of a text, word by word.
use mathlib.Core.Path.{◌≡◌, refl, sym, ap, subst, ◌∙◌}
use mathlib.Core.List.{List, ◌∷◌}
use mathlib.Core.Option.{Option, none, some}
use Prim.Native.Nat.{ℕ, ◌+◌, ◌-◌, ◌*◌, ◌<◌, ◌≤◌}
use native.Mathlib.Omega.{arith}
use lib.ListN.{length, get_or, drop, get_or-eq_default}
use lib.Seq.{drop-drop, get_or-drop}
use Rattle.laws.proofs.Tests.{by_less}
use Rattle.store_cells.specs.Cells.{cells_of, Cleared}
use Rattle.store_cells.proofs.Kept.{clear-length, clear-drop, clear_in, clear-below, clear_above}
use Rattle.paper.specs.Words as paper
use Rattle.paper.specs.Words.{Refusal, Reading, reading, no_words}
use Rattle.paper.specs.Names.{no_word, nth, sort_in}
use Rattle.text_words.specs.declared.Word.{Word}
use Rattle.text_words.specs.declared.Cursor.{Cursor}
use Rattle.std.specs.Prelude.{None, Some, Ok, Err}
use Rattle.text_words.specs.declared.Refusal as refusals
use Rattle.text_words.specs.Answers.{as_refusal, told, Step, word_of, after, Started, Stepped, left_of}
use Rattle.text_words.proofs.Readings.{Gives, step_gives, step-ends, step-refuses, start_left}
use Rattle.check_names.specs.Meanings.{first_meaning}
use Rattle.check_names.specs.Promises.{store_bytes}
use Rattle.check_load.specs.Layout.{is_first, first_cell, latest, first_bucket, words_in, Loading, Keeping, Goes, Comes, past_buckets}
use Rattle.check_load.specs.Loads.{Ready, Loaded, answer_of, Filled, Loads}
use Rattle.check_load.proofs.Bounds.{text-short, reading-good}
use Rattle.check_spelling.specs.Hash.{buckets}

pub record Progress (text code₀ values₀ code values : List ℕ) (c : Cursor) : Type 0 where
  pub loading : Loading text c.words code values
  pub keeping : Keeping c.words code₀ values₀ code values
  pub left : drop c.words (words_in text) ≡ (left_of text c).words
  pub count : length (words_in text) ≡ c.words + length (left_of text c).words
  pub refused : (reading text).refusal ≡ (left_of text c).refusal

pub progress_start : (text code values : List ℕ) (c : Cursor) → Ready code values → Started c → Progress text code values code values c
unfolding latest
progress_start text code values c r h =
    let left : left_of text c ≡ reading text = start_left text c h in
    let none_yet : c.words ≡ 0 = ap (λ (x : Cursor). x.words) h in
    record {
      loading = rw none_yet (record {
        written = record { heads = λ i l. absurd (omega arith); places = λ i l. absurd (omega arith); links = λ i l f. absurd (omega arith) };
        tabled = record {
          before = λ k l. r.clean k (omega arith);
          chains = λ k l. r.clean (first_bucket + k) (omega arith);
          between = λ k g l. r.clean k (omega arith);
          table = λ i l. absurd (omega arith);
          empty = λ i g l. r.clean (first_meaning + i) (omega arith);
        };
        code-room = r.code-room;
        values-room = r.values-room;
      });
      keeping = record { rest = refl; beyond = refl; code-size = refl; values-size = refl };
      left = rw (left, none_yet);
      count = rw (left, none_yet) (omega arith);
      refused = rw left;
    }

-- behind the words there is no name
no-sort : (W : List paper.Word) (i : ℕ) → length W ≤ i → sort_in W i ≡ 0
unfolding sort_in nth no_word
no-sort W i h = ap (λ (w : paper.Word). w.sort) (get_or-eq_default W no_word h)

no_cell : (W : List paper.Word) (i : ℕ) → length W ≤ i → first_cell W i ≡ 0
unfolding is_first first_cell
no_cell W i h = rw (no-sort W i h)

keeping-on : (n : ℕ) (c₀ v₀ c v c' v' : List ℕ) → Keeping n c₀ v₀ c v → Keeping (n + 1) c v c' v' → Keeping (n + 1) c₀ v₀ c' v'
keeping-on n c₀ v₀ c v c' v' k l =
    let next : n * 8 + 8 ≡ (n + 1) * 8 = omega arith in
    let same : drop ((n + 1) * 8) c ≡ drop ((n + 1) * 8) c₀ = rw (sym next, sym (drop-drop 8 (n * 8) c), sym (drop-drop 8 (n * 8) c₀), k.rest) in
    record {
      rest = l.rest ∙ same;
      beyond = l.beyond ∙ k.beyond;
      code-size = l.code-size ∙ k.code-size;
      values-size = l.values-size ∙ k.values-size;
    }

module _ (text code₀ values₀ code values : List ℕ) (c : Cursor) (at : Progress text code₀ values₀ code values c) (r : Step) (is : Stepped text c r) where
  module _ (w : Word) (d : Cursor) (e : r ≡ Ok (Some (w, d))) where
    gives : Gives text c w d
    gives = step_gives text c r is w d e

    left_is : drop c.words (words_in text) ≡ gives.paper-word ∷ (left_of text (after c.words gives.paper-word)).words
    left_is = at.left ∙ ap (λ (x : Reading). x.words) gives.given.left

    word-is : nth (words_in text) c.words ≡ gives.paper-word
    unfolding nth
    word-is =
        let same : c.words + 0 ≡ c.words = omega arith in
        ap (λ (k : ℕ). get_or (words_in text) k no_word) (sym same) ∙ sym (get_or-drop c.words (words_in text) 0 no_word) ∙ ap (λ (l : List paper.Word). get_or l 0 no_word) left_is

    inside : c.words < length (words_in text)
    inside = omega (arith, at.count, ap length (sym at.left ∙ left_is))

    pub word-comes : Comes text c.words w
    word-comes =
        let same : w ≡ word_of (nth (words_in text) c.words) = gives.word-is ∙ ap word_of (sym word-is) in
        let good = reading-good text c.words inside in
        record {
          is = same;
          room = gives.given.room;
          sorts = rw same (omega (arith, good.sizes.sorts));
          values = rw same good.sizes.values;
          some_bytes = rw same good.lies.some_bytes;
          inside = rw same (omega (arith, good.lies.inside));
          short = text-short text c.words inside;
          names = λ n. rw same (good.sizes.names (rw same at n));
        }

    pub progress-on : (code' values' : List ℕ) → Goes text c.words code values code' values' → Progress text code₀ values₀ code' values' d
    progress-on code' values' g = rw gives.cursor-is (record {
      loading = g.loading;
      keeping = keeping-on c.words code₀ values₀ code values code' values' at.keeping g.keeping;
      left = sym (drop-drop 1 c.words (words_in text)) ∙ ap (drop 1) left_is;
      count = omega (arith, at.count, ap length (sym at.left ∙ left_is));
      refused = at.refused ∙ ap (λ (x : Reading). x.refusal) gives.given.left;
    })

  -- no word comes
  done : (o : Option Refusal) → left_of text c ≡ no_words o → (s : Loaded) → told s ≡ answer_of c.words o → Filled text code₀ values₀ s code values
  done o gone s e =
      let all : length (words_in text) ≡ c.words = at.count ∙ rw gone (omega arith) in
      record { answer = rw (all, at.refused, gone) e; loading = rw all at.loading; keeping = rw all at.keeping }

  pub filled-end : r ≡ Ok None → Filled text code₀ values₀ (Ok c.words) code values
  filled-end e = done none (step-ends text c r is e) (Ok c.words) refl

  pub filled-refused : (q : refusals.Refusal) → r ≡ Err q → Filled text code₀ values₀ (Err q) code values
  filled-refused q e = done (some (as_refusal q)) (step-refuses text c r is q e) (Err q) refl

-- the chains are cleared, and nothing else
pub loads-cleared : (text code₀ values₀ : List ℕ) (r : Loaded) (code values values' : List ℕ) → Filled text code₀ values₀ r code values → Cleared values values' first_bucket buckets
    → Loads text code₀ values₀ r code values'
loads-cleared text code₀ values₀ r code values values' at p =
    let n = length (words_in text) in
    let room : (first_bucket + buckets) * 4 ≤ length values = omega (arith, at.loading.values-room) in
    let t = at.loading.tabled in
    record {
      answer = at.answer;
      heads = at.loading.written.heads;
      places = at.loading.written.places;
      zeros = λ k h. by_less k first_bucket (λ l. clear-below p room k l ∙ t.before k l)
          (λ l. by_less k past_buckets (λ m. let same : first_bucket + (k - first_bucket) ≡ k = omega arith in subst (λ (x : ℕ). get_or (cells_of values') x 0 ≡ 0) same (clear_in p room (k - first_bucket) (omega arith)))
          (λ m. clear_above p room k m ∙ t.between k m h));
      table = λ i h. clear_above p room (first_meaning + i) (omega arith)
          ∙ by_less i n (λ l. t.table i l) (λ l. t.empty i l h ∙ sym (no_cell (words_in text) i l));
      keeping = record {
        rest = at.keeping.rest;
        beyond = clear-drop p room store_bytes (omega arith) ∙ at.keeping.beyond;
        code-size = at.keeping.code-size;
        values-size = clear-length p room ∙ at.keeping.values-size;
      };
    }
