-- The promise settles the answer, the value store whole, and of the code store all but the words' links: a word's head and place, and every byte behind the words.
use mathlib.Core.Path.{◌≡◌, sym, ap, ap₂, subst, ◌∙◌}
use mathlib.Core.List.{List, ◌++◌}
use Prim.Native.Nat.{ℕ, ◌+◌, ◌-◌, ◌*◌, ◌<◌, ◌≤◌}
use native.Mathlib.Omega.{arith}
use lib.ListN.{length, get_or, take, drop, take-append-drop}
use lib.Seq.{ext_get_or, get_or-take, length-take-le}
use Rattle.laws.proofs.Tests.{by_less}
use Rattle.store_cells.specs.Cells.{cells_of, bytes_of}
use Rattle.store_cells.proofs.Laws.{Bytes, length-words}
use Rattle.code.specs.Cells.{head_at, place_at}
use Rattle.check_names.specs.Meanings.{first_meaning}
use Rattle.text_words.proofs.Unique.{told-one}
use Rattle.check_load.specs.Layout.{words_in}
use Rattle.check_load.specs.Loads.{Ready, Loaded, Loads}
use Rattle.check_spelling.proofs.Fronts.{front_bytes}
use Rattle.check_names.specs.Promises.{number_limit}
use Rattle.paper.specs.Answer.{store_words}

-- two stores of the same words in front, and the same bytes behind
pub same_store : (n : ℕ) (v w : List ℕ) → Bytes v → Bytes w → length v ≡ length w → n * 4 ≤ length v → ((k : ℕ) → k < n → get_or (cells_of v) k 0 ≡ get_or (cells_of w) k 0) → drop (n * 4) v ≡ drop (n * 4) w → v ≡ w
same_store n v w b d e h same rest =
    let sizes : length (take n (cells_of v)) ≡ n = length-take-le n (cells_of v) (omega (arith, length-words v)) in
    let others : length (take n (cells_of w)) ≡ n = length-take-le n (cells_of w) (omega (arith, length-words w)) in
    let words : take n (cells_of v) ≡ take n (cells_of w) =
    ext_get_or 0 _ _ (sizes ∙ sym others) (λ k l. get_or-take n (cells_of v) k 0 (omega (arith, sizes)) ∙ same k (omega (arith, sizes)) ∙ sym (get_or-take n (cells_of w) k 0 (omega (arith, sizes)))) in
    let front : take (n * 4) v ≡ take (n * 4) w = front_bytes n v b h ∙ ap bytes_of words ∙ sym (front_bytes n w d (omega arith)) in
    sym (take-append-drop (n * 4) v) ∙ ap₂ ◌++◌ front rest ∙ take-append-drop (n * 4) w

module _ (text code values : List ℕ) (r s : Loaded) (c d v w : List ℕ) (h : Loads text code values r c v) (g : Loads text code values s d w) where
  pub load-unique-answer : r ≡ s
  load-unique-answer = told-one r s (h.answer ∙ sym g.answer)

  pub load-unique-words : (i : ℕ) → i < length (words_in text) → (head_at (cells_of c) i ≡ head_at (cells_of d) i) × (place_at (cells_of c) i ≡ place_at (cells_of d) i)
  load-unique-words i l = (h.heads i l ∙ sym (g.heads i l), h.places i l ∙ sym (g.places i l))

  pub load-unique-rest : (drop (length (words_in text) * 8) c ≡ drop (length (words_in text) * 8) d) × (length c ≡ length d)
  load-unique-rest = (h.keeping.rest ∙ sym g.keeping.rest, h.keeping.code-size ∙ sym g.keeping.code-size)

  cells : (k : ℕ) → k < store_words → get_or (cells_of v) k 0 ≡ get_or (cells_of w) k 0
  cells k l =
      by_less k first_meaning (λ m. h.zeros k m ∙ sym (g.zeros k m))
      (λ m. let at : first_meaning + (k - first_meaning) ≡ k = omega arith in
      let i : k - first_meaning < number_limit = omega arith in
      subst (λ (x : ℕ). get_or (cells_of v) x 0 ≡ get_or (cells_of w) x 0) at (h.table (k - first_meaning) i ∙ sym (g.table (k - first_meaning) i)))

  pub load-unique-values : Ready code values → Bytes v → Bytes w → v ≡ w
  load-unique-values ready b e =
      same_store store_words v w b e (h.keeping.values-size ∙ sym g.keeping.values-size) (omega (arith, h.keeping.values-size, ready.values-room)) cells
      (h.keeping.beyond ∙ sym g.keeping.beyond)
