-- One word more in both stores.
use mathlib.Core.Path.{◌≡◌, refl, sym, ap, ◌∙◌}
use mathlib.Core.Bool.{true, false}
use mathlib.Core.List.{List}
use Prim.Native.Nat.{ℕ, ◌+◌, ◌*◌, ◌<◌, ◌≤◌}
use native.Mathlib.Omega.{arith}
use native.Mathlib.Numerals.{add-one}
use lib.ListN.{length, get_or}
use borrow.Author.Tests.{eq-eqb, ne_eqb}
use Rattle.laws.proofs.Tests.{by-same}
use Rattle.store_cells.specs.Cells.{cells_of, Put}
use Rattle.store_cells.proofs.Kept.{put-length, put_same, put_other}
use Rattle.paper.specs.Words.{Word}
use Rattle.paper.specs.Names.{nth, spelled}
use Rattle.code.specs.Cells.{place_at, link_at, place_in, link_in}
use Rattle.check_names.specs.Meanings.{protected_cell, first_meaning}
use Rattle.check_names.specs.Promises.{store_bytes, number_limit}
use Rattle.store_writing.specs.Promises.{tail_with, Rewritten}
use Rattle.store_writing.proofs.Rewriting.{rewritten-head, rewritten-tail, rewritten-heads, rewritten-tails}
use Rattle.check_spelling.specs.Hash.{buckets, hash_of}
use Rattle.check_load.specs.Layout.{head_of, is_first, first_cell, opens, latest, first_bucket, Written, Tabled}
use Rattle.layout.specs.Parts.{link_part}

-- ---- the code store
module _ (W : List Word) (i : ℕ) (code code' : List ℕ) (head place link : ℕ) (p : Rewritten code code' i head (tail_with place link)) (room : i * 8 + 8 ≤ length code) (small : place < link_part) where
  place_is : place_at (cells_of code') i ≡ place
  place_is = ap place_in (rewritten-tail p room) ∙ low place link small
    where
      low : (place link : ℕ) → place < link_part → place_in (place + link_part * link) ≡ place
      low place link h = omega arith

  link-is : link_at (cells_of code') i ≡ link
  link-is = ap link_in (rewritten-tail p room) ∙ high place link small
    where
      high : (place link : ℕ) → place < link_part → link_in (place + link_part * link) ≡ link
      high place link h = omega arith

  pub written_on : Written W i (cells_of code) → head ≡ head_of W i → place ≡ (nth W i).place → (is_first W i ≡ true → link ≡ latest W (hash_of (spelled W i)) i) → Written W (i + 1) (cells_of code')
  written_on w h q l = record {
    heads = λ j k. by-same j i (λ e. rw e (rewritten-head p room ∙ h)) (λ d. rewritten-heads p room j d ∙ w.heads j (less j k d));
    places = λ j k. by-same j i (λ e. rw e (place_is ∙ q)) (λ d. ap place_in (rewritten-tails p room j d) ∙ w.places j (less j k d));
    links = λ j k f. by-same j i (λ e. rw e (link-is ∙ l (rw e at f))) (λ d. ap link_in (rewritten-tails p room j d) ∙ w.links j (less j k d) f);
  }
    where
      less : (j : ℕ) → j < i + 1 → (j ≡ i → ⊥) → j < i
      less j k d = omega (arith, d)

-- ---- the value store
module _ (W : List Word) (i : ℕ) where
  same-latest : (h : ℕ) → opens W h i ≡ false → latest W h (i + 1) ≡ latest W h i
  unfolding latest
  same-latest h o = rw (add-one i, o)

  new-latest : (h : ℕ) → opens W h i ≡ true → latest W h (i + 1) ≡ i + 1
  unfolding latest
  new-latest h o = rw (add-one i, o) (omega arith)

  -- no first name
  module _ (f : is_first W i ≡ false) where
    opens_not : (h : ℕ) → opens W h i ≡ false
    unfolding opens
    opens_not h = rw f

    no_cell : first_cell W i ≡ 0
    unfolding first_cell
    no_cell = rw f

    pub tabled-same : (X : List ℕ) → i < number_limit → Tabled W i X → Tabled W (i + 1) X
    tabled-same X room t = record {
      before = t.before;
      chains = λ h k. t.chains h k ∙ sym (same-latest h (opens_not h));
      between = t.between;
      table = λ j k. by-same j i (λ e. rw e (t.empty i (omega arith) room ∙ sym no_cell)) (λ d. t.table j (less j k d));
      empty = λ j k l. t.empty j (omega arith) l;
    }
      where
        less : (j : ℕ) → j < i + 1 → (j ≡ i → ⊥) → j < i
        less j k d = omega (arith, d)

  -- a first name begins its chain, and has its cell
  module _ (f : is_first W i ≡ true) where
    opens-own : (h : ℕ) → h ≡ hash_of (spelled W i) → opens W h i ≡ true
    unfolding opens
    opens-own h e = rw f (eq-eqb (hash_of (spelled W i)) h (sym e))

    opens-other : (h : ℕ) → (h ≡ hash_of (spelled W i) → ⊥) → opens W h i ≡ false
    unfolding opens
    opens-other h d = rw f (ne_eqb (hash_of (spelled W i)) h (λ e. d (sym e)))

    own-cell : first_cell W i ≡ protected_cell (spelled W i)
    unfolding first_cell
    own-cell = rw f

    module _ (values v w : List ℕ) (m : ℕ) (p : Put values v (first_bucket + hash_of (spelled W i)) (i + 1)) (q : Put v w (first_meaning + i) m) (room : store_bytes ≤ length values) (few : hash_of (spelled W i) < buckets) (inside : i < number_limit) where
      sized : store_bytes ≤ length v
      sized = rw (put-length p (omega arith)) room

      kept : (k : ℕ) → (k ≡ first_bucket + hash_of (spelled W i) → ⊥) → (k ≡ first_meaning + i → ⊥) → get_or (cells_of w) k 0 ≡ get_or (cells_of values) k 0
      kept k d e = put_other q (omega (arith, sized)) k e ∙ put_other p (omega arith) k d

      pub tabled-new : m ≡ protected_cell (spelled W i) → Tabled W i (cells_of values) → Tabled W (i + 1) (cells_of w)
      tabled-new e t = record {
        before = λ k h. kept k (λ z. omega arith) (λ z. omega arith) ∙ t.before k h;
        chains = λ h k. by-same h (hash_of (spelled W i))
            (λ z. rw z (put_other q (omega (arith, sized)) (first_bucket + hash_of (spelled W i)) (λ y. omega arith) ∙ put_same p (omega arith) ∙ sym (new-latest (hash_of (spelled W i)) (opens-own (hash_of (spelled W i)) refl))))
            (λ d. kept (first_bucket + h) (λ z. d (omega arith)) (λ z. omega arith) ∙ t.chains h k ∙ sym (same-latest h (opens-other h d)));
        between = λ k h l. kept k (λ z. omega arith) (λ z. omega arith) ∙ t.between k h l;
        table = λ j k. by-same j i (λ z. rw z (put_same q (omega (arith, sized)) ∙ e ∙ sym own-cell))
            (λ d. kept (first_meaning + j) (λ z. omega arith) (λ z. d (omega arith)) ∙ t.table j (omega (arith, d)));
        empty = λ j k l. kept (first_meaning + j) (λ z. omega arith) (λ z. omega arith) ∙ t.empty j (omega arith) l;
      }
