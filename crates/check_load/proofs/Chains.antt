-- A chain has every first name of its hash, so that a text that is not found in its chain is new. Links fall, so the walk ends.
use mathlib.Core.Path.{◌≡◌, refl, sym, ap, ap₂, ◌∙◌}
use mathlib.Core.Bool.{Bool, true, false}
use mathlib.Core.List.{List, map}
use Prim.Native.Nat.{ℕ, zero, suc, ◌+◌, ◌-◌, ◌*◌, ◌/◌, ◌<◌, ◌≤◌}
use native.Mathlib.Omega.{arith}
use lib.Dec.{eqb}
use lib.ListN.{length, take, drop}
use borrow.Author.Tests.{eqb-true, eq-eqb, lt-ltb, le-ltb}
use Rattle.laws.proofs.Tests.{test, by_last, by_less, by-same, false-true}
use Rattle.store_cells.specs.Cells.{Got}
use Rattle.paper.specs.Sorts.{folded, equal_texts, NAME}
use Rattle.paper.specs.Words.{Word, text_limit}
use Rattle.paper.specs.Names.{Text, nth, sort_in, spelled}
use Rattle.text_words.proofs.Places.{Lies, lies-is}
use Rattle.check_names.specs.Numbers.{first_named, number_of, IsName}
use Rattle.check_names.proofs.Spellings.{name-inside, first_found, same-texts, differing}
use Rattle.check_spelling.specs.Hash.{hash_of}
use Rattle.check_load.specs.Layout.{head_value, is_first, opens, latest, known_as, words_in, Chain, Finds}
use Rattle.check_spelling.proofs.Letters.{same_names}
use Rattle.check_spelling.proofs.Hashing.{hash-folded}
use Rattle.check_load.proofs.Bounds.{text-short, reading-good}
use Rattle.std.specs.Prelude.{None, Some}
use Rattle.code.specs.Cells.{value_in, place_in, link_in}
use Rattle.layout.specs.Parts.{value_part}
use Rattle.check_names.specs.Promises.{number_limit}

-- ---- first names
pub record First (W : List Word) (i : ℕ) : Type 0 where
  pub name : IsName W i
  pub own : number_of W i ≡ i

module _ (W : List Word) (i : ℕ) where
  pub first-true : is_first W i ≡ true → First W i
  unfolding is_first
  first-true h =
      test (eqb (sort_in W i) NAME) (λ t. record { name = eqb-true (sort_in W i) NAME t; own = eqb-true (number_of W i) i (rw t at h) })
      (λ t. false-true (rw t at h))

  pub true-first : First W i → is_first W i ≡ true
  unfolding is_first
  true-first f = rw (eq-eqb (sort_in W i) NAME f.name) (eq-eqb (number_of W i) i f.own)

  module _ (h : ℕ) where
    pub opens-first : opens W h i ≡ true → First W i
    unfolding opens
    opens-first o = test (is_first W i) (λ t. first-true t) (λ t. false-true (rw t at o))

    pub opens-hash : opens W h i ≡ true → hash_of (spelled W i) ≡ h
    unfolding opens
    opens-hash o = test (is_first W i) (λ t. eqb-true (hash_of (spelled W i)) h (rw t at o)) (λ t. false-true (rw t at o))

    pub first-opens : First W i → hash_of (spelled W i) ≡ h → opens W h i ≡ true
    unfolding opens
    first-opens f e = rw (true-first f) (eq-eqb (hash_of (spelled W i)) h e)

-- ---- the latest of a hash
module _ (W : List Word) (h : ℕ) where
  pub latest-most : (m : ℕ) → latest W h m ≤ m
  unfolding latest
  latest-most zero = omega arith
  latest-most (suc m) = let k = latest-most m in test (opens W h m) (λ t. rw t (omega arith)) (λ t. rw t (omega arith))

  pub latest-above : (m i : ℕ) → i < m → opens W h i ≡ true → i < latest W h m
  unfolding latest
  latest-above zero i l o = absurd (omega arith)
  latest-above (suc m) i l o =
      test (opens W h m) (λ t. rw t (omega arith))
      (λ t. rw t (by_last i m l (λ e. false-true (sym t ∙ ap (opens W h) (sym e) ∙ o)) (λ k. latest-above m i k o)))

  pub latest-opens : (m : ℕ) → (latest W h m ≡ 0 → ⊥) → opens W h (latest W h m - 1) ≡ true
  unfolding latest
  latest-opens zero d = absurd (d refl)
  latest-opens (suc m) d =
      let less : suc m - 1 ≡ m = omega arith in
      test (opens W h m) (λ t. rw (t, less) t) (λ t. rw t (latest-opens m (rw t at d)))

  pub latest-itself : (m : ℕ) → latest W h (latest W h m) ≡ latest W h m
  unfolding latest
  latest-itself zero = refl
  latest-itself (suc m) = test (opens W h m) (λ t. rw t (rw t)) (λ t. rw t (latest-itself m))

-- ---- the search
module _ (W : List Word) (m : ℕ) (text : Text) where
  pub known-first : (j : ℕ) → (j ≡ 0 → ⊥) → j ≤ m → First W (j - 1) → spelled W (j - 1) ≡ text → j ≡ known_as W m text
  unfolding known_as
  known-first j d h f e =
      let at : first_named W text ≡ j - 1 = ap (first_named W) (sym e) ∙ f.own in
      sym (rw at (rw (lt-ltb (j - 1) m (omega (arith, d))) (omega (arith, d))))

  pub known_some : (known_as W m text ≡ 0 → ⊥) → (known_as W m text - 1 ≡ first_named W text) × (first_named W text < m)
  unfolding known_as
  known_some d =
      by_less (first_named W text) m (λ l. let t = lt-ltb (first_named W text) m l in (rw t (omega arith), l))
      (λ l. absurd (d (rw (le-ltb (first_named W text) m l))))

  pub known-zero : known_as W m text ≡ 0 → m ≤ first_named W text
  unfolding known_as
  known-zero e = by_less (first_named W text) m (λ l. absurd (omega (arith, rw (lt-ltb (first_named W text) m l) at e))) (λ l. l)

  pub known-none : m ≤ length W → ((i : ℕ) → i < m → First W i → spelled W i ≡ text → ⊥) → 0 ≡ known_as W m text
  unfolding known_as
  known-none h none =
      by_less (first_named W text) m
      (λ l. let n = first_found W text (omega arith) in
      absurd (none (first_named W text) l (record { name = n.name; own = ap (first_named W) n.spells }) n.spells))
      (λ l. sym (rw (le-ltb (first_named W text) m l)))

  -- what is known of a text before m words is known before the latest of its hash among them
  pub known-latest : m ≤ length W → known_as W (latest W (hash_of text) m) text ≡ known_as W m text
  unfolding known_as
  known-latest h =
      by_less (first_named W text) m
      (λ l. let n = first_found W text (omega arith) in
      let o = first-opens W (first_named W text) (hash_of text) (record { name = n.name; own = ap (first_named W) n.spells }) (ap hash_of n.spells) in
      rw (lt-ltb (first_named W text) m l, lt-ltb (first_named W text) (latest W (hash_of text) m) (latest-above W (hash_of text) m (first_named W text) l o)))
      (λ l. rw (le-ltb (first_named W text) m l, le-ltb (first_named W text) (latest W (hash_of text) m) (omega (arith, latest-most W (hash_of text) m))))

-- the walk has come to j: every name that could be meant lies before it
pub record Seeks (text : List ℕ) (name : List ℕ) (first j : ℕ) : Type 0 where
  pub from : ℕ
  pub at : j ≡ latest (words_in text) (hash_of name) from
  pub most : j ≤ first
  pub past : (i : ℕ) → i < first → First (words_in text) i → spelled (words_in text) i ≡ map folded name → i < j

module _ (text code name : List ℕ) (first : ℕ) (chain : Chain text code name first) where
  pub seeks-start : Seeks text name first first
  seeks-start = record { from = first; at = chain.begins; most = omega arith; past = λ i h f e. h }

  module _ (j : ℕ) (s : Seeks text name first j) (d : j ≡ 0 → ⊥) where
    word-opens : opens (words_in text) (hash_of name) (j - 1) ≡ true
    word-opens = rw s.at (latest-opens (words_in text) (hash_of name) s.from (rw s.at at d))

    word_first : First (words_in text) (j - 1)
    word_first = opens-first (words_in text) (j - 1) (hash_of name) word-opens

    word-inside : j - 1 < length (words_in text)
    word-inside = name-inside (words_in text) (j - 1) word_first.name

  first-inside : first ≤ length (words_in text)
  first-inside = by-same first 0 (λ e. omega arith) (λ d. omega (arith, word-inside first seeks-start d, d))

  module _ (j : ℕ) (s : Seeks text name first j) where
    pub seeks-none : j ≡ 0 → Finds text name first None
    seeks-none e = record {
      is = known-none (words_in text) first (map folded name) first-inside (λ i l f g. omega (arith, s.past i l f g));
      most = omega arith;
      small = chain.most;
    }

    module _ (d : j ≡ 0 → ⊥) (tail head : ℕ) (t : Got code ((j - 1) * 2 + 1) tail) (h : Got code ((j - 1) * 2) head) where
      lies : Lies 0 text (nth (words_in text) (j - 1)).place (nth (words_in text) (j - 1)).covers
      lies = (reading-good text (j - 1) (word-inside j s d)).lies

      place_is : place_in tail ≡ (nth (words_in text) (j - 1)).place
      place_is = ap place_in t ∙ chain.written.places (j - 1) (omega (arith, s.most, d))

      length-is : value_in head / number_limit ≡ length (nth (words_in text) (j - 1)).covers
      unfolding head_value
      length-is =
          let f = word_first j s d in
          let n = eq-eqb (sort_in (words_in text) (j - 1)) NAME f.name in
          ap (λ (x : ℕ). value_in x / number_limit) (h ∙ chain.written.heads (j - 1) (omega (arith, s.most, d)))
          ∙ rw n (value (sort_in (words_in text) (j - 1)) (number_of (words_in text) (j - 1)) (length (nth (words_in text) (j - 1)).covers) (omega (arith, f.name)) (omega (arith, f.own, s.most, chain.most, d)))
        where
          value : (sort number n : ℕ) → sort < value_part → number < number_limit → value_in (sort + value_part * (number + number_limit * n)) / number_limit ≡ n
          value sort number n a b =
              let e : value_in (sort + value_part * (number + number_limit * n)) ≡ number + number_limit * n = omega arith in
              rw e (omega arith)

      pub part-inside : (place_in tail + value_in head / number_limit ≤ length text) × (length text ≤ text_limit)
      part-inside = (omega (arith, place_is, length-is, lies.inside), text-short text (j - 1) (word-inside j s d))

      part-is : take (place_in tail + value_in head / number_limit - place_in tail) (drop (place_in tail) text) ≡ (nth (words_in text) (j - 1)).covers
      part-is =
          let n : place_in tail + value_in head / number_limit - place_in tail ≡ length (nth (words_in text) (j - 1)).covers = omega (arith, length-is) in
          ap₂ (λ (k p : ℕ). take k (drop p text)) n place_is ∙ sym (lies-is text _ _ lies)

      link-is : link_in tail ≡ latest (words_in text) (hash_of name) (j - 1)
      link-is =
          ap link_in t
          ∙ chain.written.links (j - 1) (omega (arith, s.most, d)) (true-first (words_in text) (j - 1) (word_first j s d))
          ∙ ap (λ (x : ℕ). latest (words_in text) x (j - 1)) (opens-hash (words_in text) (j - 1) (hash_of name) (word-opens j s d))

      pub seeks-less : link_in tail < j
      seeks-less = omega (arith, link-is, latest-most (words_in text) (hash_of name) (j - 1), d)

      module _ (b : Bool) (e : b ≡ same_names (take (place_in tail + value_in head / number_limit - place_in tail) (drop (place_in tail) text)) name) where
        spelled_is : b ≡ equal_texts (spelled (words_in text) (j - 1)) (map folded name)
        unfolding spelled
        spelled_is = e ∙ ap (λ (l : List ℕ). same_names l name) part-is

        pub seeks-found : b ≡ true → Finds text name first (Some (j - 1))
        seeks-found y =
            let link : j - 1 + 1 ≡ j = omega (arith, d) in
            record {
              is = link ∙ known-first (words_in text) first (map folded name) j d s.most (word_first j s d) (same-texts _ _ (sym spelled_is ∙ y));
              most = omega (arith, link, s.most);
              small = chain.most;
            }

        pub seeks-on : b ≡ false → Seeks text name first (link_in tail)
        seeks-on n = record {
          from = j - 1;
          at = link-is;
          most = omega (arith, seeks-less, s.most);
          past = λ i l f g.
              let before : i < j = s.past i l f g in
              let other : i ≡ j - 1 → ⊥ = λ z. differing _ _ (sym spelled_is ∙ n) (ap (spelled (words_in text)) (sym z) ∙ g) in
              let h : hash_of (spelled (words_in text) i) ≡ hash_of name = ap hash_of g ∙ hash-folded name in
              rw link-is (latest-above (words_in text) (hash_of name) (j - 1) i (omega (arith, other, before)) (first-opens (words_in text) i (hash_of name) f h));
        }
