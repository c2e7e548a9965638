-- The word that comes, a name or another, goes into both stores.
use mathlib.Core.Path.{◌≡◌, refl, sym, ap, ap₂, subst, ◌∙◌}
use mathlib.Core.Bool.{true, false}
use mathlib.Core.List.{List, map}
use Prim.Native.Nat.{ℕ, ◌+◌, ◌-◌, ◌*◌, ◌<◌, ◌≤◌}
use native.Mathlib.Omega.{arith}
use lib.ListN.{length, take, drop}
use borrow.Author.Tests.{eq-eqb, ne_eqb}
use Rattle.laws.proofs.Tests.{false-true}
use Rattle.store_cells.specs.Cells.{cells_of, Got, Put}
use Rattle.store_cells.proofs.Kept.{put-length, put-drop}
use Rattle.paper.specs.Sorts.{folded, NAME, STRING}
use Rattle.paper.specs.Words.{Word}
use Rattle.paper.specs.Names.{nth, sort_in, spelled}
use Rattle.text_words.specs.declared.Word as declared
use Rattle.text_words.proofs.Places.{lies-is}
use Rattle.check_names.specs.Numbers.{number_of, IsName}
use Rattle.check_names.specs.Meanings.{protected_cell, first_meaning}
use Rattle.check_names.specs.Promises.{store_bytes, number_limit}
use Rattle.store_writing.specs.Promises.{tail_with, Rewritten}
use Rattle.check_names.proofs.Spellings.{name-inside, number-most}
use Rattle.store_writing.proofs.Rewriting.{rewritten-length, rewritten-drop}
use Rattle.check_spelling.specs.Hash.{hash_of, buckets}
use Rattle.std.specs.Prelude.{Option, None, Some}
use Rattle.check_load.specs.Layout.{head_value, head_of, is_first, latest, known_as, first_bucket, Written, words_in, Loading, Keeping, Goes, Comes, value_of, NameComes, Chain, Finds, link_of}
use Rattle.check_spelling.proofs.Hashing.{hash-folded}
use Rattle.check_load.proofs.Bounds.{reading-good}
use Rattle.check_load.proofs.Chains.{latest-most, latest-itself, known_some, known-zero, known-latest}
use Rattle.check_load.proofs.WordStored.{written_on, tabled-same, tabled-new}
use Rattle.layout.specs.Parts.{value_part}

-- fewer words are loaded too
written-fewer : (W : List Word) (m n : ℕ) (C : List ℕ) → m ≤ n → Written W n C → Written W m C
written-fewer W m n C h w = record {
  heads = λ i l. w.heads i (omega arith);
  places = λ i l. w.places i (omega arith);
  links = λ i l f. w.links i (omega arith) f;
}

code-kept : (i : ℕ) (code values code' : List ℕ) (head tail : ℕ) → Rewritten code code' i head tail → i * 8 + 8 ≤ length code → Keeping (i + 1) code values code' values
code-kept i code values code' head tail p room = record {
  rest = rewritten-drop p room ((i + 1) * 8) (omega arith);
  beyond = refl;
  code-size = rewritten-length p room;
  values-size = refl;
}

-- ---- no name
pub value-string : (w : declared.Word) → w.sort ≡ STRING → w.length ≡ value_of w
value-string w e = rw (eq-eqb w.sort STRING e)

pub value-other : (w : declared.Word) → (w.sort ≡ STRING → ⊥) → w.value ≡ value_of w
value-other w d = rw (ne_eqb w.sort STRING d)

module _ (text code values : List ℕ) (i : ℕ) (at : Loading text i code values) (w : declared.Word) (come : Comes text i w) where
  sort-is : w.sort ≡ sort_in (words_in text) i
  unfolding sort_in
  sort-is = ap (λ (x : declared.Word). x.sort) come.is

  other-head : (w.sort ≡ NAME → ⊥) → w.sort + value_part * value_of w ≡ head_of (words_in text) i
  unfolding head_value sort_in
  other-head d =
      ap (λ (x : declared.Word). x.sort + value_part * value_of x) come.is
      ∙ ap (λ (v : ℕ). sort_in (words_in text) i + value_part * v) (sym (rw (ne_eqb (sort_in (words_in text) i) NAME (λ e. d (sort-is ∙ e)))))

  not_first : (w.sort ≡ NAME → ⊥) → is_first (words_in text) i ≡ false
  unfolding is_first
  not_first d = rw (ne_eqb (sort_in (words_in text) i) NAME (λ e. d (sort-is ∙ e)))

  pub goes_other : (w.sort ≡ NAME → ⊥) → (v : ℕ) (code' : List ℕ) → v ≡ value_of w → Rewritten code code' i (w.sort + value_part * v) (tail_with w.place 0) → Goes text i code values code' values
  goes_other d v code' e p =
      let room : i * 8 + 8 ≤ length code = omega (arith, at.code-room, come.room) in
      let none = not_first d in
      record {
        loading = record {
          written = written_on (words_in text) i code code' (w.sort + value_part * v) w.place 0 p room (omega (arith, come.inside, come.short)) at.written
              (ap (λ (x : ℕ). w.sort + value_part * x) e ∙ other-head d) (ap (λ (x : declared.Word). x.place) come.is) (λ f. false-true (sym none ∙ f));
          tabled = tabled-same (words_in text) i none (cells_of values) come.room at.tabled;
          code-room = rw (rewritten-length p room) at.code-room;
          values-room = at.values-room;
        };
        keeping = code-kept i code values code' (w.sort + value_part * v) (tail_with w.place 0) p room;
      }

  -- ---- a name is told by its sort
  pub name-comes : w.sort ≡ NAME → NameComes text i w.place w.length
  name-comes e =
      let name : IsName (words_in text) i = sym sort-is ∙ e in
      let place_is : w.place ≡ (nth (words_in text) i).place = ap (λ (x : declared.Word). x.place) come.is in
      let length-is : w.length ≡ length (nth (words_in text) i).covers = ap (λ (x : declared.Word). x.length) come.is in
      record {
        name = name;
        place_is = place_is;
        length-is = length-is;
        covers = ap₂ (λ (n p : ℕ). take n (drop p text)) length-is place_is ∙ sym (lies-is text _ _ (reading-good text i (name-inside (words_in text) i name)).lies);
        room = come.room;
        some_bytes = come.some_bytes;
        most = come.names e;
        inside = come.inside;
        short = come.short;
      }

-- ---- a name
-- the part of the text that it is
abbrev part : List ℕ → (place len : ℕ) → List ℕ
part text place len = take (place + len - place) (drop place text)

module _ (text code values : List ℕ) (i place len : ℕ) (at : Loading text i code values) (come : NameComes text i place len) where
  part-is : part text place len ≡ (nth (words_in text) i).covers
  part-is = let n : place + len - place ≡ len = omega arith in ap (λ (k : ℕ). take k (drop place text)) n ∙ come.covers

  spells : map folded (part text place len) ≡ spelled (words_in text) i
  unfolding spelled
  spells = ap (map folded) part-is

  hashes : hash_of (part text place len) ≡ hash_of (spelled (words_in text) i)
  hashes = sym (hash-folded (part text place len)) ∙ ap hash_of spells

  inside : i < length (words_in text)
  inside = name-inside (words_in text) i come.name

  room : i * 8 + 8 ≤ length code
  room = omega (arith, at.code-room, come.room)

  name-head : (n : ℕ) → n ≡ number_of (words_in text) i → NAME + value_part * (n + number_limit * len) ≡ head_of (words_in text) i
  unfolding head_value
  name-head n e = rw (eq-eqb (sort_in (words_in text) i) NAME come.name) (omega (arith, e, come.name, come.length-is))

  module _ (h first : ℕ) (eh : h ≡ hash_of (part text place len)) (few : h < buckets) (got : Got values (first_bucket + h) first) where
    first-is : first ≡ latest (words_in text) h i
    first-is = got ∙ at.tabled.chains h few

    first-most : first ≤ i
    first-most = omega (arith, first-is, latest-most (words_in text) h i)

    pub name-chain : Chain text code (part text place len) first
    name-chain = record {
      written = written-fewer (words_in text) first i (cells_of code) first-most at.written;
      begins = first-is ∙ sym (latest-itself (words_in text) h i) ∙ ap₂ (latest (words_in text)) eh (sym first-is);
      most = omega (arith, first-most, come.room);
      room = at.code-room;
    }

    module _ (found : Option ℕ) (f : Finds text (part text place len) first found) where
      found-is : link_of found ≡ known_as (words_in text) i (spelled (words_in text) i)
      found-is =
          f.is ∙ ap₂ (known_as (words_in text)) (first-is ∙ ap (λ (x : ℕ). latest (words_in text) x i) (eh ∙ hashes)) spells
          ∙ known-latest (words_in text) i (spelled (words_in text) i) (omega (arith, inside))

      pub goes-found : (n : ℕ) → found ≡ Some n → (code' : List ℕ) → Rewritten code code' i (NAME + value_part * (n + number_limit * len)) (tail_with place 0) → Goes text i code values code' values
      unfolding is_first
      goes-found n e code' p =
          let link : n + 1 ≡ known_as (words_in text) i (spelled (words_in text) i) = sym (ap link_of e) ∙ found-is in
          let k = known_some (words_in text) i (spelled (words_in text) i) (λ z. omega (arith, link)) in
          let number : n ≡ number_of (words_in text) i = omega (arith, link, k.0) in
          let other : number_of (words_in text) i ≡ i → ⊥ = λ z. omega (arith, k.1) in
          let none : is_first (words_in text) i ≡ false = rw (eq-eqb (sort_in (words_in text) i) NAME come.name) (ne_eqb (number_of (words_in text) i) i other) in
          record {
            loading = record {
              written = written_on (words_in text) i code code' _ place 0 p room (omega (arith, come.inside, come.short)) at.written
                  (name-head n number) come.place_is (λ t. false-true (sym none ∙ t));
              tabled = tabled-same (words_in text) i none (cells_of values) come.room at.tabled;
              code-room = rw (rewritten-length p room) at.code-room;
              values-room = at.values-room;
            };
            keeping = code-kept i code values code' _ _ p room;
          }

      module _ (z : found ≡ None) (m : ℕ) (em : m ≡ protected_cell (map folded (part text place len))) where
        own-number : number_of (words_in text) i ≡ i
        own-number = omega (arith, known-zero (words_in text) i (spelled (words_in text) i) (sym found-is ∙ ap link_of z), number-most (words_in text) i come.name)

        is-first : is_first (words_in text) i ≡ true
        unfolding is_first
        is-first = rw (eq-eqb (sort_in (words_in text) i) NAME come.name) (eq-eqb (number_of (words_in text) i) i own-number)

        pub goes-new : (code' v v' : List ℕ) → Rewritten code code' i (NAME + value_part * (i + number_limit * len)) (tail_with place first) → Put values v (first_bucket + h) (i + 1) → Put v v' (first_meaning + i) m
            → Goes text i code values code' v'
        goes-new code' v v' p q r =
            let hash-is : h ≡ hash_of (spelled (words_in text) i) = eh ∙ hashes in
            let sized : length v ≡ length values = put-length q (omega (arith, at.values-room)) in
            let fits : (first_meaning + i) * 4 + 4 ≤ length v = omega (arith, at.values-room, sized, come.room) in
            record {
              loading = record {
                written = written_on (words_in text) i code code' _ place first p room (omega (arith, come.inside, come.short)) at.written
                    (name-head i (sym own-number)) come.place_is (λ t. first-is ∙ ap (λ (x : ℕ). latest (words_in text) x i) hash-is);
                tabled = tabled-new (words_in text) i is-first values v v' m (subst (λ (x : ℕ). Put values v (first_bucket + x) (i + 1)) hash-is q) r at.values-room
                    (omega (arith, hash-is, few)) come.room (em ∙ ap protected_cell spells) at.tabled;
                code-room = rw (rewritten-length p room) at.code-room;
                values-room = rw (put-length r fits, sized) at.values-room;
              };
              keeping = record {
                rest = rewritten-drop p room ((i + 1) * 8) (omega arith);
                beyond = put-drop r fits store_bytes (omega (arith, come.room)) ∙ put-drop q (omega (arith, at.values-room)) store_bytes (omega arith);
                code-size = rewritten-length p room;
                values-size = put-length r fits ∙ sized;
              };
            }
