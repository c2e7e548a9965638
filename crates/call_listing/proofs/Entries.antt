-- Entries of a listing.
use mathlib.Core.Path.{◌≡◌, refl, sym, ap₂, ◌∙◌}
use mathlib.Core.List.{List, [], ◌∷◌}
use Prim.Native.Nat.{ℕ, ◌+◌, ◌*◌, ◌%◌, ◌<◌, ◌≤◌}
use native.Mathlib.Omega.{arith}
use lib.Dec.{ltb}
use lib.ListN.{length}
use borrow.Author.Tests.{eq-eqb, ne_eqb, lt-ltb, le-ltb, ltb-false, le-leb, lt-leb}
use Rattle.laws.specs.Lists.{replaced}
use Rattle.laws.proofs.Tests.{test}
use Rattle.laws.proofs.Lists.{replaced-length, replaced-on}
use Rattle.store_cells.specs.Cells.{bytes_of, Put}
use Rattle.paper.specs.Sorts.{first_reserved, first_sign, STRING, NUMBER}
use Rattle.paper.specs.Words.{kind_of, Listed}
use Rattle.text_words.specs.declared.Word.{Word}
use Rattle.call_listing.specs.Listing.{three_bytes, three_put, kind_number, listed_of, entered}

-- ---- kinds
module _ (sort : ℕ) where
  pub reserved-kind : first_reserved ≤ sort → 1 ≡ kind_number (kind_of sort)
  unfolding kind_of
  reserved-kind h = rw (le-leb first_reserved sort h, kind_of)

  module _ (h : sort < first_reserved) where
    pub sign-kind : first_sign ≤ sort → 4 ≡ kind_number (kind_of sort)
    unfolding kind_of
    sign-kind g = rw (lt-leb first_reserved sort h, kind_of) (rw (le-leb first_sign sort g))

    module _ (g : sort < first_sign) where
      pub string-kind : sort ≡ STRING → 3 ≡ kind_number (kind_of sort)
      unfolding kind_of
      string-kind e = rw (lt-leb first_reserved sort h, kind_of) (rw (lt-leb first_sign sort g) (rw (eq-eqb sort STRING e)))

      module _ (n : sort ≡ STRING → ⊥) where
        pub number-kind : sort ≡ NUMBER → 2 ≡ kind_number (kind_of sort)
        unfolding kind_of
        number-kind e = rw (lt-leb first_reserved sort h, kind_of) (rw (lt-leb first_sign sort g) (rw (ne_eqb sort STRING n) (rw (eq-eqb sort NUMBER e))))

        pub name-kind : (sort ≡ NUMBER → ⊥) → 0 ≡ kind_number (kind_of sort)
        unfolding kind_of
        name-kind e = rw (lt-leb first_reserved sort h, kind_of) (rw (lt-leb first_sign sort g) (rw (ne_eqb sort STRING n) (rw (ne_eqb sort NUMBER e))))

-- ---- three numbers
-- three words put, one behind the other
pub three-put : (out x y z : List ℕ) (i a b c u v w : ℕ) → i * 4 + 12 ≤ length out → u ≡ a % 4294967296 → v ≡ b % 4294967296 → w ≡ c % 4294967296
    → Put out x i u → Put x y (i + 1) v → Put y z (i + 2) w → z ≡ three_put out (i * 4) a b c
unfolding three_bytes bytes_of
three-put out x y z i a b c u v w h k l m p q r =
    let one : (i + 1) * 4 ≡ i * 4 + 4 = omega arith in
    let two : (i + 2) * 4 ≡ i * 4 + 8 = omega arith in
    r.bytes
    ∙ ap₂ (λ (o : List ℕ) (at : ℕ). replaced o at (bytes_of (w ∷ [])) 4)
    (q.bytes ∙ ap₂ (λ (o : List ℕ) (at : ℕ). replaced o at (bytes_of (v ∷ [])) 4) p.bytes one
    ∙ replaced-on out (bytes_of (u ∷ [])) (i * 4) 4 refl (omega arith) (bytes_of (v ∷ [])) 4) two
    ∙ replaced-on out (bytes_of (u ∷ v ∷ [])) (i * 4) 8 refl (omega arith) (bytes_of (w ∷ [])) 4
    ∙ rw (k, l, m)

-- ---- an entry
module _ (out : List ℕ) (index : ℕ) (w : Listed) where
  pub entered-full : length out < index * 12 + 12 → entered out index w ≡ out
  unfolding entered
  entered-full h = rw (lt-ltb (length out) (index * 12 + 12) h, entered)

  pub entered-room : index * 12 + 12 ≤ length out → entered out index w ≡ three_put out (index * 12) (kind_number w.kind) w.place w.length
  unfolding entered
  entered-room h = rw (le-ltb (length out) (index * 12 + 12) h, entered)

  pub length-entered : length (entered out index w) ≡ length out
  unfolding entered three_bytes bytes_of
  length-entered =
      test (ltb (length out) (index * 12 + 12)) (λ t. rw (t, entered))
      (λ t. let h = ltb-false (length out) (index * 12 + 12) t in
      rw (t, entered) (replaced-length out (three_bytes (kind_number w.kind) w.place w.length) (index * 12) 12 refl h))

module _ (out : List ℕ) (index : ℕ) (w : Word) where
  pub entry-none : length out < index * 3 * 4 + 12 → out ≡ entered out index (listed_of w)
  entry-none h = sym (entered-full out index (listed_of w) (omega arith))

  pub entry-some : (k : ℕ) (out' : List ℕ) → index * 3 * 4 + 12 ≤ length out → k ≡ kind_number (kind_of w.sort) → out' ≡ three_put out (index * 3 * 4) k w.place w.length
      → out' ≡ entered out index (listed_of w)
  entry-some k out' h e g =
      let at : index * 3 * 4 ≡ index * 12 = omega arith in
      g ∙ ap₂ (λ (i n : ℕ). three_put out i n w.place w.length) at e ∙ sym (entered-room out index (listed_of w) (omega arith))
