-- The letters that a text begins with, as they are passed: their first, and the number of those behind it.
use mathlib.Core.Path.{◌≡◌, refl, sym, ◌∙◌}
use mathlib.Core.Bool.{Bool, true, false, ◌||◌}
use mathlib.Core.List.{List, [], ◌∷◌, ◌++◌, map, map-append}
use Prim.Native.Nat.{ℕ, zero, suc, ◌+◌, ◌*◌, ◌-◌, ◌%◌, ◌<◌, ◌≤◌}
use native.Mathlib.Omega.{arith}
use native.Mathlib.Nat.{mod-eq_of_lt}
use native.Mathlib.Numerals.{add-one}
use lib.Dec.{eqb}
use lib.ListN.{length, get_or, take, length-map}
use lib.Seq.{take-suc, length-take-le}
use Rattle.laws.proofs.Tests.{test}
use Rattle.paper.specs.Sorts.{bytes, folded, reserved, equal_texts, number_in, name_sort, NAME}
use Rattle.paper.specs.Words.{UNDERSCORE, between, letter, digit, leading, in_name}
use Rattle.text_reserved.specs.Runs.{Counted}
use Rattle.text_reserved.specs.Promise.{Named}
use Rattle.text_reserved.specs.Keys.{room, packed, behind, look, of, table, candidates, chosen, Folds, Begins, Packs}
use Rattle.text_reserved.proofs.Ranges.{range}
use Rattle.text_reserved.proofs.Folds.{fold-capital, fold-other}
use Rattle.text_reserved.proofs.Runs.{Run, run-start, run_more, run-stop, run_out, none-behind, goes_by, goes-on, goes-off}
use Rattle.text_reserved.proofs.Texts.{capitals, no-reserved}
use Rattle.text_reserved.proofs.Rows.{recognized-by}

-- ---- a number that grows
packed_more : (l : List ℕ) (b k : ℕ) → packed (l ++ b ∷ []) k ≡ packed l k * 32 + (b - 65)
unfolding packed
packed_more [] b k = refl
packed_more (a ∷ l) b k = packed_more l b (k * 32 + (a - 65))

behind_more : (l : List ℕ) (b : ℕ) → 0 < length l → behind (l ++ b ∷ []) ≡ behind l * 32 + (b - 65)
unfolding behind
behind_more [] b h = absurd (omega arith)
behind_more (a ∷ l) b h = packed_more l b 0

unfoldable pub bound : ℕ → ℕ
bound zero = 1
bound (suc i) = 32 * bound i

bound-least : (i : ℕ) → 1 ≤ bound i
unfolding bound
bound-least zero = omega arith
bound-least (suc i) = omega (arith, bound-least i)

bound-rises : (i j : ℕ) → i ≤ j → bound i ≤ bound j
unfolding bound
bound-rises zero j h = bound-least j
bound-rises (suc i) zero h = absurd (omega arith)
bound-rises (suc i) (suc j) h = omega (arith, bound-rises i j (omega arith))

letters-capital : (l : List ℕ) → capitals (map folded (take (leading letter l) l)) ≡ true
unfolding capitals leading
letters-capital [] = refl
letters-capital (b ∷ r) =
    test (letter b) (λ t. rw (t, leading) (rw (fold-capital b t, capitals) (letters-capital r))) (λ t. rw (t, leading))

first_of : (l : List ℕ) (n : ℕ) → 0 < n → 0 < length l → get_or (map folded (take n l)) 0 0 ≡ folded (get_or l 0 0)
first_of [] n h g = absurd (omega arith)
first_of (b ∷ r) zero h g = absurd (omega arith)
first_of (b ∷ r) (suc n) h g = refl

-- Some letters of a text, of which n are passed; their number, as long as a reserved word may have as many.
pub record Passed (text : List ℕ) (n first rest : ℕ) : Type 0 where
  pub run : Run letter text n
  pub some : 0 < n
  pub begins : first ≡ folded (get_or text 0 0)
  pub keyed : n ≤ 9 → rest ≡ behind (map folded (take n text))
  pub fits : n ≤ 9 → rest < bound n

one-behind : (l : List ℕ) → behind (map folded (take 1 l)) ≡ 0
unfolding behind packed
one-behind [] = refl
one-behind (b ∷ r) = refl

module _ (text : List ℕ) where
  -- no letters
  module _ (letters first rest : ℕ) (more : Bool) (z : letters ≡ 0) where
    no-letters : Counted letter text 0 → more ≡ in_name (get_or text 0 0) → Packs text letters first rest more
    unfolding name_sort number_in equal_texts reserved bytes folded candidates look table of chosen
    no-letters c e = rw z (record { count = c; goes = e; sort = refl })

    pub none-there : more ≡ false → length text ≡ 0 → Packs text letters first rest more
    none-there e h = no-letters (run_out letter text 0 (run-start letter text) (omega arith)) (e ∙ none-behind text 0 (omega arith))

    pub other-there : (f : ℕ) (t goes : Bool) → (length text ≡ 0 → ⊥) → Folds (get_or text 0 0) f → t ≡ between 65 90 f → t ≡ false → goes ≡ digit (get_or text 0 0) || eqb (get_or text 0 0) UNDERSCORE → more ≡ goes → Packs text letters first rest more
    other-there f t goes h folds is g e m =
        let no = is ∙ folds.capital in
        no-letters (run-stop letter text 0 (run-start letter text) t (omega (arith, h)) no g) (m ∙ goes_by (get_or text 0 0) t goes no g e)

  -- the first
  pub begins-by : (f : ℕ) (t : Bool) → (length text ≡ 0 → ⊥) → Folds (get_or text 0 0) f → t ≡ between 65 90 f → t ≡ true → Begins text f
  begins-by f t h folds is g =
      let letter-there = sym (is ∙ folds.capital) ∙ g in
      record { some = omega (arith, h); is = letter-there; folds = folds.same letter-there }

  module _ (first : ℕ) where
    pub passed_start : Begins text first → Passed text 1 first 0
    unfolding bound
    passed_start b = record {
      run = run_more letter text 0 (run-start letter text) true b.some (sym b.is) refl;
      some = omega arith;
      begins = b.folds;
      keyed = λ h. sym (one-behind text);
      fits = λ h. omega arith;
    }

    module _ (n rest : ℕ) (at : Passed text n first rest) where
      packs : Counted letter text n → (more : Bool) → more ≡ in_name (get_or text n 0) → Packs text n first rest more
      packs c more e = record {
        count = c;
        goes = e;
        sort =
            recognized-by (map folded (take n text)) n first rest (rw c.exact (letters-capital text)) (rw length-map (sym (length-take-le n text c.within)))
            (at.begins ∙ sym (first_of text n at.some (omega (arith, at.some, c.within)))) at.keyed;
      }

      pub passed-out : length text ≤ n → Packs text n first rest false
      passed-out h = packs (run_out letter text n at.run h) false (none-behind text n h)

      module _ (f : ℕ) (t : Bool) (h : n < length text) (folds : Folds (get_or text n 0) f) (is : t ≡ between 65 90 f) where
        pub passed-more : (k : ℕ) → t ≡ true → k ≡ rest % room * 32 + (f - 65) → Passed text (n + 1) first k
        unfolding bound
        passed-more k g e = record {
          run = run_more letter text n at.run t h (is ∙ folds.capital) g;
          some = omega arith;
          begins = at.begins;
          keyed = λ l. grown l;
          fits = λ l. rw add-one (omega (arith, uncut l, at.fits (omega arith), small));
        }
          where
            small : f ≤ 90
            small = (range 65 90 f (sym is ∙ g)).1

            uncut : n + 1 ≤ 9 → rest % room ≡ rest
            uncut l = mod-eq_of_lt (omega (arith, at.fits (omega arith), bound-rises n 8 (omega arith)))

            capital : f ≡ folded (get_or text n 0)
            capital = folds.same (sym (is ∙ folds.capital) ∙ g)

            grown : n + 1 ≤ 9 → k ≡ behind (map folded (take (n + 1) text))
            grown l =
                rw (add-one, take-suc text n 0 h, map-append)
                (rw (behind_more (map folded (take n text)) (folded (get_or text n 0)) (rw (length-map, length-take-le n text (omega arith)) at.some))
                (rw (← at.keyed (omega arith), ← capital) (omega (arith, uncut l))))

        pub passed-stop : (more : Bool) → t ≡ false → more ≡ digit (get_or text n 0) || eqb (get_or text n 0) UNDERSCORE → Packs text n first rest more
        passed-stop more g e =
            packs (run-stop letter text n at.run t h (is ∙ folds.capital) g) more (goes_by (get_or text n 0) t more (is ∙ folds.capital) g e)

-- ---- a name by its letters
rest-other : (l : List ℕ) (n : ℕ) → leading letter l < n → n ≤ length l → capitals (map folded (take n l)) ≡ false
unfolding capitals leading
rest-other [] n h g = absurd (omega arith)
rest-other (b ∷ r) zero h g = absurd (omega arith)
rest-other (b ∷ r) (suc n) h g =
    test (letter b)
    (λ t. rw (fold-capital b t, capitals) (rest-other r n (let k = rw (t, leading) at h in omega arith) (omega arith)))
    (λ t. rw (fold-other b t, capitals))

module _ (text : List ℕ) (letters first rest : ℕ) (more : Bool) (packs : Packs text letters first rest more) where
  pub rest-name : (n : ℕ) → more ≡ true → Counted in_name text n → Named text (record { length = n; sort = NAME })
  rest-name n t is = record {
    count = is.exact;
    kind = no-reserved _ (rest-other text n (omega (arith, packs.count.exact, is.exact, goes-on text letters packs.count (sym packs.goes ∙ t))) is.within);
  }

  pub letters-name : (s : ℕ) → more ≡ false → s ≡ chosen (candidates letters first) rest → Named text (record { length = letters; sort = s })
  letters-name s t e = record { count = goes-off text letters packs.count (sym packs.goes ∙ t); kind = e ∙ sym packs.sort }
