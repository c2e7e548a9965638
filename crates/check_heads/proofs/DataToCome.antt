-- The names of module data, one after another.
use Rattle.paper.specs.Words.{word_limit}
use mathlib.Core.Path.{◌≡◌, refl, sym, ap, subst, ◌∙◌}
use mathlib.Core.Bool.{Bool, true, false, not, ◌||◌}
use mathlib.Core.List.{List, [], ◌∷◌, map}
use Prim.Native.Nat.{ℕ, ◌+◌, ◌*◌, ◌<◌, ◌≤◌}
use native.Mathlib.Omega.{arith}
use lib.Dec.{eqb}
use lib.ListN.{length, get_or}
use Rattle.laws.proofs.Tests.{test, by-same, by_less, false-true}
use Rattle.paper.specs.Sorts.{equal_texts}
use Rattle.paper.specs.Trees.{Declared}
use Rattle.paper.specs.Expressions.{starts_data}
use Rattle.paper.specs.Names.{Meaning, unknown, Text, Names, text_of, look_in, protected, sort_in, spelled, is_among}
use Rattle.paper.specs.Declarations.{data_texts}
use Rattle.store_cells.specs.Cells.{cells_of, Put}
use Rattle.store_cells.proofs.Kept.{put_same, put_other}
use Rattle.code.specs.Cells.{op_at}
use Rattle.check_names.specs.Numbers.{number_of, IsName}
use Rattle.check_names.specs.Meanings.{is_protected, cell_of, protected_cell, protects_cell, first_meaning, cell_for}
use Rattle.check_names.specs.Promises.{store_bytes, number_at, meaning_at, number_limit}
use Rattle.check_names.proofs.Spellings.{same-texts, texts-same, texts-differ, numbers-same, spellings-same, number-most, name-inside}
use Rattle.check_names.proofs.Shields.{protected-guards}
use Rattle.grammar.specs.Form.{Parses, DeclaredAt, DeclarationsAt}
use Rattle.grammar.proofs.Inversions.{NextOf, repeated-next, repeated-none}
use Rattle.grammar.proofs.Places.{content-grows, declarations-grow}
use Rattle.check_heads.specs.Stores.{Kept}
use Rattle.check_heads.specs.Trees.{data_cell}
use Rattle.check_heads.specs.Parts.{store_cells, is_one_of, Has, Next, Announces, DataStand, DataKnown, Data}
use Rattle.check_heads.proofs.WordsInside.{no_semicolon, content-words, expression-grows}
use Rattle.check_heads.proofs.Frames.{kept_same, kept_on, put-kept}
use Rattle.check_heads.proofs.Leaves.{next-is}

-- ---- the cell of a text
pub protected-some : (u : Text) → is_protected u ≡ true → protected_cell u ≡ 0 → ⊥
protected-some u h z = false-true (sym (ap protects_cell z) ∙ protected-guards (λ n. n) u ∙ h)

pub cell-protected : (D : List Text) (u : Text) → is_protected u ≡ true → data_cell D u ≡ protected_cell u
unfolding data_cell
cell-protected D u h = rw h

pub cell-coming : (D : List Text) (u : Text) → is_protected u ≡ false → is_among D u ≡ true → data_cell D u ≡ 1
unfolding data_cell
cell-coming D u h g = rw h (rw g)

pub cell-none : (D : List Text) (u : Text) → is_protected u ≡ false → is_among D u ≡ false → data_cell D u ≡ 0
unfolding data_cell
cell-none D u h g = rw h (rw g)

-- a cell is 0 exactly where its text can be declared
pub free-protected : (D : List Text) (u : Text) → data_cell D u ≡ 0 → is_protected u ≡ false
free-protected D u z = test (is_protected u) (λ t. absurd (protected-some u t (sym (cell-protected D u t) ∙ z))) (λ t. t)

pub free-among : (D : List Text) (u : Text) → data_cell D u ≡ 0 → is_among D u ≡ false
free-among D u z = test (is_among D u) (λ t. absurd (omega (arith, sym (cell-coming D u (free-protected D u z) t) ∙ z))) (λ t. t)

module _ (D : List Text) (text : Text) where
  among-further : (u : Text) → equal_texts text u ≡ false → is_among (text ∷ D) u ≡ is_among D u
  unfolding is_among
  among-further u t = rw (t, is_among)

  pub cell-further : (u : Text) → equal_texts text u ≡ false → data_cell (text ∷ D) u ≡ data_cell D u
  unfolding data_cell
  cell-further u t = rw (among-further u t)

  cell-new : is_protected text ≡ false → data_cell (text ∷ D) text ≡ 1
  unfolding is_among
  cell-new h = cell-coming (text ∷ D) text h (rw (texts-same text text refl, is_among))

  -- declared twice, or protected
  cell-taken : (data_cell D text ≡ 0 → ⊥) → (u : Text) → data_cell (text ∷ D) u ≡ data_cell D u
  unfolding is_among
  cell-taken d u =
      test (equal_texts text u)
      (λ t. test (is_protected u) (λ p. cell-protected (text ∷ D) u p ∙ sym (cell-protected D u p))
      (λ p. cell-coming (text ∷ D) u p (rw (t, is_among)) ∙ sym (cell-coming D u p (was t p))))
      (λ t. cell-further u t)
    where
      was : equal_texts text u ≡ true → is_protected u ≡ false → is_among D u ≡ true
      was t p = test (is_among D u) (λ q. q) (λ q. absurd (d (ap (data_cell D) (same-texts text u t) ∙ cell-none D u p q)))

-- it depends on what is among them, alone
all_same : (D F : List Text) (u : Text) → is_among D u ≡ is_among F u → data_cell D u ≡ data_cell F u
unfolding data_cell
all_same D F u q = rw q

or_nothing : (x : Bool) → (x || false) ≡ x
or_nothing true = refl
or_nothing false = refl

-- what is not protected has no cell
pub not_found : (N : Names) (u : Text) (m : Meaning) → is_among (map text_of N) u ≡ false → look_in N u m ≡ m
unfolding look_in is_among
not_found [] u m h = refl
not_found (n ∷ N) u m h = test (equal_texts n.0 u) (λ t. false-true (sym (rw (t, is_among) at h))) (λ t. rw (t, look_in) (not_found N u m (rw (t, is_among) at h)))

unprotected : (u : Text) → is_protected u ≡ false → protected_cell u ≡ 0
unfolding protected_cell cell_of
unprotected u h = ap cell_of (not_found protected u unknown h)

nothing_known : (u : Text) → data_cell [] u ≡ protected_cell u
unfolding is_among
nothing_known u = test (is_protected u) (λ t. cell-protected [] u t) (λ t. cell-none [] u t nothing ∙ sym (unprotected u t))
  where
    nothing : is_among [] u ≡ false
    nothing = refl

-- one more is done
over : (R D : List Text) (t u : Text) → (is_among (t ∷ R) u || is_among D u) ≡ (is_among R u || is_among (t ∷ D) u)
unfolding is_among
over R D t u = test (equal_texts t u) (λ q. rw (q, is_among) (sym (or-true (is_among R u)))) (λ q. rw (q, is_among))
  where
    or-true : (x : Bool) → (x || true) ≡ true
    or-true true = refl
    or-true false = refl

-- ---- what is left
pub record DataLeft {code values₀ : List ℕ} {at : ℕ} (g : DataStand code values₀ at) (values : List ℕ) (i : ℕ) : Type 0 where
  pub rest : List Declared
  pub form : DeclarationsAt (sort_in g.W) (Parses (sort_in g.W)) rest i g.to
  pub done : List Text
  pub whole : (u : Text) → is_among (data_texts g.W g.ds) u ≡ (is_among (data_texts g.W rest) u || is_among done u)
  pub cells : (j : ℕ) → IsName g.W j → cell_for g.W (cells_of values) j ≡ data_cell done (spelled g.W j)
  pub kept : Kept values₀ values first_meaning store_cells

pub record DataPlain (code values₀ values : List ℕ) (i : ℕ) : Type 0 where
  pub room : i * 8 + 8 ≤ length code
  pub last : i < word_limit
  pub values-room : store_bytes ≤ length values
  pub values-long : length values ≡ length values₀

pub record DataGo (code values₀ : List ℕ) (at : ℕ) (values : List ℕ) (i : ℕ) : Type 0 where
  pub plain : DataPlain code values₀ values i
  pub left : (g : DataStand code values₀ at) → DataLeft g values i

module _ {code values₀ : List ℕ} {at : ℕ} (g : DataStand code values₀ at) (values : List ℕ) (i : ℕ) (l : DataLeft g values i) where
  here : i < length g.W
  here = omega (arith, g.inside, declarations-grow (sort_in g.W) (Parses (sort_in g.W)) (expression-grows (sort_in g.W)) l.form)

  pub data-plain : DataPlain code values₀ values i
  data-plain = record {
    room = omega (arith, here, g.lain.room, g.lain.most);
    last = omega (arith, here, g.lain.most);
    values-room = omega (arith, l.kept.long, g.room);
    values-long = l.kept.long;
  }

  -- ---- the next declaration
  module _ (s : ℕ) (e : s ≡ op_at (cells_of code) i) (b : Bool) (f : b ≡ starts_data s) where
    sort-is : s ≡ sort_in g.W i
    sort-is = e ∙ g.lain.sorts i here

    pub data-end : b ≡ false → DataKnown g.W g.ds g.to values₀ values i
    unfolding is_among data_texts
    data-end t =
        let w = repeated-none (sort_in g.W) (DeclaredAt (sort_in g.W) (Parses (sort_in g.W))) l.form (ap starts_data (sym sort-is) ∙ sym f ∙ t) in
        record {
          next = sym w.1;
          cells = λ j n. l.cells j n ∙ sym (all (spelled g.W j) (l.whole (spelled g.W j) ∙ ap (λ (r : List Declared). is_among (data_texts g.W r) (spelled g.W j) || is_among l.done (spelled g.W j)) w.0));
          kept = l.kept;
        }
      where
        all : (u : Text) → is_among (data_texts g.W g.ds) u ≡ is_among l.done u → data_cell (data_texts g.W g.ds) u ≡ data_cell l.done u
        all u q = all_same (data_texts g.W g.ds) l.done u q

    module _ (t : b ≡ true) where
      next_one : NextOf (sort_in g.W) (DeclaredAt (sort_in g.W) (Parses (sort_in g.W))) starts_data l.rest i g.to
      next_one = repeated-next (sort_in g.W) (DeclaredAt (sort_in g.W) (Parses (sort_in g.W))) l.form (ap starts_data (sym sort-is) ∙ sym f ∙ t)

      end : ℕ
      end = next_one.one.end

      is_name : IsName g.W (i + 2)
      is_name = next_one.one.name

      behind : i + 3 ≤ next_one.one.end
      behind = content-grows (sort_in g.W) (Parses (sort_in g.W)) (expression-grows (sort_in g.W)) next_one.one.content

      end-inside : next_one.one.end < length g.W
      end-inside = omega (arith, g.inside, next_one.one.after, declarations-grow (sort_in g.W) (Parses (sort_in g.W)) (expression-grows (sort_in g.W)) next_one.more)

      end_is : is_one_of 4 4 (op_at (cells_of code) next_one.one.end) ≡ true
      unfolding is_one_of
      end_is = rw (g.lain.sorts next_one.one.end end-inside ∙ next_one.one.ends)

      pub data-name : (i + 2) * 8 + 8 ≤ length code
      data-name = omega (arith, end-inside, behind, g.lain.room, g.lain.most)

      pub data-has : Has code (i + 2) 4 4
      data-has = record { n = next_one.one.end; from = omega (arith, behind); room = omega (arith, end-inside, g.lain.room, g.lain.most); is = end_is }

      none_before : (k : ℕ) → i + 2 ≤ k → k < next_one.one.end → is_one_of 4 4 (op_at (cells_of code) k) ≡ false
      unfolding is_one_of no_semicolon
      none_before k a u =
          by_less k (i + 3)
          (λ z. let y : k ≡ i + 2 = omega arith in rw (g.lain.sorts k (omega (arith, end-inside)) ∙ ap (sort_in g.W) y ∙ is_name))
          (λ z. let q : not (eqb (sort_in g.W k) 4) ≡ true = (content-words (sort_in g.W) next_one.one.content).each k z u in
          rw (g.lain.sorts k (omega (arith, end-inside))) (twice (eqb (sort_in g.W k) 4) q))
        where
          twice : (x : Bool) → not x ≡ true → (x || x) ≡ false
          twice true h = false-true h
          twice false h = refl

      module _ (values' : List ℕ) (k : Announces code values (i + 2) values') where
        text : Text
        text = spelled g.W (i + 2)

        number_is : number_at (cells_of code) (i + 2) ≡ number_of g.W (i + 2)
        number_is = g.lain.numbers (i + 2) is_name

        cell-is : meaning_at (cells_of code) (cells_of values) (i + 2) ≡ data_cell l.done text
        unfolding text
        cell-is = ap (λ (n : ℕ). get_or (cells_of values) (first_meaning + n) 0) number_is ∙ l.cells (i + 2) is_name

        number-low : number_of g.W (i + 2) < number_limit
        number-low = omega (arith, number-most g.W (i + 2) is_name, name-inside g.W (i + 2) is_name, g.lain.most)

        cell_room : (first_meaning + number_of g.W (i + 2)) * 4 + 4 ≤ length values
        cell_room = omega (arith, number-low, l.kept.long, g.room)

        record Told : Type 0 where
          pub cells : (j : ℕ) → IsName g.W j → cell_for g.W (cells_of values') j ≡ data_cell (text ∷ l.done) (spelled g.W j)
          pub kept : Kept values₀ values' first_meaning store_cells

        told : Told
        unfolding text
        told =
            by-same (meaning_at (cells_of code) (cells_of values) (i + 2)) 0
            (λ z. let p : Put values values' (first_meaning + number_of g.W (i + 2)) 1 = subst (λ (n : ℕ). Put values values' (first_meaning + n) 1) number_is (k.free z) in record {
              cells = λ j n. by-same (number_of g.W j) (number_of g.W (i + 2))
                  (λ y. ap (λ (x : ℕ). get_or (cells_of values') (first_meaning + x) 0) y ∙ put_same p cell_room
                  ∙ sym (ap (data_cell (text ∷ l.done)) (numbers-same g.W j (i + 2) n is_name y) ∙ cell-new l.done text (free-protected l.done text (sym cell-is ∙ z))))
                  (λ d. put_other p cell_room (first_meaning + number_of g.W j) (λ y. d (omega arith)) ∙ l.cells j n
                  ∙ sym (cell-further l.done text (spelled g.W j) (texts-differ text (spelled g.W j) (λ y. d (spellings-same g.W j (i + 2) (sym y))))));
              kept = kept_on l.kept (put-kept first_meaning store_cells p cell_room (omega arith) (omega (arith, number-low)));
            })
            (λ d. record {
              cells = λ j n. ap (λ (v : List ℕ). cell_for g.W (cells_of v) j) (k.taken d) ∙ l.cells j n ∙ sym (cell-taken l.done text (λ z. d (cell-is ∙ z)) (spelled g.W j));
              kept = subst (λ (v : List ℕ). Kept values₀ v first_meaning store_cells) (sym (k.taken d)) l.kept;
            })

        pub data-on : (r : ℕ) → Next code (i + 2) 4 4 r → DataLeft g values' (r + 1)
        unfolding text is_among data_texts
        data-on r x =
            let y : next_one.n ≡ r + 1 = next_one.one.after ∙ ap (λ (z : ℕ). z + 1) (sym (next-is code (i + 2) 4 4 r next_one.one.end x (omega (arith, behind)) end_is none_before)) in
            record {
              rest = next_one.rest;
              form = subst (λ (z : ℕ). DeclarationsAt (sort_in g.W) (Parses (sort_in g.W)) next_one.rest z g.to) y next_one.more;
              done = text ∷ l.done;
              whole = λ u. l.whole u
                  ∙ ap (λ (q : List Declared). is_among (data_texts g.W q) u || is_among l.done u) next_one.is
                  ∙ ap (λ (q : ℕ). is_among (spelled g.W q ∷ data_texts g.W next_one.rest) u || is_among l.done u) next_one.one.named
                  ∙ over (data_texts g.W next_one.rest) l.done (spelled g.W (i + 2)) u;
              cells = told.cells;
              kept = told.kept;
            }

-- ---- the loop
pub data-start : (code values : List ℕ) (at : ℕ) → DataStand code values at → DataGo code values at values at
unfolding is_among
data-start code values at g = record { plain = data-plain g values at (starts g); left = starts }
  where
    starts : (g : DataStand code values at) → DataLeft g values at
    starts g = record {
      rest = g.ds;
      form = g.form;
      done = [];
      whole = λ u. sym (or_nothing (is_among (data_texts g.W g.ds) u));
      cells = λ j n. g.cells j n ∙ sym (nothing_known (spelled g.W j));
      kept = kept_same values first_meaning store_cells;
    }

module _ (code values₀ : List ℕ) (at : ℕ) (g : DataStand code values₀ at) (values : List ℕ) (i : ℕ) (l : DataGo code values₀ at values i) (s : ℕ) (e : s ≡ op_at (cells_of code) i) (b : Bool) (f : b ≡ starts_data s) where
  pub data-done : b ≡ false → Data code values₀ at values i
  data-done t = record { is = λ g. data-end g values i (l.left g) s e b f t }

  module _ (t : b ≡ true) where
    pub data-announce : ((i + 2) * 8 + 8 ≤ length code) × (store_bytes ≤ length values)
    data-announce = (data-name g values i (l.left g) s e b f t, l.plain.values-room)

    pub data-ends : Has code (i + 2) 4 4
    data-ends = data-has g values i (l.left g) s e b f t

    pub data-again : (values' : List ℕ) → Announces code values (i + 2) values' → (r : ℕ) → Next code (i + 2) 4 4 r → DataGo code values₀ at values' (r + 1)
    data-again values' k r x = record {
      plain = data-plain g values' (r + 1) (data-on g values i (l.left g) s e b f t values' k r x);
      left = λ g. data-on g values i (l.left g) s e b f t values' k r x;
    }
