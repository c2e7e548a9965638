-- What a change of some words leaves as it was.
use mathlib.Core.Path.{◌≡◌, refl, sym, ap, subst, ◌∙◌}
use mathlib.Core.List.{List}
use mathlib.Core.Option.{some}
use Prim.Native.Nat.{ℕ, ◌+◌, ◌-◌, ◌*◌, ◌<◌, ◌≤◌}
use native.Mathlib.Omega.{arith}
use lib.ListN.{length, take, drop, get_or}
use lib.Seq.{take-take, drop-drop, get_or-take, get_or-drop}
use Rattle.laws.proofs.Tests.{by-same, by_less}
use Rattle.paper.specs.Terms.{Term}
use Rattle.store_cells.specs.Cells.{cells_of}
use Rattle.store_cells.proofs.Laws.{words_take, words-drop}
use Rattle.code.specs.Cells.{place_in, link_in, head_at, place_at}
use Rattle.code.specs.Spans.{term_within, term_in}
use Rattle.code.proofs.Composing.{Rewritten, frame}
use Rattle.store_writing.specs.Promises.{Kept, Linked}

-- ---- cells outside
module _ {before after : List ℕ} {from to : ℕ} (k : Kept before after from to) where
  pub cell_below : (i : ℕ) → i < from * 2 → get_or (cells_of after) i 0 ≡ get_or (cells_of before) i 0
  cell_below i h =
      let q : from * 8 ≡ from * 2 * 4 = omega arith in
      let t : take (from * 2) (cells_of after) ≡ take (from * 2) (cells_of before) =
      sym (words_take (from * 2) after) ∙ ap cells_of (subst (λ (n : ℕ). take n after ≡ take n before) q k.below) ∙ words_take (from * 2) before in
      sym (get_or-take (from * 2) (cells_of after) i 0 h) ∙ ap (λ (l : List ℕ). get_or l i 0) t ∙ get_or-take (from * 2) (cells_of before) i 0 h

  pub cell-above : (i : ℕ) → to * 2 ≤ i → get_or (cells_of after) i 0 ≡ get_or (cells_of before) i 0
  cell-above i h =
      let q : to * 8 ≡ to * 2 * 4 = omega arith in
      let t : drop (to * 2) (cells_of after) ≡ drop (to * 2) (cells_of before) =
      sym (words-drop (to * 2) after) ∙ ap cells_of (subst (λ (n : ℕ). drop n after ≡ drop n before) q k.above) ∙ words-drop (to * 2) before in
      let s : to * 2 + (i - to * 2) ≡ i = omega arith in
      sym (ap (λ (n : ℕ). get_or (cells_of after) n 0) s) ∙ sym (get_or-drop (to * 2) (cells_of after) (i - to * 2) 0)
      ∙ ap (λ (l : List ℕ). get_or l (i - to * 2) 0) t
      ∙ get_or-drop (to * 2) (cells_of before) (i - to * 2) 0 ∙ ap (λ (n : ℕ). get_or (cells_of before) n 0) s

  pub head-below : (i : ℕ) → i < from → head_at (cells_of after) i ≡ head_at (cells_of before) i
  head-below i h = cell_below (i * 2) (omega arith)

  pub head-above : (i : ℕ) → to ≤ i → head_at (cells_of after) i ≡ head_at (cells_of before) i
  head-above i h = cell-above (i * 2) (omega arith)

  pub place-below : (i : ℕ) → i < from → place_at (cells_of after) i ≡ place_at (cells_of before) i
  place-below i h = ap place_in (cell_below (i * 2 + 1) (omega arith))

  pub place-above : (i : ℕ) → to ≤ i → place_at (cells_of after) i ≡ place_at (cells_of before) i
  place-above i h = ap place_in (cell-above (i * 2 + 1) (omega arith))

  pub within-below : (d m n a b : ℕ) (t : Term) → b ≤ from → term_within m n (cells_of before) d a b ≡ some t → term_within m n (cells_of after) d a b ≡ some t
  within-below d m n a b t h e = frame d m n (cells_of before) (cells_of after) a b t (λ i l u. sym (cell_below i (omega arith))) e

  pub within-above : (d m n a b : ℕ) (t : Term) → to ≤ a → term_within m n (cells_of before) d a b ≡ some t → term_within m n (cells_of after) d a b ≡ some t
  within-above d m n a b t h e = frame d m n (cells_of before) (cells_of after) a b t (λ i l u. sym (cell-above i (omega arith))) e

  pub term-below : (m n a b : ℕ) (t : Term) → b ≤ from → term_in m n (cells_of before) a b ≡ some t → term_in m n (cells_of after) a b ≡ some t
  term-below m n a b t h e = within-below _ m n a b t h e

  pub term-above : (m n a b : ℕ) (t : Term) → to ≤ a → term_in m n (cells_of before) a b ≡ some t → term_in m n (cells_of after) a b ≡ some t
  term-above m n a b t h e = within-above _ m n a b t h e

  pub kept-wider : (a b : ℕ) → a ≤ from → to ≤ b → Kept before after a b
  kept-wider a b h g =
      let s : to * 8 + (b * 8 - to * 8) ≡ b * 8 = omega arith in
      record {
        below = sym (take-take (a * 8) (from * 8) after (omega arith)) ∙ ap (take (a * 8)) k.below ∙ take-take (a * 8) (from * 8) before (omega arith);
        above = sym (ap (λ (n : ℕ). drop n after) s) ∙ sym (drop-drop (b * 8 - to * 8) (to * 8) after)
            ∙ ap (drop (b * 8 - to * 8)) k.above
            ∙ drop-drop (b * 8 - to * 8) (to * 8) before ∙ ap (λ (n : ℕ). drop n before) s;
        long = k.long;
      }

-- one word
pub kept-rewritten : (before after : List ℕ) (i : ℕ) → Kept before after i (i + 1) → Rewritten (cells_of before) (cells_of after) i
kept-rewritten before after i k = record {
  heads = λ j d. same (j * 2) (λ e. d (omega arith)) (λ e. omega arith);
  links = λ j d. ap link_in (same (j * 2 + 1) (λ e. omega arith) (λ e. d (omega arith)));
}
  where
    same : (j : ℕ) → (j ≡ i * 2 → ⊥) → (j ≡ i * 2 + 1 → ⊥) → get_or (cells_of before) j 0 ≡ get_or (cells_of after) j 0
    same j f g = by_less j (i * 2) (λ l. sym (cell_below k j l)) (λ l. sym (cell-above k j (omega (arith, f, g))))

-- where one word is written that keeps its place, all do
pub linked-place : {before after : List ℕ} {i op value link : ℕ} → Linked before after i op value link → (j : ℕ) → place_at (cells_of after) j ≡ place_at (cells_of before) j
linked-place {before} {after} {i} l j =
    by_less j i (λ h. place-below l.kept j h)
    (λ h. by-same j i (λ e. subst (λ (k : ℕ). place_at (cells_of after) k ≡ place_at (cells_of before) k) (sym e) l.place_is) (λ d. place-above l.kept j (omega (arith, d))))

pub kept_same : (code : List ℕ) (a b : ℕ) → Kept code code a b
kept_same code a b = record { below = refl; above = refl; long = refl }

pub kept_on : {x y z : List ℕ} {a b : ℕ} → Kept x y a b → Kept y z a b → Kept x z a b
kept_on p q = record {
  below = q.below ∙ p.below;
  above = q.above ∙ p.above;
  long = q.long ∙ p.long;
}
