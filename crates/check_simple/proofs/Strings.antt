-- The characters of a string, counted.
use mathlib.Core.Path.{◌≡◌, refl, ap, ap₂, subst, ◌∙◌}
use mathlib.Core.List.{List, [], ◌∷◌}
use Prim.Native.Nat.{ℕ, suc, ◌+◌, ◌*◌, ◌-◌, ◌<◌, ◌≤◌}
use native.Mathlib.Omega.{arith}
use lib.ListN.{length, get_or, take, drop, drop_of_length-le}
use lib.Seq.{drop-cons, drop-drop}
use borrow.Author.Tests.{eq-eqb, ne_eqb}
use Rattle.laws.proofs.Tests.{by-same}
use Rattle.paper.specs.Sorts.{STRING}
use Rattle.paper.specs.Words.{QUOTE}
use Rattle.paper.specs.Steps.{unquoted}
use Rattle.store_cells.specs.Cells.{cells_of}
use Rattle.code.specs.Cells.{value_at, place_at}
use Rattle.store_writing.specs.Promises.{Headed}
use Rattle.check_simple.specs.Parts.{Characters, Strings, Spelled}
use Rattle.layout.specs.Parts.{characters_part, width_of}

unquoted-quote : (b : ℕ) (r : List ℕ) → b ≡ QUOTE → length (unquoted (b ∷ r)) ≡ suc (length (unquoted (drop 1 r)))
unfolding unquoted
unquoted-quote b [] e = refl
unquoted-quote b (c ∷ r) e = rw (eq-eqb b QUOTE e, length, unquoted)

unquoted-other : (b : ℕ) (r : List ℕ) → (b ≡ QUOTE → ⊥) → length (unquoted (b ∷ r)) ≡ suc (length (unquoted r))
unfolding unquoted
unquoted-other b [] e = refl
unquoted-other b (c ∷ r) e = rw (ne_eqb b QUOTE e, length, unquoted)

-- so many are counted, and k bytes are read
pub record Counting (bytes : List ℕ) (k count : ℕ) : Type 0 where
  pub left : count + length (unquoted (drop k bytes)) ≡ length (unquoted bytes)
  pub few : count ≤ k
  pub past : k ≤ length bytes + 1
  pub most : count ≤ length bytes

pub counting-first : (bytes : List ℕ) → Counting bytes 0 0
counting-first bytes = record { left = same; few = omega arith; past = omega arith; most = omega arith }
  where
    same : 0 + length (unquoted (drop 0 bytes)) ≡ length (unquoted bytes)
    same = let e : drop 0 bytes ≡ bytes = refl in omega (arith, ap (λ (l : List ℕ). length (unquoted l)) e)

module _ (bytes : List ℕ) (k count : ℕ) (c : Counting bytes k count) (h : k < length bytes) where
  left_is : drop k bytes ≡ get_or bytes k 0 ∷ drop (suc k) bytes
  left_is = drop-cons bytes k 0 h

  pub counting-quote : get_or bytes k 0 ≡ QUOTE → Counting bytes (k + 1 + 1) (count + 1)
  counting-quote e = record {
    left = omega (arith, c.left, ap (λ (l : List ℕ). length (unquoted l)) left_is, unquoted-quote (get_or bytes k 0) (drop (suc k) bytes) e, ap (λ (l : List ℕ). length (unquoted l)) twice);
    few = omega (arith, c.few);
    past = omega arith;
    most = omega (arith, c.few);
  }
    where
      twice : drop 1 (drop (suc k) bytes) ≡ drop (k + 1 + 1) bytes
      twice = let q : suc k + 1 ≡ k + 1 + 1 = omega arith in drop-drop 1 (suc k) bytes ∙ ap (λ (j : ℕ). drop j bytes) q

  once : drop (suc k) bytes ≡ drop (k + 1) bytes
  once = let q : suc k ≡ k + 1 = omega arith in ap (λ (j : ℕ). drop j bytes) q

  pub counting-other : (get_or bytes k 0 ≡ QUOTE → ⊥) → Counting bytes (k + 1) (count + 1)
  counting-other e = record {
    left = omega (arith, c.left, ap (λ (l : List ℕ). length (unquoted l)) left_is, unquoted-other (get_or bytes k 0) (drop (suc k) bytes) e, ap (λ (l : List ℕ). length (unquoted l)) once);
    few = omega (arith, c.few);
    past = omega arith;
    most = omega (arith, c.few);
  }

  pub counting-on : (w : ℕ) → w ≡ width_of (get_or bytes k 0) → Counting bytes (k + w) (count + 1)
  counting-on w h = by-same (get_or bytes k 0) QUOTE
      (λ e. let t : w ≡ 2 = h ∙ rw (eq-eqb (get_or bytes k 0) QUOTE e) in let q : k + 1 + 1 ≡ k + w = omega (arith, t) in subst (λ (j : ℕ). Counting bytes j (count + 1)) q (counting-quote e))
      (λ e. let t : w ≡ 1 = h ∙ rw (ne_eqb (get_or bytes k 0) QUOTE e) in let q : k + 1 ≡ k + w = omega (arith, t) in subst (λ (j : ℕ). Counting bytes j (count + 1)) q (counting-other e))

none_left : length (unquoted []) ≡ 0
unfolding unquoted
none_left = refl

pub counting-done : (bytes : List ℕ) (k count : ℕ) → Counting bytes k count → length bytes ≤ k → Characters bytes count
counting-done bytes k count c h =
    let e : drop k bytes ≡ [] = drop_of_length-le bytes {i = k} h in
    record { is = omega (arith, c.left, ap (λ (l : List ℕ). length (unquoted l)) e, none_left); most = c.most }

-- ---- the string at a word
module _ (text code : List ℕ) (i v p : ℕ) (ev : v ≡ value_at (cells_of code) i) (ep : p ≡ place_at (cells_of code) i) where
  module _ (g : Strings text code i) where
    bytes-are : v ≡ length g.w.covers
    bytes-are = ev ∙ g.value

    first-is : p ≡ g.w.place
    first-is = ep ∙ g.place

  pub string-spelled : (after : List ℕ) (n : ℕ) → Characters (take (v - 2) (drop (p + 1) text)) n → Headed code after i STRING (v + characters_part * n) → Spelled text code after i
  string-spelled after n c l = record {
    is = λ g.
        let e : v + characters_part * n ≡ length g.w.covers + characters_part * length (unquoted (take (length g.w.covers - 2) (drop (g.w.place + 1) text))) =
        ap₂ (λ (b k : ℕ). b + characters_part * k) (bytes-are g) (c.is ∙ ap₂ (λ (b k : ℕ). length (unquoted (take (b - 2) (drop (k + 1) text)))) (bytes-are g) (first-is g)) in
        subst (λ (x : ℕ). Headed code after i STRING x) e l;
  }
