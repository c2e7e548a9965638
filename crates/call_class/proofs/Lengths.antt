-- Lengths taken one by one from what is left.
use mathlib.Core.Path.{◌≡◌, refl, sym, ap, ◌∙◌}
use mathlib.Core.Bool.{false}
use mathlib.Core.List.{List, [], ◌∷◌, ◌++◌}
use Prim.Native.Nat.{ℕ, zero, suc, ◌+◌, ◌-◌, ◌*◌, ◌/◌, ◌≤◌, ◌<◌}
use native.Mathlib.Numerals.{add-one}
use native.Mathlib.Omega.{arith}
use lib.Dec.{eqb}
use lib.ListN.{length, get_or, take, length-map}
use lib.Seq.{take-suc, take-length}
use mir.Syntax.{w32}
use mir.Val.{to_z}
use borrow.Author.Tests.{eq-eqb, ne_eqb}
use Rattle.laws.proofs.Tests.{by-same}
use Rattle.paper.specs.Answer as paper
use Rattle.store_cells.specs.Cells.{cells_of, Got}
use Rattle.store_cells.proofs.Laws.{length-words}
use Rattle.store_cells.proofs.Paper.{words-paper}
use Rattle.classes.specs.Classes.{sum, lengths_of}

pub lengths-cells : (b : List ℕ) → lengths_of b ≡ cells_of b
unfolding lengths_of cells_of
lengths-cells [] = refl
lengths-cells (a ∷ []) = refl
lengths-cells (a ∷ b ∷ []) = refl
lengths-cells (a ∷ b ∷ c ∷ []) = refl
lengths-cells (a ∷ b ∷ c ∷ d ∷ r) = ap (λ (x : List ℕ). (a + 256 * b + 65536 * c + 16777216 * d) ∷ x) (lengths-cells r)

pub count-lengths : (b : List ℕ) → length (lengths_of b) ≡ length b / 4
count-lengths b = ap length (lengths-cells b) ∙ length-words b

-- how many words bytes are
pub word_count : (l : List ℕ) → length (paper.cells_of l) ≡ length l / 4
word_count l = ap length (words-paper l) ∙ length-map (cells_of l) (to_z w32) ∙ length-words l

-- ---- sums
sum-append : (a b : List ℕ) → sum (a ++ b) ≡ sum a + sum b
unfolding sum
sum-append [] b = omega arith
sum-append (n ∷ a) b = omega (arith, sum-append a b)

pub sum-next : (l : List ℕ) (i : ℕ) → i < length l → sum (take (suc i) l) ≡ sum (take i l) + get_or l i 0
unfolding sum
sum-next l i h = ap sum (take-suc l i 0 h) ∙ sum-append (take i l) (get_or l i 0 ∷ []) ∙ omega arith

pub sum-most : (i : ℕ) (l : List ℕ) → sum (take i l) ≤ sum l
unfolding sum
sum-most zero l = omega arith
sum-most (suc i) [] = omega arith
sum-most (suc i) (n ∷ l) = omega (arith, sum-most i l)

-- ---- the loop
-- So many of the bytes are left behind the first i lengths.
pub record Adding (lengths : List ℕ) (total left i : ℕ) : Type 0 where
  pub within : i ≤ length lengths / 4
  pub rest : left + sum (take i (lengths_of lengths)) ≡ total

pub adding-start : (lengths : List ℕ) (total : ℕ) → Adding lengths total total 0
unfolding sum
adding-start lengths total = record { within = omega arith; rest = omega arith }

module _ (lengths : List ℕ) (total left i : ℕ) (a : Adding lengths total left i) where
  module _ (k : ℕ) (h : i < length lengths / 4) (e : Got lengths i k) where
    next : sum (take (suc i) (lengths_of lengths)) ≡ sum (take i (lengths_of lengths)) + k
    next = sum-next (lengths_of lengths) i (omega (arith, count-lengths lengths)) ∙ omega (arith, e, ap (λ (x : List ℕ). get_or x i 0) (lengths-cells lengths))

    pub adding-stop : (k ≤ left → ⊥) → false ≡ eqb (sum (lengths_of lengths)) total
    adding-stop g =
        let d : sum (lengths_of lengths) ≡ total → ⊥ = λ z. omega (arith, next, a.rest, sum-most (suc i) (lengths_of lengths)) in
        sym (ne_eqb (sum (lengths_of lengths)) total d)

    pub adding-step : (rest : ℕ) → (k ≤ left) × (rest ≡ left - k) → Adding lengths total rest (i + 1)
    adding-step rest (fits, less) = record { within = omega arith; rest = rw add-one (omega (arith, next, a.rest)) }

  pub adding-end : length lengths / 4 ≤ i → eqb left 0 ≡ eqb (sum (lengths_of lengths)) total
  adding-end h =
      let L = lengths_of lengths in
      let q : i ≡ length L = omega (arith, a.within, count-lengths lengths) in
      let s : sum (take i L) ≡ sum L = ap (λ (j : ℕ). sum (take j L)) q ∙ ap sum (take-length L) in
      by-same left 0
      (λ z. eq-eqb left 0 z ∙ sym (eq-eqb (sum L) total (omega (arith, s, a.rest))))
      (λ z. ne_eqb left 0 z ∙ sym (ne_eqb (sum L) total (λ t. z (omega (arith, s, a.rest)))))
