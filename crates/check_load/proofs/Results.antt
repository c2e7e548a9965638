-- What later passes take from the loading.
use mathlib.Core.Path.{◌≡◌, ap, ◌∙◌}
use mathlib.Core.List.{List}
use Prim.Native.Nat.{ℕ, ◌+◌, ◌*◌, ◌%◌, ◌<◌}
use native.Mathlib.Omega.{arith}
use lib.ListN.{length}
use borrow.Author.Tests.{eq-eqb}
use Rattle.store_cells.specs.Cells.{cells_of}
use Rattle.paper.specs.Sorts.{NAME}
use Rattle.paper.specs.Names.{nth, sort_in}
use Rattle.code.specs.Cells.{head_at, op_at, value_in, op_in}
use Rattle.check_names.specs.Numbers.{number_of, IsName}
use Rattle.check_names.specs.Meanings.{Means, no_scopes}
use Rattle.check_names.specs.Promises.{number_at, number_limit}
use Rattle.check_names.proofs.Spellings.{name-inside, number-most}
use Rattle.check_names.proofs.Shields.{means-first}
use Rattle.check_load.specs.Layout.{head_value, head_of, first_cell, words_in}
use Rattle.check_load.specs.Loads.{Loaded, Loads}
use Rattle.check_load.proofs.Bounds.{reading-good, reading-most}
use Rattle.check_load.proofs.Chains.{true-first}
use Rattle.layout.specs.Parts.{value_part}

-- by the words' heads alone
module _ (text code' : List ℕ) (heads : (i : ℕ) → i < length (words_in text) → head_at (cells_of code') i ≡ head_of (words_in text) i) where
  pub sorts-loaded : (i : ℕ) → i < length (words_in text) → op_at (cells_of code') i ≡ sort_in (words_in text) i
  unfolding sort_in
  sorts-loaded i l = ap op_in (heads i l) ∙ low (nth (words_in text) i).sort (head_value (words_in text) i) (reading-good text i l).sizes.sorts
    where
      low : (sort v : ℕ) → sort < 128 → op_in (sort + value_part * v) ≡ sort
      low sort v b = omega arith

  pub numbers-loaded : (i : ℕ) → IsName (words_in text) i → number_at (cells_of code') i ≡ number_of (words_in text) i
  unfolding head_value
  numbers-loaded i n =
      let l = name-inside (words_in text) i n in
      let most : number_of (words_in text) i < number_limit = omega (arith, number-most (words_in text) i n, l, reading-most text) in
      ap (λ (x : ℕ). value_in x % number_limit) (heads i l)
      ∙ rw (eq-eqb (sort_in (words_in text) i) NAME n) (value (sort_in (words_in text) i) (number_of (words_in text) i) (length (nth (words_in text) i).covers) (omega (arith, n)) most)
    where
      value : (sort number n : ℕ) → sort < value_part → number < number_limit → value_in (sort + value_part * (number + number_limit * n)) % number_limit ≡ number
      value sort number n a b =
          let e : value_in (sort + value_part * (number + number_limit * n)) ≡ number + number_limit * n = omega arith in
          rw e (omega arith)

module _ (text code values : List ℕ) (r : Loaded) (code' values' : List ℕ) (h : Loads text code values r code' values') where
  pub loads-sorts : (i : ℕ) → i < length (words_in text) → op_at (cells_of code') i ≡ sort_in (words_in text) i
  loads-sorts = sorts-loaded text code' h.heads

  pub loads-numbers : (i : ℕ) → IsName (words_in text) i → number_at (cells_of code') i ≡ number_of (words_in text) i
  loads-numbers = numbers-loaded text code' h.heads

  -- Before any declaration, the table says what the protected names mean.
  pub loads-means : (routine : ℕ → ℕ) → Means routine (words_in text) no_scopes (cells_of values')
  unfolding first_cell
  loads-means routine =
      means-first routine (words_in text) (cells_of values')
      (λ i n own. h.table i (omega (arith, name-inside (words_in text) i n, reading-most text)) ∙ rw (true-first (words_in text) i (record { name = n; own = own })))
