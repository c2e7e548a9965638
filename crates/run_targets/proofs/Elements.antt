-- Where an element is.
use mathlib.Core.Path.{◌≡◌, refl, sym, ap, subst, ◌∙◌}
use mathlib.Core.Bool.{Bool, true, false}
use mathlib.Core.List.{List}
use mathlib.Core.Option.{some}
use Prim.Native.Nat.{ℕ, ◌+◌, ◌-◌, ◌<◌, ◌≤◌}
use native.Mathlib.Omega.{arith}
use lib.Dec.{T}
use lib.ListN.{length}
use lib.IntN.{ℤ, pos, negsuc, nat_abs}
use lib.Signed.{lt_z, non_neg}
use mir.Syntax.{w64}
use mir.Val.{Fits, SFits, to_z}
use mir.Facts.{to_z-of_z}
use mir.ValLaws.{to_z_pos}
use borrow.Author.Tests.{ltb-false}
use Rattle.paper.specs.Numbers.{value, error, out_of_bound}
use Rattle.paper.specs.Terms.{Ref, of_module, of_routine, onward, Term, at, fails, locate, worth}
use Rattle.store_cells.specs.Cells.{cells_of}
use Rattle.store_numbers.proofs.Whole.{read}
use Rattle.code.specs.Cells.{first_window}
use Rattle.code.proofs.Spanning.{span-grows}
use Rattle.store_evaluation.specs.Answers.{first_error, Counts, call_slots, term_of, memory_of, Stores, Evaluated}
use Rattle.store_evaluation.specs.Parts.{addresses}
use Rattle.store_evaluation.proofs.Numbers.{is-value, is-error}
use Rattle.run_targets.specs.Targets.{ref_cell, RefFits, found, lost, Indexes, Found}
use Rattle.raised.proofs.Raised.{worth-error}
use Rattle.run_machine.proofs.Current.{error-is}

-- ---- words of an array
module _ (m n base : ℕ) where
  pub cell-onward : (a : Ref) (k : ℕ) → ref_cell base (onward a k) ≡ ref_cell base a + k
  unfolding ref_cell onward
  cell-onward (of_module j) k = refl
  cell-onward (of_routine j) k = omega arith

  pub fits-onward : (a : Ref) (k size : ℕ) → RefFits m n a size → k < size → RefFits m n (onward a k) 1
  unfolding RefFits onward
  fits-onward (of_module j) k size h l = omega arith
  fits-onward (of_routine j) k size h l = omega arith

  pub size-most : (a : Ref) (size : ℕ) → RefFits m n a size → m ≤ first_window → n ≤ call_slots → size ≤ first_window
  unfolding RefFits
  size-most (of_module j) size h p q = omega arith
  size-most (of_routine j) size h p q = omega arith

  pub cell-most : (a : Ref) (size : ℕ) → RefFits m n a size → m ≤ first_window → n ≤ call_slots → ref_cell base a + size ≤ base + first_window
  unfolding RefFits ref_cell
  cell-most (of_module j) size h p q = omega arith
  cell-most (of_routine j) size h p q = omega arith

module _ (code values : List ℕ) (base first size i end : ℕ) (st : Stores values base) (ix : Indexes code base first size i end) where
  index-more : i + 2 < end
  index-more = span-grows ix.c.m ix.c.n (cells_of code) (i + 2) end ix.t ix.is

  pub index_at : Fits w64 end → Fits w64 (i + 2)
  index_at h = record { fits = omega (arith, h.fits, index-more) }

  size_is : size ≤ first_window
  size_is = size-most ix.c.m ix.c.n base ix.array size ix.fits ix.c.most ix.c.window

  pub size_fits : SFits w64 (pos size)
  size_fits = record { sfits = omega (arith, size_is) }

  pub first-is : first + size ≤ base + first_window
  first-is = omega (arith, ix.first-is, cell-most ix.c.m ix.c.n base ix.array size ix.fits ix.c.most ix.c.window)

  module _ (x : ℤ) (s : SFits w64 x) (v : Evaluated code values base (i + 2) end x) where
    pub index-error : lt_z (read x) (pos first_error) ≡ false → Found code values base first size i end (read x)
    unfolding locate
    index-error h =
        rw (to_z-of_z s) (record {
          is = λ c t a e f g.
              let k : lt_z x (pos first_error) ≡ false = rw (to_z-of_z s) at h in
              let q : worth (memory_of c values base) t ≡ error (nat_abs x - first_error) = sym (v.is c t e) ∙ is-error x k in
              lost (nat_abs x - first_error) (ap (locate a size) q) (worth-error (memory_of c values base) t (nat_abs x - first_error) q) (error-is x k);
        })

    module _ (h : lt_z (read x) (pos first_error) ≡ true) where
      worth-is : (c : Counts) (t : Term) → term_of c code (i + 2) end ≡ some t → worth (memory_of c values base) t ≡ value x
      worth-is c t e = sym (v.is c t e) ∙ is-value x (rw (to_z-of_z s) at h)

      outside : ((a : Ref) → locate a size (value x) ≡ fails out_of_bound) → Found code values base first size i end (pos (first_error + out_of_bound))
      outside o = record { is = λ c t a e f g. lost out_of_bound (ap (locate a size) (worth-is c t e) ∙ o a) (omega arith) refl }

      pub index-low : lt_z (read x) (pos 1) ≡ true → Found code values base first size i end (pos (first_error + out_of_bound))
      unfolding locate
      index-low l = outside (λ a. let q : lt_z x (pos 1) ≡ true = rw (to_z-of_z s) at l in rw (q, locate))

      module _ (l : lt_z (read x) (pos 1) ≡ false) where
        low-is : lt_z x (pos 1) ≡ false
        low-is = rw (to_z-of_z s) at l

        high_is : (y : Bool) → lt_z (to_z w64 size) (read x) ≡ y → lt_z (pos size) x ≡ y
        high_is y g = rw (to_z_pos w64 size (omega (arith, size_is)), to_z-of_z s) at g

        pub index-high : lt_z (to_z w64 size) (read x) ≡ true → Found code values base first size i end (pos (first_error + out_of_bound))
        unfolding locate
        index-high g = outside (λ a. rw (low-is, locate) (rw (high_is true g)))

        module _ (g : lt_z (to_z w64 size) (read x) ≡ false) where
          record Within : Type 0 where
            pub k : ℕ
            pub is : x ≡ pos k
            pub low : 1 ≤ k
            pub high : k ≤ size

          within_of : (y : ℤ) → x ≡ y → lt_z y (pos 1) ≡ false → lt_z (pos size) y ≡ false → Within
          within_of (pos k) q a b = record { k = k; is = q; low = ltb-false k 1 a; high = ltb-false size k b }
          within_of (negsuc k) q a b = absurd (subst T a tt)

          within : Within
          within = within_of x refl low-is (high_is false g)

          abs_is : nat_abs (read x) ≡ within.k
          abs_is = ap nat_abs (to_z-of_z s ∙ within.is)

          pub index-signed : T (non_neg (read x))
          index-signed = rw (to_z-of_z s) (rw within.is tt)

          pub index-fits : Fits w64 (nat_abs (read x))
          index-fits = record { fits = omega (arith, abs_is, within.high, size_is) }

          pub index-some : 1 ≤ nat_abs (read x)
          index-some = omega (arith, abs_is, within.low)

          module _ (lv : length values < addresses) where
            index-cell : first + (nat_abs (read x) - 1) < 9223372036854775808
            index-cell = omega (arith, abs_is, within.low, within.high, first-is, st.call)

            pub cell-fits : Fits w64 (first + (nat_abs (read x) - 1))
            cell-fits = record { fits = omega (arith, index-cell) }

            pub cell-signed : SFits w64 (pos (first + (nat_abs (read x) - 1)))
            cell-signed = record { sfits = omega (arith, index-cell) }

            pub index-done : Found code values base first size i end (to_z w64 (first + (nat_abs (read x) - 1)))
            unfolding locate
            index-done =
                rw (to_z_pos w64 (first + (nat_abs (read x) - 1)) index-cell) (record {
                  is = λ c t a e f q.
                      let j : ℕ = nat_abs x - 1 in
                      let z : nat_abs (read x) ≡ nat_abs x = ap nat_abs (to_z-of_z s) in
                      found (onward a j) (ap (locate a size) (worth-is c t e) ∙ rw (low-is, locate) (rw (high_is false g)))
                      (fits-onward c.m c.n base a j size f (omega (arith, abs_is, within.low, within.high)))
                      (ap pos (omega (arith, cell-onward c.m c.n base a j)));
                })
