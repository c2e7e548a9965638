-- A step that stores: to a word, and to an element.
use mathlib.Core.Path.{◌≡◌, refl, sym, ap, subst, ◌∙◌}
use mathlib.Core.Bool.{true, false}
use mathlib.Core.List.{List}
use mathlib.Core.Option.{some}
use Prim.Native.Nat.{ℕ, ◌+◌, ◌*◌, ◌<◌, ◌≤◌}
use native.Mathlib.Omega.{arith}
use lib.Dec.{T}
use lib.ListN.{length}
use lib.IntN.{ℤ, pos, nat_abs}
use lib.Signed.{lt_z, non_neg}
use mir.Syntax.{w64}
use mir.Val.{Fits, SFits}
use mir.Facts.{to_z-of_z}
use Rattle.paper.specs.Terms.{Ref, Memory, at, fails, worth}
use Rattle.paper.specs.Steps.{Spot}
use Rattle.paper.specs.Steps as action
use Rattle.paper.specs.States.{Location, Rooms, Effect, made, go_to, on_top, store_at, memory_of, with_value, with_spot}
use Rattle.paper.specs.Running.{perform}
use Rattle.store_cells.specs.Cells.{cells_of}
use Rattle.store_numbers.proofs.Whole.{read}
use Rattle.code.specs.Cells.{op_at, link_at}
use Rattle.code.specs.Spans.{memory_in}
use Rattle.code.specs.Steps.{a_target, a_call_target, target_in}
use Rattle.store_evaluation.specs.Answers.{first_error}
use Rattle.store_evaluation.proofs.Places.{link-in}
use Rattle.store_reading.specs.Reading.{half_end, Part}
use Rattle.run_machine.specs.Machine.{store_bytes, Here, Comes, effect_at, Performs}
use Rattle.run_machine.specs.Machine as machine
use Rattle.run_targets.specs.Targets.{ref_cell, RefFits, spot_in, Tells, Indexes, Found, WordAt, of_module_word, of_call_word, ArrayAt, of_module_array, of_call_array, Aims, Assigns, Assigned}
use Rattle.run_machine.proofs.Actions.{op-low, reads-store, Stores as Reads}
use Rattle.run_machine.proofs.Current as here
use Rattle.run_targets.proofs.Elements.{cell-most}
use Rattle.run_targets.proofs.References.{spot-lost}
use Rattle.run_targets.proofs.TargetWords.{word_read, ArrayRead, array-read, array-more, array-indexes, array_tells, told-less, told-error}
use Rattle.run_targets.proofs.TargetStores.{memory-is}

-- ---- where the target of any step is
module _ (code values : List ℕ) (base i : ℕ) (h : Here code values base i) (ops : ℕ) (s : Spot) (j : ℕ)
    (e : target_in (here.m code values base i h) (here.n code values base i h) (here.code_here code values base i h).function h.text h.R (cells_of code) ops i ≡ some (s, j)) where
  pub word-aims : (cell : ℕ) → WordAt (cells_of code) base ops i cell → Aims code values base i h ops cell (i + 1)
  unfolding spot_in
  word-aims cell w =
      let g = word_read (here.m code values base i h) (here.n code values base i h) (here.code_here code values base i h).function h.text h.R (cells_of code) base ops i s j e cell w in
      record {
        s = s;
        reads = e ∙ ap (λ (k : ℕ). some (s, k)) g.next;
        w = g.w;
        is = ap (spot_in (memory_in (here.m code values base i h) (here.n code values base i h) (cells_of values) base)) g.is;
        fits = g.fits;
        cell-is = g.cell-is;
      }

  module _ (first size : ℕ) (a : ArrayAt (cells_of code) base ops i first size) where
    read-array : ArrayRead (here.m code values base i h) (here.n code values base i h) (here.code_here code values base i h).function h.text h.R (cells_of code) base ops i s j e first size
    read-array = array-read (here.m code values base i h) (here.n code values base i h) (here.code_here code values base i h).function h.text h.R (cells_of code) base ops i s j e first size a

    pub brace-inside : (i + 1) * 8 + 8 ≤ length code
    brace-inside =
        link-in code (i + 1) (here.whole_here code values base i h)
        (λ z. omega (arith, array-more (here.counts-here code values base i h) (here.code_here code values base i h).function h.text h.R code values base ops i s j e first size read-array))

    module _ (end : ℕ) (p : Part half_end (link_at (cells_of code) (i + 1)) end) where
      pub element-indexes : Indexes code base first size i end
      element-indexes =
          array-indexes (here.counts-here code values base i h) (here.code_here code values base i h).function h.text h.R code values base ops i s j e first size read-array end p (here.whole_here code values base i h)

      module _ (k : ℤ) (f : Found code values base first size i end k) where
        tells : Tells (here.m code values base i h) (here.n code values base i h) base (spot_in (memory_in (here.m code values base i h) (here.n code values base i h) (cells_of values) base) s) k
        tells = array_tells (here.counts-here code values base i h) (here.code_here code values base i h).function h.text h.R code values base ops i s j e first size read-array end p k f

        module _ (t : lt_z k (pos first_error) ≡ true) where
          told : (w : Ref) × (spot_in (memory_in (here.m code values base i h) (here.n code values base i h) (cells_of values) base) s ≡ at w) × RefFits (here.m code values base i h) (here.n code values base i h) w 1 × (k ≡ pos (ref_cell base w))
          told = told-less (here.m code values base i h) (here.n code values base i h) base (spot_in (memory_in (here.m code values base i h) (here.n code values base i h) (cells_of values) base) s) k tells t

          pub element-aims : Aims code values base i h ops (nat_abs k) (end + 1)
          element-aims = record {
            s = s;
            reads = e ∙ ap (λ (x : ℕ). some (s, x)) (read-array.next ∙ ap (λ (x : ℕ). x + 1) (sym p.same));
            w = told.0;
            is = told.1;
            fits = told.2;
            cell-is = ap nat_abs told.3;
          }

          pub element-signed : T (non_neg k)
          element-signed = subst (λ (z : ℤ). T (non_neg z)) (sym told.3) tt

          pub element-small : nat_abs k < store_bytes
          element-small =
              omega (arith, ap nat_abs told.3, cell-most (here.m code values base i h) (here.n code values base i h) base told.0 1 told.2 h.holds.room (here.routine-holds code values base i h).room, h.base-is, h.deep)

        -- an index that fails
        module _ (t : lt_z k (pos first_error) ≡ false) (rooms : Rooms) (steps : ℕ) (out : List ℕ) where
          pub element-fails : (go : Location → Effect) (E : Effect) → E ≡ with_spot (memory_of (here.state_here code values base i h rooms steps out) (here.call_here code values base i h rooms steps out)) s (here.state_here code values base i h rooms steps out) go
              → Comes h.P h.R (cells_of code) h.offset h.d i steps (cells_of values) (cells_of values) out out E k
          element-fails go E q =
              let M = memory_in (here.m code values base i h) (here.n code values base i h) (cells_of values) base in
              let l = told-error (here.m code values base i h) (here.n code values base i h) base (spot_in M s) k h.holds.room (here.routine-holds code values base i h).room (omega (arith, h.base-is, h.deep)) tells t in
              let S = here.state_here code values base i h rooms steps out in
              machine.fails l.0 l.3 l.2 h.live
              (q ∙ spot-lost (memory_of S (here.call_here code values base i h rooms steps out)) S go s l.0 (ap (λ (N : Memory). spot_in N s) (memory-is code values base i h rooms steps out) ∙ l.1))

-- ---- a store
module _ (code values : List ℕ) (base i : ℕ) where
  -- what the table says of it
  store-read : (h : Here code values base i) → op_at (cells_of code) i < a_call_target
      → Reads (here.m code values base i h) (here.n code values base i h) (here.code_here code values base i h).function h.text h.R (cells_of code) i (here.step_here code values base i h).after (here.step_here code values base i h).does
  store-read h op =
      let m = here.m code values base i h in
      let n = here.n code values base i h in
      let f = (here.code_here code values base i h).function in
      let s = here.step_here code values base i h in
      let act = here.action-here code values base i h in
      reads-store m n f h.text h.R (cells_of code) i s.after s.does act (op-low m n f h.text h.R (cells_of code) i s.after s.does act) op

  pub after-fits : Here code values base i → Fits w64 (i + 1)
  after-fits h = record { fits = omega (arith, (here.small-name code values base i h i h.live.named).1) }

  word-op : (cell : ℕ) → WordAt (cells_of code) base a_target i cell → op_at (cells_of code) i < a_call_target
  word-op cell (of_module_word q z) = omega arith
  word-op cell (of_call_word q z) = omega arith

  array-op : (first size : ℕ) → ArrayAt (cells_of code) base a_target i first size → op_at (cells_of code) i < a_call_target
  array-op first size (of_module_array q z y) = omega arith
  array-op first size (of_call_array q z y) = omega arith

  module _ (cell : ℕ) (w : WordAt (cells_of code) base a_target i cell) where
    store-aims : (h : Here code values base i) → Aims code values base i h a_target cell (i + 1)
    store-aims h = let g = store-read h (word-op cell w) in word-aims code values base i h a_target g.s g.j g.target cell w

    pub store-assigns : Here code values base i → Assigns code values base i (i + 1) cell
    store-assigns h = record { here = h; op = word-op cell w; aims = store-aims h }

    pub store-done : (after : List ℕ) (r : ℤ) → SFits w64 r → Assigned code values base i (i + 1) cell after r → Performs code values after base i (read r)
    store-done after r s a = rw (to_z-of_z s) (record { long = a.long; kept = a.kept; does = λ h rooms steps out. a.does h (store-aims h) rooms steps out })

  module _ (first size : ℕ) (a : ArrayAt (cells_of code) base a_target i first size) where
    pub store-brace : Here code values base i → (i + 1) * 8 + 8 ≤ length code
    store-brace h = let g = store-read h (array-op first size a) in brace-inside code values base i h a_target g.s g.j g.target first size a

    module _ (end : ℕ) (p : Part half_end (link_at (cells_of code) (i + 1)) end) where
      pub store-indexes : Here code values base i → Indexes code base first size i end
      store-indexes h = let g = store-read h (array-op first size a) in element-indexes code values base i h a_target g.s g.j g.target first size a end p

      module _ (k : ℤ) (s : SFits w64 k) (f : Found code values base first size i end k) where
        module _ (t : lt_z (read k) (pos first_error) ≡ true) where
          less : lt_z k (pos first_error) ≡ true
          less = rw (to_z-of_z s) at t

          found-aims : (h : Here code values base i) → Aims code values base i h a_target (nat_abs (read k)) (end + 1)
          found-aims h =
              let g = store-read h (array-op first size a) in
              rw (to_z-of_z s) (element-aims code values base i h a_target g.s g.j g.target first size a end p k f less)

          pub store-signed : Here code values base i → T (non_neg (read k))
          store-signed h =
              let g = store-read h (array-op first size a) in
              rw (to_z-of_z s) (element-signed code values base i h a_target g.s g.j g.target first size a end p k f less)

          pub store-small : Here code values base i → Fits w64 (nat_abs (read k))
          store-small h =
              let g = store-read h (array-op first size a) in
              rw (to_z-of_z s) (record { fits = omega (arith, element-small code values base i h a_target g.s g.j g.target first size a end p k f less) })

          pub element-assigns : Here code values base i → Assigns code values base i (end + 1) (nat_abs (read k))
          element-assigns h = record { here = h; op = array-op first size a; aims = found-aims h }

          pub element-done : (after : List ℕ) (r : ℤ) → SFits w64 r → Assigned code values base i (end + 1) (nat_abs (read k)) after r → Performs code values after base i (read r)
          element-done after r u d = rw (to_z-of_z u) (record { long = d.long; kept = d.kept; does = λ h rooms steps out. d.does h (found-aims h) rooms steps out })

        pub element-lost : lt_z (read k) (pos first_error) ≡ false → Performs code values values base i (read k)
        unfolding perform
        element-lost t = rw (to_z-of_z s) (record {
          long = refl;
          kept = λ c x y. refl;
          does = λ h rooms steps out.
              let g = store-read h (array-op first size a) in
              let S = here.state_here code values base i h rooms steps out in
              let M = memory_of S (here.call_here code values base i h rooms steps out) in
              element-fails code values base i h a_target g.s g.j g.target first size a end p k f (rw (to_z-of_z s) at t) rooms steps out
              (λ w. with_value (worth M g.e) S (λ z. made (on_top (go_to (link_at (cells_of code) i)) (store_at w z S))))
              (effect_at h.P h.R rooms (cells_of values) h.d i steps out)
              (here.effect-here code values base i h rooms steps out (link_at (cells_of code) i) (action.store g.s g.e) g.after_is g.does-is);
        })
