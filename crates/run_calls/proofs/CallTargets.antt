-- A call for a result that goes to a word, or to an element.
use mathlib.Core.Path.{◌≡◌, refl}
use mathlib.Core.Bool.{true, false}
use mathlib.Core.List.{List}
use mathlib.Core.Option.{some}
use Prim.Native.Nat.{ℕ, ◌+◌, ◌*◌, ◌<◌, ◌≤◌}
use native.Mathlib.Omega.{arith}
use lib.Dec.{T}
use lib.ListN.{length}
use lib.IntN.{ℤ, pos, nat_abs}
use lib.Signed.{lt_z, non_neg}
use mir.Syntax.{w64}
use mir.Val.{Fits, SFits}
use mir.Facts.{to_z-of_z}
use Rattle.paper.specs.Steps as action
use Rattle.paper.specs.States.{memory_of}
use Rattle.paper.specs.Running.{perform, calling}
use Rattle.store_cells.specs.Cells.{cells_of}
use Rattle.store_numbers.proofs.Whole.{read}
use Rattle.code.specs.Cells.{op_at, link_at}
use Rattle.code.specs.Steps.{a_call_target, a_procedure_call}
use Rattle.store_evaluation.specs.Answers.{first_error}
use Rattle.store_reading.specs.Reading.{half_end, Part}
use Rattle.run_machine.specs.Machine.{Here, effect_at, Calls}
use Rattle.run_targets.specs.Targets.{Indexes, Found, WordAt, of_module_word, of_call_word, ArrayAt, of_module_array, of_call_array, Aims}
use Rattle.run_calls.specs.Calling.{Deepest, CallsFor}
use Rattle.run_machine.proofs.Current as here
use Rattle.run_targets.proofs.StoreSteps.{word-aims, brace-inside, element-indexes, element-aims, element-signed, element-small, element-fails}
use Rattle.run_calls.proofs.CallSteps.{for-read}

module _ (code values : List ℕ) (base last i : ℕ) (dp : Deepest last) where
  -- ---- a word
  module _ (cell : ℕ) (w : WordAt (cells_of code) base a_call_target i cell) where
    word_low : (x : WordAt (cells_of code) base a_call_target i cell) → a_call_target ≤ op_at (cells_of code) i
    word_low (of_module_word q z) = omega arith
    word_low (of_call_word q z) = omega arith

    word-high : (x : WordAt (cells_of code) base a_call_target i cell) → op_at (cells_of code) i < a_procedure_call
    word-high (of_module_word q z) = omega arith
    word-high (of_call_word q z) = omega arith

    aims-word : (h : Here code values base i) → Aims code values base i h a_call_target cell (i + 1)
    aims-word h = let g = for-read code values base i h (word_low w) (word-high w) in word-aims code values base i h a_call_target g.s g.j g.target cell w

    pub word-calls : Here code values base i → CallsFor code values base i last (i + 1) cell
    word-calls h = record { here = h; deepest = dp; low = word_low w; high = word-high w; aims = aims-word }

  -- ---- an element
  module _ (first size : ℕ) (a : ArrayAt (cells_of code) base a_call_target i first size) where
    array-low : (x : ArrayAt (cells_of code) base a_call_target i first size) → a_call_target ≤ op_at (cells_of code) i
    array-low (of_module_array q z y) = omega arith
    array-low (of_call_array q z y) = omega arith

    array-high : (x : ArrayAt (cells_of code) base a_call_target i first size) → op_at (cells_of code) i < a_procedure_call
    array-high (of_module_array q z y) = omega arith
    array-high (of_call_array q z y) = omega arith

    pub call-brace : Here code values base i → (i + 1) * 8 + 8 ≤ length code
    call-brace h = let g = for-read code values base i h (array-low a) (array-high a) in brace-inside code values base i h a_call_target g.s g.j g.target first size a

    module _ (end : ℕ) (p : Part half_end (link_at (cells_of code) (i + 1)) end) where
      pub call-indexes : Here code values base i → Indexes code base first size i end
      call-indexes h = let g = for-read code values base i h (array-low a) (array-high a) in element-indexes code values base i h a_call_target g.s g.j g.target first size a end p

      module _ (k : ℤ) (s : SFits w64 k) (f : Found code values base first size i end k) where
        module _ (t : lt_z (read k) (pos first_error) ≡ true) where
          less : lt_z k (pos first_error) ≡ true
          less = rw (to_z-of_z s) at t

          aims-element : (h : Here code values base i) → Aims code values base i h a_call_target (nat_abs (read k)) (end + 1)
          aims-element h =
              let g = for-read code values base i h (array-low a) (array-high a) in
              rw (to_z-of_z s) (element-aims code values base i h a_call_target g.s g.j g.target first size a end p k f less)

          pub call_signed : Here code values base i → T (non_neg (read k))
          call_signed h =
              let g = for-read code values base i h (array-low a) (array-high a) in
              rw (to_z-of_z s) (element-signed code values base i h a_call_target g.s g.j g.target first size a end p k f less)

          pub call-small : Here code values base i → Fits w64 (nat_abs (read k))
          call-small h =
              let g = for-read code values base i h (array-low a) (array-high a) in
              rw (to_z-of_z s) (record { fits = omega (arith, element-small code values base i h a_call_target g.s g.j g.target first size a end p k f less) })

          pub element-calls : Here code values base i → CallsFor code values base i last (end + 1) (nat_abs (read k))
          element-calls h = record { here = h; deepest = dp; low = array-low a; high = array-high a; aims = aims-element }

        pub element-refused : lt_z (read k) (pos first_error) ≡ false → Calls code values values base last i (read k)
        unfolding perform
        element-refused t = rw (to_z-of_z s) (record {
          long = refl;
          kept = λ c x y. refl;
          does = λ h rooms lw steps out.
              let g = for-read code values base i h (array-low a) (array-high a) in
              let S = here.state_here code values base i h rooms steps out in
              let M = memory_of S (here.call_here code values base i h rooms steps out) in
              element-fails code values base i h a_call_target g.s g.j g.target first size a end p k f (rw (to_z-of_z s) at t) rooms steps out
              (λ y. calling h.P rooms M (g.j + 1) g.k g.es (some y) S)
              (effect_at h.P h.R rooms (cells_of values) h.d i steps out)
              (here.effect-here code values base i h rooms steps out (here.step_here code values base i h).after (action.call_for g.s (g.j + 1) g.k g.es) refl g.does-is);
        })
