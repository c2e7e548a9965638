-- Targets, as their words say them: where they are, and what a store to one asks and does.
use mathlib.Core.Path.{◌≡◌, refl, sym, ap, subst, ◌∙◌}
use mathlib.Core.Bool.{Bool, true, false}
use mathlib.Core.List.{List}
use mathlib.Core.Option.{some}
use Prim.Native.Nat.{ℕ, ◌+◌, ◌*◌, ◌%◌, ◌<◌, ◌≤◌}
use native.Mathlib.Omega.{arith}
use lib.Dec.{ltb}
use lib.ListN.{length}
use lib.IntN.{ℤ, pos}
use lib.Signed.{lt_z}
use mir.Syntax.{w64}
use mir.Val.{SFits, to_z}
use mir.Facts.{to_z-of_z}
use mir.ValLaws.{to_z_pos}
use borrow.Author.Tests.{ltb-true, ltb-false}
use Rattle.laws.proofs.Tests.{by-same}
use Rattle.paper.specs.Terms.{Ref, of_module, of_routine, Term, Located, at, fails}
use Rattle.paper.specs.Answer.{store_words}
use Rattle.paper.specs.Steps.{Spot, scalar, element_of}
use Rattle.store_cells.specs.Cells.{cells_of}
use Rattle.store_numbers.proofs.Whole.{read}
use Rattle.code.specs.Cells.{op_in, value_in, head_at, op_at, value_at, link_at, first_window}
use Rattle.code.specs.Spans.{first_in, size_in, term_in}
use Rattle.code.specs.Steps.{Head, a_target, target_in}
use Rattle.code.proofs.Spanning.{span-grows}
use Rattle.layout.specs.Answers.{answers}
use Rattle.store_evaluation.specs.Answers.{first_error, Counts, call_slots, term_of, memory_of, Stores}
use Rattle.store_evaluation.specs.Parts.{addresses}
use Rattle.store_evaluation.proofs.Places.{link-in}
use Rattle.store_reading.specs.Reading.{half_end, Part, cell_values}
use Rattle.run_targets.specs.Targets.{ref_cell, RefFits, spot_in, Tells, found, lost, Indexes, Found, Target, Spotted, WordAt, of_module_word, of_call_word, ArrayAt, of_module_array, of_call_array}
use Rattle.run_machine.proofs.Actions.{module-word, call-word, module-element, call-element}
use Rattle.run_targets.proofs.Elements.{cell-most}

-- ---- what a target's word says
module _ (m n : ℕ) (function : Bool) (text : List ℕ) (R : List Head) (C : List ℕ) (base ops i : ℕ) (s : Spot) (j : ℕ) (e : target_in m n function text R C ops i ≡ some (s, j)) where
  pub record WordRead (cell : ℕ) : Type 0 where
    pub w : Ref
    pub fits : RefFits m n w 1
    pub is : s ≡ scalar w
    pub next : j ≡ i + 1
    pub cell-is : cell ≡ ref_cell base w

  pub record ArrayRead (first size : ℕ) : Type 0 where
    pub index : Term
    pub reads : term_in m n C (i + 2) (link_at C (i + 1)) ≡ some index
    pub array : Ref
    pub fits : RefFits m n array size
    pub is : s ≡ element_of array size index
    pub next : j ≡ link_at C (i + 1) + 1
    pub first-is : first ≡ ref_cell base array

  pub word-of-module : op_at C i ≡ ops → (cell : ℕ) → cell ≡ value_at C i → WordRead cell
  unfolding RefFits ref_cell
  word-of-module h cell q =
      let g = module-word m n function text R C ops i s j e h in
      record { w = of_module (value_at C i); fits = omega (arith, g.fits); is = g.is; next = g.next; cell-is = q }

  pub word-of-call : (op_at C i ≡ ops → ⊥) → op_at C i < ops + 2 → (cell : ℕ) → cell ≡ base + value_at C i → WordRead cell
  unfolding RefFits ref_cell
  word-of-call h k cell q =
      let g = call-word m n function text R C ops i s j e h k in
      record { w = of_routine (value_at C i); fits = omega (arith, g.fits); is = g.is; next = g.next; cell-is = q }

  array_of : (index : Term) → term_in m n C (i + 2) (link_at C (i + 1)) ≡ some index → (array : Ref) → RefFits m n array (size_in (value_at C i))
      → s ≡ element_of array (size_in (value_at C i)) index → j ≡ link_at C (i + 1) + 1 → (first size : ℕ) → first ≡ ref_cell base array → size ≡ size_in (value_at C i) → ArrayRead first size
  array_of index reads array fits is next first size q z = record {
    index = index;
    reads = reads;
    array = array;
    fits = subst (RefFits m n array) (sym z) fits;
    is = is ∙ ap (λ (k : ℕ). element_of array k index) (sym z);
    next = next;
    first-is = q;
  }

  pub array-of-module : op_at C i ≡ ops + 2 → (first size : ℕ) → first ≡ first_in (value_at C i) → size ≡ size_in (value_at C i) → ArrayRead first size
  unfolding RefFits ref_cell
  array-of-module h first size q z =
      let g = module-element m n function text R C ops i s j e h in
      array_of g.index g.reads (of_module (first_in (value_at C i))) g.fits g.is g.next first size q z

  pub array-of-call : ops + 2 < op_at C i → (first size : ℕ) → first ≡ base + first_in (value_at C i) → size ≡ size_in (value_at C i) → ArrayRead first size
  unfolding RefFits ref_cell
  array-of-call h first size q z =
      let g = call-element m n function text R C ops i s j e h in
      array_of g.index g.reads (of_routine (first_in (value_at C i))) g.fits g.is g.next first size q z

  pub word_read : (cell : ℕ) → WordAt C base ops i cell → WordRead cell
  word_read cell (of_module_word h q) = word-of-module h cell q
  word_read cell (of_call_word h q) = word-of-call (λ z. omega arith) (omega arith) cell q

  pub array-read : (first size : ℕ) → ArrayAt C base ops i first size → ArrayRead first size
  array-read first size (of_module_array h q z) = array-of-module h first size q z
  array-read first size (of_call_array h q z) = array-of-call (omega arith) first size q z

-- ---- finding it
module _ (c : Counts) (function : Bool) (text : List ℕ) (R : List Head) (code values : List ℕ) (base ops i : ℕ) (s : Spot) (j : ℕ) (e : target_in c.m c.n function text R (cells_of code) ops i ≡ some (s, j)) where
  pub word-tells : (cell : ℕ) → WordRead c.m c.n function text R (cells_of code) base ops i s j e cell → Tells c.m c.n base (spot_in (memory_of c values base) s) (pos cell)
  unfolding spot_in
  word-tells cell g = found g.w (ap (spot_in (memory_of c values base)) g.is) g.fits (ap pos g.cell-is)

  module _ (first size : ℕ) (g : ArrayRead c.m c.n function text R (cells_of code) base ops i s j e first size) where
    pub array-more : i + 2 < link_at (cells_of code) (i + 1)
    array-more = span-grows c.m c.n (cells_of code) (i + 2) (link_at (cells_of code) (i + 1)) g.index g.reads

    module _ (end : ℕ) (p : Part half_end (link_at (cells_of code) (i + 1)) end) where
      reads_at : term_of c code (i + 2) end ≡ some g.index
      reads_at = ap (term_of c code (i + 2)) p.same ∙ g.reads

      pub array-indexes : length code % 8 ≡ 0 → Indexes code base first size i end
      array-indexes w = record { c = c; t = g.index; is = reads_at; whole = w; array = g.array; fits = g.fits; first-is = g.first-is }

      pub array_tells : (r : ℤ) → Found code values base first size i end r → Tells c.m c.n base (spot_in (memory_of c values base) s) r
      unfolding spot_in
      array_tells r f =
          subst (λ (l : Located). Tells c.m c.n base l r) (sym (ap (spot_in (memory_of c values base)) g.is)) (f.is c g.index g.array reads_at g.fits g.first-is)

-- ---- what an answer tells
pub told-less : (m n base : ℕ) (l : Located) (r : ℤ) → Tells m n base l r → lt_z r (pos first_error) ≡ true → (w : Ref) × (l ≡ at w) × RefFits m n w 1 × (r ≡ pos (ref_cell base w))
told-less m n base l r (found w q f z) h = (w, q, f, z)
told-less m n base l r (lost e q f z) h =
    let t : ltb (first_error + e) first_error ≡ true = subst (λ (y : ℤ). lt_z y (pos first_error) ≡ true) z h in
    absurd (omega (arith, ltb-true (first_error + e) first_error t))

pub told-error : (m n base : ℕ) (l : Located) (r : ℤ) → m ≤ first_window → n ≤ call_slots → base < store_words → Tells m n base l r → lt_z r (pos first_error) ≡ false → (e : ℕ) × (l ≡ fails e) × (e < answers) × (r ≡ pos (first_error + e))
told-error m n base l r x y b (lost e q f z) h = (e, q, f, z)
told-error m n base l r x y b (found w q f z) h =
    let t : ltb (ref_cell base w) first_error ≡ false = subst (λ (y : ℤ). lt_z y (pos first_error) ≡ false) z h in
    absurd (omega (arith, ltb-false (ref_cell base w) first_error t, cell-most m n base w 1 f x y))

-- ---- a target whose op is looked at
-- the first cell of an array, the module's or the call's by its op
module _ (base w : ℕ) where
  pub data FirstCell (first : ℕ) : Type 0 where
    in_module : op_in w ≡ a_target + 2 → first ≡ first_in (value_in w) → FirstCell first
    in_call : (op_in w ≡ a_target + 2 → ⊥) → first ≡ base + first_in (value_in w) → FirstCell first

  pub in-module : op_in w ≡ a_target + 2 → FirstCell (first_in (value_in w))
  in-module q = in_module q refl

  pub in-call : (op_in w ≡ a_target + 2 → ⊥) → FirstCell (base + first_in (value_in w))
  in-call q = in_call q refl

  first-cell : (first : ℕ) × FirstCell first
  first-cell = by-same (op_in w) (a_target + 2) (λ q. (first_in (value_in w), in-module q)) (λ q. (base + first_in (value_in w), in-call q))

module _ (code values : List ℕ) (base i : ℕ) (st : Stores values base) (t : Target code i) (w : ℕ) (ew : w ≡ head_at (cells_of code) i) where
  op-is : op_in w ≡ op_at (cells_of code) i
  op-is = ap op_in ew

  pub target-module : op_in w ≡ a_target → w < cell_values → Spotted code values base i (to_z w64 (value_in w))
  target-module h b =
      rw (to_z_pos w64 (value_in w) (omega arith)) (record {
        is = λ c f x R s j e.
            word-tells c f x R code values base a_target i s j e (value_in w)
            (word-of-module c.m c.n f x R (cells_of code) base a_target i s j e (sym op-is ∙ h) (value_in w) (ap value_in ew));
      })

  pub target-call : (op_in w ≡ a_target → ⊥) → op_in w ≤ a_target + 1 → w < cell_values → length values < addresses → Spotted code values base i (to_z w64 (base + value_in w))
  target-call h k b l =
      rw (to_z_pos w64 (base + value_in w) (omega (arith, st.call))) (record {
        is = λ c f x R s j e.
            word-tells c f x R code values base a_target i s j e (base + value_in w)
            (word-of-call c.m c.n f x R (cells_of code) base a_target i s j e (λ q. h (op-is ∙ q)) (omega (arith, op-is)) (base + value_in w) (ap (λ (x : ℕ). base + value_in x) ew));
      })

  module _ (k : a_target + 1 < op_in w) where
    array_at : (first : ℕ) → FirstCell base w first → (c : Counts) (f : Bool) (x : List ℕ) (R : List Head) (s : Spot) (j : ℕ) (e : target_in c.m c.n f x R (cells_of code) a_target i ≡ some (s, j))
        → ArrayRead c.m c.n f x R (cells_of code) base a_target i s j e first (size_in (value_in w))
    array_at first (in_module q a) c f x R s j e =
        array-of-module c.m c.n f x R (cells_of code) base a_target i s j e (sym op-is ∙ q) first (size_in (value_in w)) (a ∙ ap (λ (y : ℕ). first_in (value_in y)) ew) (ap (λ (y : ℕ). size_in (value_in y)) ew)
    array_at first (in_call q a) c f x R s j e =
        array-of-call c.m c.n f x R (cells_of code) base a_target i s j e (omega (arith, op-is, q)) first (size_in (value_in w)) (a ∙ ap (λ (y : ℕ). base + first_in (value_in y)) ew) (ap (λ (y : ℕ). size_in (value_in y)) ew)

    pub target-link : (i + 1) * 8 + 8 ≤ length code
    target-link =
        let a = first-cell base w in
        link-in code (i + 1) t.whole
        (λ z. omega (
          arith,
          array-more t.c t.function t.text t.R code values base a_target i t.s t.next t.reads a.0 (size_in (value_in w))
              (array_at a.0 a.1 t.c t.function t.text t.R t.s t.next t.reads),
        ))

    module _ (end : ℕ) (p : Part half_end (link_at (cells_of code) (i + 1)) end) (first : ℕ) (a : FirstCell base w first) where
      pub target-indexes : Indexes code base first (size_in (value_in w)) i end
      target-indexes =
          array-indexes t.c t.function t.text t.R code values base a_target i t.s t.next t.reads first (size_in (value_in w))
          (array_at first a t.c t.function t.text t.R t.s t.next t.reads) end p t.whole

      pub target-element : (r : ℤ) → SFits w64 r → Found code values base first (size_in (value_in w)) i end r → Spotted code values base i (read r)
      target-element r s f = rw (to_z-of_z s) (record {
        is = λ c g x R y j e. array_tells c g x R code values base a_target i y j e first (size_in (value_in w)) (array_at first a c g x R y j e) end p r f;
      })
