-- Stores: what stands behind a target goes to its cell.
use mathlib.Core.Path.{◌≡◌, refl, sym, ap, ap₂, subst, ◌∙◌}
use mathlib.Core.Bool.{true, false}
use mathlib.Core.List.{List}
use mathlib.Core.Option.{some}
use Prim.Native.Nat.{ℕ, ◌+◌, ◌*◌, ◌%◌, ◌<◌, ◌≤◌}
use native.Mathlib.Omega.{arith}
use lib.ListN.{length, get_or, set}
use lib.IntN.{ℤ, pos}
use lib.Signed.{lt_z}
use mir.Syntax.{w32, w64}
use mir.Val.{Fits, SFits, to_z, of_z}
use mir.Facts.{to_z-of_z}
use mir.ValLaws.{to_z_pos}
use Rattle.paper.specs.Numbers.{Value}
use Rattle.paper.specs.Terms.{Term, Memory, at, worth}
use Rattle.paper.specs.Steps.{Spot}
use Rattle.paper.specs.Steps as action
use Rattle.paper.specs.States.{location_of, State, Rooms, Effect, made, go_to, on_top, store_at, memory_of, with_value}
use Rattle.paper.specs.Running.{perform}
use Rattle.store_cells.specs.Cells.{cells_of}
use Rattle.store_numbers.proofs.Whole.{read}
use Rattle.code.specs.Cells.{op_at, link_at, window_of}
use Rattle.code.specs.Spans.{term_in, memory_in}
use Rattle.code.specs.Steps.{a_target, a_call_target}
use Rattle.code.specs.Closed.{is_named}
use Rattle.code.proofs.Options.{same_some}
use Rattle.code.proofs.Spanning.{span-grows}
use Rattle.store_evaluation.specs.Answers.{first_error, Stores, Stands, Evaluated}
use Rattle.store_evaluation.proofs.Places.{op-in, link-in}
use Rattle.store_reading.specs.Reading.{half_end, Part, Stored}
use Rattle.run_machine.specs.Machine.{Here, Comes, goes_on, effect_at}
use Rattle.run_machine.specs.Live.{Live}
use Rattle.run_targets.specs.Targets.{ref_cell, spot_in, Aims, Assigns, Assigned}
use Rattle.run_machine.proofs.Actions.{op-low, reads-store}
use Rattle.run_machine.proofs.Current as here
use Rattle.run_machine.proofs.States.{roomy, goes_to}
use Rattle.run_machine.proofs.Living.{live-next}
use Rattle.run_targets.proofs.References.{spot-found, ref-inside, ref-word, ref-live, ref-kept}

-- the memory that a step reads, with its window at `base`
pub memory-is : (code values : List ℕ) (base i : ℕ) (h : Here code values base i) (rooms : Rooms) (steps : ℕ) (out : List ℕ)
    → memory_of (here.state_here code values base i h rooms steps out) (here.call_here code values base i h rooms steps out) ≡ memory_in (here.m code values base i h) (here.n code values base i h) (cells_of values) base
memory-is code values base i h rooms steps out =
    here.memory-here code values base i h rooms steps out ∙ sym (ap (memory_in (here.m code values base i h) (here.n code values base i h) (cells_of values)) h.base-is)

module _ (code values : List ℕ) (base i next cell : ℕ) where
  -- what the step at i says, where its target is known
  pub record Storing (h : Here code values base i) (a : Aims code values base i h a_target cell next) : Type 0 where
    pub e : Term
    pub reads : term_in (here.m code values base i h) (here.n code values base i h) (cells_of code) (next + 1) (link_at (cells_of code) next) ≡ some e
    pub after_is : (here.step_here code values base i h).after ≡ link_at (cells_of code) i
    pub does-is : (here.step_here code values base i h).does ≡ action.store a.s e

  module _ (h : Here code values base i) (op : op_at (cells_of code) i < a_call_target) (a : Aims code values base i h a_target cell next) where
    pub storing : Storing h a
    storing =
        let m = here.m code values base i h in
        let n = here.n code values base i h in
        let f = (here.code_here code values base i h).function in
        let s = here.step_here code values base i h in
        let act = here.action-here code values base i h in
        let g = reads-store m n f h.text h.R (cells_of code) i s.after s.does act (op-low m n f h.text h.R (cells_of code) i s.after s.does act) op in
        let q : ◌≡◌ {A = Spot × ℕ} (g.s, g.j) (a.s, next) = same_some (g.s, g.j) (a.s, next) (sym g.target ∙ a.reads) in
        let qs : g.s ≡ a.s = ap (λ (y : Spot × ℕ). y.0) q in
        let qj : g.j ≡ next = ap (λ (y : Spot × ℕ). y.1) q in
        record {
          e = g.e;
          reads = sym (ap (λ (j : ℕ). term_in m n (cells_of code) (j + 1) (link_at (cells_of code) j)) qj) ∙ g.reads;
          after_is = g.after_is;
          does-is = g.does-is ∙ ap (λ (y : Spot). action.store y g.e) qs;
        }

  module _ (asg : Assigns code values base i next cell) where
    st : Storing asg.here asg.aims
    st = storing asg.here asg.op asg.aims

    whole : length code % 8 ≡ 0
    whole = here.whole_here code values base i asg.here

    link-more : next + 1 < link_at (cells_of code) next
    link-more = span-grows (here.m code values base i asg.here) (here.n code values base i asg.here) (cells_of code) (next + 1) (link_at (cells_of code) next) st.e st.reads

    pub next-inside : next * 8 + 8 ≤ length code
    next-inside = link-in code next whole (λ z. omega (arith, link-more))

    pub next_fits : Fits w64 (next + 1)
    next_fits = record { fits = omega (arith, next-inside, asg.here.code-size) }

    pub assign-stores : Stores values base
    assign-stores = here.stores-here code values base i asg.here

    pub assign-stands : (l : ℕ) → Part half_end (link_at (cells_of code) next) l → Stands code (next + 1) l
    assign-stands l p =
        here.stands_here code values base i asg.here (next + 1) l st.e
        (ap (term_in (here.m code values base i asg.here) (here.n code values base i asg.here) (cells_of code) (next + 1)) p.same ∙ st.reads)

    cell_at : cell ≡ ref_cell (window_of asg.here.d) asg.aims.w
    cell_at = asg.aims.cell-is ∙ ap (λ (b : ℕ). ref_cell b asg.aims.w) asg.here.base-is

    pub cell-inside : cell * 4 + 4 ≤ length values
    cell-inside =
        omega (arith, cell_at, asg.here.values-size, ref-inside asg.here.P asg.here.R (cells_of values) asg.here.d (roomy asg.here) asg.aims.w asg.aims.fits)

    pub value-small : (l : ℕ) (v : ℤ) → SFits w64 v → Evaluated code values base (next + 1) l v → lt_z (read v) (pos first_error) ≡ true → SFits w32 (read v)
    value-small l v s e t = rw (to_z-of_z s) (e.small (rw (to_z-of_z s) at t))

    pub step-inside : i * 8 + 8 ≤ length code
    step-inside =
        let m = here.m code values base i asg.here in
        let n = here.n code values base i asg.here in
        let f = (here.code_here code values base i asg.here).function in
        let s = here.step_here code values base i asg.here in
        op-in code i whole (λ z. omega (arith, op-low m n f asg.here.text asg.here.R (cells_of code) i s.after s.does (here.action-here code values base i asg.here)))

    module _ (l : ℕ) (p : Part half_end (link_at (cells_of code) next) l) (v : ℤ) (s : SFits w64 v) (ev : Evaluated code values base (next + 1) l v) where
      effect_is : (h : Here code values base i) (a : Aims code values base i h a_target cell next) (rooms : Rooms) (steps : ℕ) (out : List ℕ)
          → effect_at h.P h.R rooms (cells_of values) h.d i steps out
          ≡ with_value (worth (memory_of (here.state_here code values base i h rooms steps out) (here.call_here code values base i h rooms steps out)) (storing h asg.op a).e) (here.state_here code values base i h rooms steps out)
          (λ z. made (on_top (go_to (link_at (cells_of code) i)) (store_at (location_of (length (here.state_here code values base i h rooms steps out).calls) a.w) z (here.state_here code values base i h rooms steps out))))
      unfolding perform
      effect_is h a rooms steps out =
          let t = storing h asg.op a in
          let S = here.state_here code values base i h rooms steps out in
          let M = memory_of S (here.call_here code values base i h rooms steps out) in
          here.effect-here code values base i h rooms steps out (link_at (cells_of code) i) (action.store a.s t.e) t.after_is t.does-is
          ∙ spot-found M S (λ w. with_value (worth M t.e) S (λ z. made (on_top (go_to (link_at (cells_of code) i)) (store_at w z S)))) a.s a.w
          (ap (λ (N : Memory). spot_in N a.s) (memory-is code values base i h rooms steps out) ∙ a.is)

      reads_at : (h : Here code values base i) (a : Aims code values base i h a_target cell next)
          → term_in (here.m code values base i h) (here.n code values base i h) (cells_of code) (next + 1) l ≡ some (storing h asg.op a).e
      reads_at h a = ap (term_in (here.m code values base i h) (here.n code values base i h) (cells_of code) (next + 1)) p.same ∙ (storing h asg.op a).reads

      pub assign-fails : lt_z (read v) (pos first_error) ≡ false → Assigned code values base i next cell values (read v)
      assign-fails t = rw (to_z-of_z s) (record {
        long = refl;
        kept = λ c x y. refl;
        does = λ h a rooms steps out.
            here.failed-here code values base i h rooms steps out (next + 1) l (storing h asg.op a).e (reads_at h a) v ev (rw (to_z-of_z s) at t)
            (λ z. made (on_top (go_to (link_at (cells_of code) i)) (store_at (location_of (length (here.state_here code values base i h rooms steps out).calls) a.w) z (here.state_here code values base i h rooms steps out))))
            (effect_at h.P h.R rooms (cells_of values) h.d i steps out) (effect_is h a rooms steps out);
      })

      module _ (t : lt_z (read v) (pos first_error) ≡ true) (after : List ℕ) (sd : Stored values after cell (read v)) where
        value-is : lt_z v (pos first_error) ≡ true
        value-is = rw (to_z-of_z s) at t

        small : SFits w32 v
        small = ev.small value-is

        after_is : (h : Here code values base i) (a : Aims code values base i h a_target cell next) → cells_of after ≡ set (cells_of values) (ref_cell (window_of h.d) a.w) (of_z w32 v)
        after_is h a =
            sd.words ∙ ap₂ (λ (c : ℕ) (z : ℤ). set (cells_of values) c (of_z w32 z)) (a.cell-is ∙ ap (λ (b : ℕ). ref_cell b a.w) h.base-is) (to_z-of_z s)

        pub assign-done : (k : ℕ) → Part half_end (link_at (cells_of code) i) k → Assigned code values base i next cell after (to_z w64 k)
        unfolding with_value
        assign-done k pk = rw (to_z_pos w64 k (omega (arith, pk.small))) (record {
          long = sd.long;
          kept = λ c x y.
              let h = asg.here in
              subst (λ (Y : List ℕ). get_or Y c 0 ≡ get_or (cells_of values) c 0) (sym (after_is h asg.aims))
              (ref-kept h.P h.R (cells_of values) h.d (roomy h) asg.aims.w asg.aims.fits (of_z w32 v) c x y);
          does = λ h a rooms steps out.
              let X = cells_of values in
              let w = a.w in
              let Y = set X (ref_cell (window_of h.d) w) (of_z w32 v) in
              let S = here.state_here code values base i h rooms steps out in
              let q = storing h asg.op a in
              let g = roomy h in
              let go : ℤ → Effect = λ z. made (on_top (go_to (link_at (cells_of code) i)) (store_at (location_of (length S.calls) w) z S)) in
              let live : Live h.P h.R X h.d k =
              live-next h.P h.R X h.d i k h.live (subst (λ (j : ℕ). is_named (here.code_here code values base i h).steps j ≡ true) (q.after_is ∙ sym pk.same) (here.named-after code values base i h)) in
              subst (λ (Z : List ℕ). Comes h.P h.R (cells_of code) h.offset h.d i steps X Z out out (effect_at h.P h.R rooms X h.d i steps out) (pos k)) (sym (after_is h a))
              (goes_on k refl (ref-live h.P h.R X h.d g w a.fits (of_z w32 v) k live)
              (effect_is h a rooms steps out
              ∙ ap (λ (y : Value). with_value y S go) (here.value-here code values base i h rooms steps out (next + 1) l q.e (reads_at h a) v ev value-is)
              ∙ ap made (ap₂ (λ (j : ℕ) (T : State). on_top (go_to j) T) (sym pk.same)
              (ap (λ (z : ℤ). store_at (location_of (length S.calls) w) z S) (sym (to_z-of_z small)) ∙ sym (ref-word h.P h.R X h.d g w a.fits (of_z w32 v) i steps out))
              ∙ sym (goes_to h.P h.R Y h.d i steps out k))));
        })
