-- Returns: the caller goes on after the call that it waited for, with the result where it goes.
use mathlib.Core.Path.{◌≡◌, refl, sym, ap, ap₂, subst, ◌∙◌}
use mathlib.Core.Bool.{Bool, true, false}
use mathlib.Core.List.{List}
use mathlib.Core.Option.{Option, none, some}
use Prim.Native.Nat.{ℕ, suc, ◌+◌, ◌-◌, ◌*◌, ◌<◌, ◌≤◌}
use native.Mathlib.Omega.{arith}
use lib.ListN.{length, get_or, set}
use lib.IntN.{ℤ, pos}
use lib.Signed.{le_z}
use mir.Syntax.{w32, w64}
use mir.Val.{SFits, to_z, of_z}
use mir.Facts.{to_z-of_z}
use mir.ValLaws.{to_z_pos}
use Rattle.laws.proofs.Tests.{by-same}
use Rattle.std.specs.Prelude.{if◌then◌else◌}
use Rattle.paper.specs.Numbers.{Value}
use Rattle.paper.specs.Terms.{Ref, of_module, of_routine, worth}
use Rattle.paper.specs.Steps as action
use Rattle.paper.specs.States.{Location, location_of, Call, State, Rooms, Effect, made, ending, store_at, memory_of, with_value}
use Rattle.paper.specs.Running.{perform, store_result, returning, ending_list}
use Rattle.store_cells.specs.Cells.{cells_of, Got}
use Rattle.store_numbers.proofs.Whole.{read}
use Rattle.code.specs.Cells.{window_of, first_window, window_cells}
use Rattle.code.specs.Spans.{term_in}
use Rattle.code.specs.Closed.{is_named}
use Rattle.code.specs.Windows.{waits_cell, after_cell, result_cell, result_in, call_in, waiting, state_in}
use Rattle.store_evaluation.specs.Answers.{first_error, Stands, Evaluated}
use Rattle.store_reading.specs.Reading.{Stored}
use Rattle.run_machine.specs.Live.{slots_of_call, cell_of_call, code_of_call, ResultFits, nowhere, in_module, in_caller, Waits, Live}
use Rattle.layout.specs.declared.endings.Ending.TheVariants.{MainReturned}
use Rattle.run_machine.specs.Machine.{Here, Comes, leaves, ends, effect_at, KeepsRun, Performs, Says}
use Rattle.run_targets.specs.Targets.{ref_cell, RefFits}
use Rattle.run_returns.specs.Returning.{Gave, Returns, by_return, by_end}
use Rattle.run_machine.proofs.Actions.{reads-return-of, reads-return, reads_end, end-function}
use Rattle.run_machine.proofs.Actions as reads
use Rattle.run_machine.proofs.Current as here
use Rattle.run_machine.proofs.States.{Roomy, roomy, depth_is, left-state}
use Rattle.run_machine.proofs.Living.{live-next, live-left}
use Rattle.run_machine.proofs.Elsewhere.{caller}
use Rattle.code.specs.Steps.{a_return_of}
use Rattle.layout.specs.Answers.{ended, left}
use Rattle.layout.specs.Rules.{main_returned}
use Rattle.paper.specs.Words.{word_limit}
use Rattle.run_targets.proofs.References.{ref-inside, ref-word, ref-live, ref-kept, ref-location}

-- ---- the caller
module _ (code values : List ℕ) (base i : ℕ) (h : Here code values base i) (e : ℕ) (de : h.d ≡ suc e) where
  waits : Waits h.P h.R (cells_of values) e
  waits = (live-left h.P h.R (cells_of values) h.d e i de h.live).0

  -- the stores with the caller as the newest call, at the call that it waits for
  abbrev pub caller-here : Here code values (window_of e) (cell_of_call h.P h.R (cells_of values) e waits_cell)
  caller-here = caller h e de (window_of e) (cell_of_call h.P h.R (cells_of values) e waits_cell) refl refl

  -- its next step
  after-named : is_named (code_of_call h.P h.R (cells_of values) e).steps (cell_of_call h.P h.R (cells_of values) e after_cell) ≡ true
  after-named =
      ap (is_named (code_of_call h.P h.R (cells_of values) e).steps) waits.after
      ∙ here.named-after code values (window_of e) (cell_of_call h.P h.R (cells_of values) e waits_cell) caller-here

  pub after_small : cell_of_call h.P h.R (cells_of values) e after_cell < word_limit
  after_small = (here.small-name code values (window_of e) (cell_of_call h.P h.R (cells_of values) e waits_cell) caller-here (cell_of_call h.P h.R (cells_of values) e after_cell) after-named).1

  live_back : Live h.P h.R (cells_of values) e (cell_of_call h.P h.R (cells_of values) e after_cell)
  live_back =
      live-next h.P h.R (cells_of values) e (cell_of_call h.P h.R (cells_of values) e waits_cell) (cell_of_call h.P h.R (cells_of values) e after_cell) caller-here.live after-named

  room_back : Roomy h.P (cells_of values) e
  room_back = roomy caller-here

  -- what a return does, by where its result goes
  returned : (r : Option ℤ) (steps : ℕ) (out : List ℕ) (c : Call)
      → returning h.P c (waiting h.P h.R (cells_of values) h.d) r (state_in h.P h.R (cells_of values) h.d i steps out)
      ≡ made (store_result c.result r (state_in h.P h.R (cells_of values) e (cell_of_call h.P h.R (cells_of values) e after_cell) steps out))
  unfolding returning waiting
  returned r steps out c =
      ap (λ (x : ℕ). returning h.P c (waiting h.P h.R (cells_of values) x) r (state_in h.P h.R (cells_of values) x i steps out)) de
      ∙ ap (λ (S : State). made (store_result c.result r S)) (sym (left-state h.P h.R (cells_of values) e i steps out waits))

  -- ---- where its result goes
  data Goes (cell : ℕ) : Type 0 where
    away : cell ≡ 0 → Goes cell
    to : (w : Ref) → RefFits (length h.P.words) (slots_of_call (code_of_call h.P h.R (cells_of values) e)) w 1 → cell ≡ suc (ref_cell (window_of e) w) → Goes cell

  goes_of : (cell : ℕ) → ResultFits h.P h.R (cells_of values) (suc e) cell → Goes cell
  unfolding RefFits ref_cell
  goes_of cell (nowhere z) = away z
  goes_of cell (in_module k f z) = to (of_module k) (omega arith) z
  goes_of cell (in_caller c k q f z) =
      let y : c ≡ e = omega arith in
      to (of_routine k) (subst (λ (x : ℕ). k + 1 ≤ slots_of_call (code_of_call h.P h.R (cells_of values) x)) y (omega arith)) (z ∙ ap (λ (x : ℕ). suc (window_of x + k)) y)

  abbrev pub result-cell : ℕ
  result-cell = get_or (cells_of values) (base + result_cell) 0

  goes : Goes result-cell
  goes =
      goes_of (get_or (cells_of values) (base + result_cell) 0)
      (subst (λ (b : ℕ). ResultFits h.P h.R (cells_of values) (suc e) (get_or (cells_of values) (b + result_cell) 0)) (sym h.base-is)
      (subst (λ (x : ℕ). ResultFits h.P h.R (cells_of values) x (cell_of_call h.P h.R (cells_of values) h.d result_cell)) de h.live.top.result))

  result-is : (call_in h.P h.R (cells_of values) (window_of h.d) i).result ≡ result_in h.P h.R (cells_of values) result-cell
  unfolding call_in
  result-is = ap (λ (b : ℕ). result_in h.P h.R (cells_of values) (get_or (cells_of values) (b + result_cell) 0)) (sym h.base-is)

  cell-fits : Goes result-cell → result-cell * 4 ≤ length values
  cell-fits (away z) = omega arith
  cell-fits (to w f z) = omega (arith, h.values-size, ref-inside h.P h.R (cells_of values) e room_back w f)

  pub result-inside : (c : ℕ) → c ≡ get_or (cells_of values) (base + result_cell) 0 → c * 4 ≤ length values
  result-inside c q = subst (λ (x : ℕ). x * 4 ≤ length values) (sym q) (cell-fits goes)

  -- a value stored there
  module _ (after : List ℕ) (v : ℤ) (s : SFits w32 v) (gv : Gave values after result-cell v) where
    pub record Placed : Type 0 where
      pub live : Live h.P h.R (cells_of after) e (cell_of_call h.P h.R (cells_of values) e after_cell)
      pub state : (steps : ℕ) (out : List ℕ) → store_result (result_in h.P h.R (cells_of values) result-cell) (some v) (state_in h.P h.R (cells_of values) e (cell_of_call h.P h.R (cells_of values) e after_cell) steps out)
          ≡ state_in h.P h.R (cells_of after) e (cell_of_call h.P h.R (cells_of values) e after_cell) steps out
      pub kept : KeepsRun (cells_of values) (cells_of after)

    placed_of : Goes result-cell → Placed
    unfolding store_result result_in
    placed_of (away z) =
        let q : cells_of after ≡ cells_of values = ap cells_of (gv.same z) in
        record {
          live = subst (λ (X : List ℕ). Live h.P h.R X e (cell_of_call h.P h.R (cells_of values) e after_cell)) (sym q) live_back;
          state = λ steps out.
              ap (λ (x : ℕ). store_result (result_in h.P h.R (cells_of values) x) (some v) (state_in h.P h.R (cells_of values) e (cell_of_call h.P h.R (cells_of values) e after_cell) steps out)) z
              ∙ ap (λ (X : List ℕ). state_in h.P h.R X e (cell_of_call h.P h.R (cells_of values) e after_cell) steps out) (sym q);
          kept = λ c x y. ap (λ (X : List ℕ). get_or X c 0) q;
        }
    placed_of (to w f z) =
        let X = cells_of values in
        let n = cell_of_call h.P h.R X e after_cell in
        let q : cells_of after ≡ set X (ref_cell (window_of e) w) (of_z w32 v) = (gv.stored (ref_cell (window_of e) w) z).words in
        record {
          live = subst (λ (Y : List ℕ). Live h.P h.R Y e n) (sym q) (ref-live h.P h.R X e room_back w f (of_z w32 v) n live_back);
          state = λ steps out.
              let S = state_in h.P h.R X e n steps out in
              ap (λ (x : ℕ). store_result (result_in h.P h.R X x) (some v) S) z
              ∙ ap₂ (λ (l : Location) (y : ℤ). store_at l y S) (ref-location h.P h.R X e room_back w f ∙ ap (λ (x : ℕ). location_of x w) (sym (depth_is h.P h.R X e n steps out))) (sym (to_z-of_z s))
              ∙ sym (ref-word h.P h.R X e room_back w f (of_z w32 v) n steps out)
              ∙ ap (λ (Y : List ℕ). state_in h.P h.R Y e n steps out) (sym q);
          kept = λ c x y. ap (λ (Y : List ℕ). get_or Y c 0) q ∙ ref-kept h.P h.R X e room_back w f (of_z w32 v) c x y;
        }

    pub placed : Placed
    placed = placed_of goes

  -- the cell of the caller's next step
  next-is : (n : ℕ) → n ≡ get_or (cells_of values) (base - window_cells + after_cell) 0 → n ≡ cell_of_call h.P h.R (cells_of values) e after_cell
  next-is n q = q ∙ ap (λ (c : ℕ). get_or (cells_of values) c 0) at
    where
      at : base - window_cells + after_cell ≡ window_of e + after_cell
      at = omega (arith, h.base-is, de)

  module _ (n : ℕ) (q : n ≡ get_or (cells_of values) (base - window_cells + after_cell) 0) where
    step_fits : to_z w64 (left + n) ≡ pos (left + n)
    step_fits = to_z_pos w64 (left + n) (omega (arith, next-is n q, after_small))

    -- ---- a return with nothing
    pub leaves-plain : (E : Effect) (steps : ℕ) (out : List ℕ) (c : Call) → E ≡ returning h.P c (waiting h.P h.R (cells_of values) h.d) none (state_in h.P h.R (cells_of values) h.d i steps out)
        → Comes h.P h.R (cells_of code) h.offset h.d i steps (cells_of values) (cells_of values) out out E (to_z w64 (left + n))
    unfolding store_result
    leaves-plain E steps out c z =
        rw step_fits (leaves e n refl de (subst (Live h.P h.R (cells_of values) e) (sym (next-is n q)) live_back)
        (z ∙ returned none steps out c ∙ nothing c.result
        ∙ ap (λ (x : ℕ). made (state_in h.P h.R (cells_of values) e x steps out)) (sym (next-is n q))))
      where
        nothing : (l : Option Location) → made (store_result l none (state_in h.P h.R (cells_of values) e (cell_of_call h.P h.R (cells_of values) e after_cell) steps out))
            ≡ made (state_in h.P h.R (cells_of values) e (cell_of_call h.P h.R (cells_of values) e after_cell) steps out)
        nothing none = refl
        nothing (some l) = refl

    -- ---- a return with a value
    pub leaves-with : (after : List ℕ) (v : ℤ) (s : SFits w32 v) (gv : Gave values after result-cell v) (E : Effect) (steps : ℕ) (out : List ℕ)
        → E ≡ returning h.P (call_in h.P h.R (cells_of values) (window_of h.d) i) (waiting h.P h.R (cells_of values) h.d) (some v) (state_in h.P h.R (cells_of values) h.d i steps out)
        → Comes h.P h.R (cells_of code) h.offset h.d i steps (cells_of values) (cells_of after) out out E (to_z w64 (left + n))
    leaves-with after v s gv E steps out z =
        let t = placed after v s gv in
        rw step_fits (leaves e n refl de (subst (Live h.P h.R (cells_of after) e) (sym (next-is n q)) t.live)
        (z ∙ returned (some v) steps out (call_in h.P h.R (cells_of values) (window_of h.d) i)
        ∙ ap (λ (l : Option Location). made (store_result l (some v) (state_in h.P h.R (cells_of values) e (cell_of_call h.P h.R (cells_of values) e after_cell) steps out))) result-is
        ∙ ap made (t.state steps out)
        ∙ ap (λ (x : ℕ). made (state_in h.P h.R (cells_of after) e x steps out)) (sym (next-is n q))))

-- ---- the steps
module _ (code values : List ℕ) (base i : ℕ) where
  -- who has a caller
  no-caller : (h : Here code values base i) → base ≡ first_window → h.d ≡ 0
  no-caller h q = omega (arith, h.base-is)

  has-caller : (h : Here code values base i) → (base ≡ first_window → ⊥) → h.d ≡ suc (h.d - 1)
  has-caller h q = by-same h.d 0 (λ z. absurd (q (omega (arith, h.base-is)))) (λ z. omega (arith, z))

  -- main returns
  main_returns : (h : Here code values base i) → base ≡ first_window → (E : Effect) (r : Option ℤ) (steps : ℕ) (out : List ℕ) (c : Call)
      → E ≡ returning h.P c (waiting h.P h.R (cells_of values) h.d) r (state_in h.P h.R (cells_of values) h.d i steps out)
      → Comes h.P h.R (cells_of code) h.offset h.d i steps (cells_of values) (cells_of values) out out E (pos (ended + main_returned))
  unfolding returning waiting
  main_returns h q E r steps out c z =
      ends MainReturned refl refl refl refl (z ∙ ap (λ (x : ℕ). returning h.P c (waiting h.P h.R (cells_of values) x) r (state_in h.P h.R (cells_of values) h.d i steps out)) (no-caller h q))

  -- ---- with nothing
  module _ (rt : Returns (cells_of code) i) where
    plain-effect : (h : Here code values base i) (rooms : Rooms) (steps : ℕ) (out : List ℕ) → Returns (cells_of code) i
        → effect_at h.P h.R rooms (cells_of values) h.d i steps out
        ≡ returning h.P (here.call_here code values base i h rooms steps out) (waiting h.P h.R (cells_of values) h.d) none (here.state_here code values base i h rooms steps out)
    unfolding perform ending_list call_in
    plain-effect h rooms steps out (by_return q) =
        let s = here.step_here code values base i h in
        let g = reads-return (here.m code values base i h) (here.n code values base i h) (here.code_here code values base i h).function h.text h.R (cells_of code) i s.after s.does (here.action-here code values base i h) q in
        here.effect-here code values base i h rooms steps out s.after (action.give_back none) refl g.does-is
    plain-effect h rooms steps out (by_end q) =
        let s = here.step_here code values base i h in
        let g = reads_end (here.m code values base i h) (here.n code values base i h) (here.code_here code values base i h).function h.text h.R (cells_of code) i s.after s.does (here.action-here code values base i h) q in
        let f = end-function (here.m code values base i h) (here.n code values base i h) (here.code_here code values base i h).function h.text h.R (cells_of code) i s.after s.does (here.action-here code values base i h) q in
        let S = here.state_here code values base i h rooms steps out in
        here.effect-here code values base i h rooms steps out s.after action.end_list refl g.does-is
        ∙ ap (λ (b : Bool). if b then ending 4 S else returning h.P (here.call_here code values base i h rooms steps out) (waiting h.P h.R (cells_of values) h.d) none S) f

    pub back-main : base ≡ first_window → Performs code values values base i (pos (ended + main_returned))
    back-main q = record {
      long = refl;
      kept = λ c x y. refl;
      does = λ h rooms steps out.
          main_returns h q (effect_at h.P h.R rooms (cells_of values) h.d i steps out) none steps out (here.call_here code values base i h rooms steps out) (plain-effect h rooms steps out rt);
    }

    pub back-caller : (base ≡ first_window → ⊥) → (n : ℕ) → Got values (base - window_cells + after_cell) n → Performs code values values base i (to_z w64 (left + n))
    back-caller q n z = record {
      long = refl;
      kept = λ c x y. refl;
      does = λ h rooms steps out.
          leaves-plain code values base i h (h.d - 1) (has-caller h q) n z (effect_at h.P h.R rooms (cells_of values) h.d i steps out) steps out (here.call_here code values base i h rooms steps out)
          (plain-effect h rooms steps out rt);
    }

  -- ---- with a value
  module _ (t : ℕ) (sy : Says code i a_return_of t) where
    value_read : (h : Here code values base i)
        → reads.Expression (here.m code values base i h) (here.n code values base i h) (here.code_here code values base i h).function h.text h.R (cells_of code) i (here.step_here code values base i h).after (here.step_here code values base i h).does (λ x. action.give_back (some x))
    value_read h =
        let s = here.step_here code values base i h in
        reads-return-of (here.m code values base i h) (here.n code values base i h) (here.code_here code values base i h).function h.text h.R (cells_of code) i s.after s.does (here.action-here code values base i h) sy.op-is

    term-at : (h : Here code values base i) → term_in (here.m code values base i h) (here.n code values base i h) (cells_of code) (i + 1) t ≡ some (value_read h).e
    term-at h = ap (term_in (here.m code values base i h) (here.n code values base i h) (cells_of code) (i + 1)) sy.value-is ∙ (value_read h).reads

    pub return-stands : Here code values base i → Stands code (i + 1) t
    return-stands h = here.stands_here code values base i h (i + 1) t (value_read h).e (term-at h)

    go : (h : Here code values base i) (rooms : Rooms) (steps : ℕ) (out : List ℕ) → ℤ → Effect
    go h rooms steps out z = returning h.P (here.call_here code values base i h rooms steps out) (waiting h.P h.R (cells_of values) h.d) (some z) (here.state_here code values base i h rooms steps out)

    value_effect : (h : Here code values base i) (rooms : Rooms) (steps : ℕ) (out : List ℕ)
        → effect_at h.P h.R rooms (cells_of values) h.d i steps out
        ≡ with_value (worth (memory_of (here.state_here code values base i h rooms steps out) (here.call_here code values base i h rooms steps out)) (value_read h).e) (here.state_here code values base i h rooms steps out) (go h rooms steps out)
    unfolding perform go
    value_effect h rooms steps out = here.effect-here code values base i h rooms steps out (here.step_here code values base i h).after (action.give_back (some (value_read h).e)) refl (value_read h).does-is

    module _ (v : ℤ) (s : SFits w64 v) (ev : Evaluated code values base (i + 1) t v) where
      pub return-fails : le_z (pos first_error) (read v) ≡ true → Performs code values values base i (read v)
      return-fails k = rw (to_z-of_z s) (record {
        long = refl;
        kept = λ c x y. refl;
        does = λ h rooms steps out.
            here.failed-here code values base i h rooms steps out (i + 1) t (value_read h).e (term-at h) v ev (here.told-error v s k) (go h rooms steps out)
            (effect_at h.P h.R rooms (cells_of values) h.d i steps out) (value_effect h rooms steps out);
      })

      module _ (k : le_z (pos first_error) (read v) ≡ false) where
        small : SFits w32 v
        small = ev.small (here.told-value v s k)

        pub return-small : SFits w32 (read v)
        return-small = rw (to_z-of_z s) small

        given-effect : (h : Here code values base i) (rooms : Rooms) (steps : ℕ) (out : List ℕ)
            → effect_at h.P h.R rooms (cells_of values) h.d i steps out
            ≡ returning h.P (here.call_here code values base i h rooms steps out) (waiting h.P h.R (cells_of values) h.d) (some v) (here.state_here code values base i h rooms steps out)
        unfolding with_value go
        given-effect h rooms steps out =
            value_effect h rooms steps out
            ∙ ap (λ (y : Value). with_value y (here.state_here code values base i h rooms steps out) (go h rooms steps out)) (here.value-here code values base i h rooms steps out (i + 1) t (value_read h).e (term-at h) v ev (here.told-value v s k))

        pub return-main : base ≡ first_window → Performs code values values base i (pos (ended + main_returned))
        return-main q = record {
          long = refl;
          kept = λ c x y. refl;
          does = λ h rooms steps out.
              main_returns h q (effect_at h.P h.R rooms (cells_of values) h.d i steps out) (some v) steps out (here.call_here code values base i h rooms steps out) (given-effect h rooms steps out);
        }

        module _ (q : base ≡ first_window → ⊥) (cell : ℕ) (ec : Got values (base + result_cell) cell) where
          pub return-inside : Here code values base i → cell * 4 ≤ length values
          return-inside h = result-inside code values base i h (h.d - 1) (has-caller h q) cell ec

          pub return-done : Here code values base i → (n : ℕ) → Got values (base - window_cells + after_cell) n → (after : List ℕ) → Gave values after cell (read v) → Performs code values after base i (to_z w64 (left + n))
          return-done own n z after gv =
              let gave : Gave values after (get_or (cells_of values) (base + result_cell) 0) v = subst (λ (x : ℕ). Gave values after x v) ec (rw (to_z-of_z s) at gv) in
              record {
                long = gv.long;
                kept = (placed code values base i own (own.d - 1) (has-caller own q) after v small gave).kept;
                does = λ h rooms steps out.
                    leaves-with code values base i h (h.d - 1) (has-caller h q) n z after v small gave (effect_at h.P h.R rooms (cells_of values) h.d i steps out) steps out (given-effect h rooms steps out);
              }

-- ---- the result's cell
module _ (before : List ℕ) (cell : ℕ) (v : ℤ) (s : SFits w64 v) where
  pub gave-stored : (cell ≡ 0 → ⊥) → (after : List ℕ) → Stored before after (cell - 1) (read v) → Gave before after cell v
  gave-stored h after st = record {
    long = st.long;
    stored = λ c q. let e : cell - 1 ≡ c = omega arith in subst (λ (x : ℕ). Stored before after x v) e (rw (to_z-of_z s) at st);
    same = λ q. absurd (h q);
  }

  pub gave-nothing : cell ≡ 0 → Gave before before cell v
  gave-nothing h = record { long = refl; stored = λ c q. absurd (omega arith); same = λ q. refl }
