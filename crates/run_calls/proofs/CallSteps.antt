-- A step that calls: a procedure, or a function for a result.
use mathlib.Core.Path.{◌≡◌, refl, sym, ap, ap₂, subst, ◌∙◌}
use mathlib.Core.Bool.{true, false}
use mathlib.Core.List.{List}
use mathlib.Core.Option.{none, some}
use Prim.Native.Nat.{ℕ, suc, ◌+◌, ◌-◌, ◌*◌, ◌/◌, ◌%◌, ◌<◌, ◌≤◌}
use native.Mathlib.Omega.{arith}
use lib.Dec.{T, ltb}
use lib.ListN.{length, get_or}
use lib.IntN.{ℤ, pos, nat_abs}
use lib.Signed.{lt_z, le_z, non_neg}
use mir.Syntax.{w64}
use mir.Val.{Fits, SFits, to_z}
use mir.Facts.{to_z-of_z}
use borrow.Author.Tests.{eq-eqb, ne_eqb}
use Rattle.laws.proofs.Tests.{by-same}
use Rattle.paper.specs.Terms.{Ref, of_module, of_routine, Memory, at}
use Rattle.paper.specs.Steps.{Spot, Program}
use Rattle.paper.specs.Steps as action
use Rattle.paper.specs.States.{location_of, memory_of}
use Rattle.paper.specs.Running.{perform, calling}
use Rattle.store_cells.specs.Cells.{cells_of}
use Rattle.store_numbers.proofs.Whole.{read}
use Rattle.code.specs.Cells.{op_at, link_at, window_of}
use Rattle.code.specs.Steps.{Head, parts, a_call_target, any_arguments, a_next_argument, a_procedure_call}
use Rattle.code.specs.Holds.{CalleeIn}
use Rattle.code.specs.Windows.{result_in}
use Rattle.code.proofs.Options.{same_some}
use Rattle.code.proofs.Spanning.{span-grows}
use Rattle.store_evaluation.specs.Answers.{first_error}
use Rattle.store_evaluation.proofs.Places.{link-in}
use Rattle.store_reading.specs.Reading.{half_end, Part}
use Rattle.run_machine.specs.Live.{slots_of_call, code_of_call, ResultFits, nowhere, in_module, in_caller}
use Rattle.run_machine.specs.Machine.{store_bytes, Here, KeepsRun, Calls}
use Rattle.run_targets.specs.Targets.{ref_cell, RefFits, spot_in, Aims}
use Rattle.run_calls.specs.Calling.{Passes, Passed, MayEnter, Entered, Deepest, goes_on_at, Calling, MayCall, CallsFor}
use Rattle.run_machine.proofs.Actions.{reads-call-for, reads-call-of, some-arguments, argument-more, argument-last}
use Rattle.run_machine.proofs.Actions as reads
use Rattle.run_machine.proofs.Current as here
use Rattle.run_machine.proofs.Agreeing.{location-any}
use Rattle.run_targets.proofs.Elements.{cell-most}
use Rattle.run_machine.proofs.States.{roomy, depth_is}
use Rattle.run_targets.proofs.References.{spot-found, ref-location}
use Rattle.run_targets.proofs.TargetStores.{memory-is}
use Rattle.layout.specs.Answers.{answers, lacked}
use Rattle.run_calls.proofs.Called.{call_passes, here-after, call-fails, answer-signed, answer-fits, answer-closes, call-lacks, call-may, call_enters}

-- ---- any call
module _ (code values : List ℕ) (base last i callee first result : ℕ) (mc : MayCall code values base i last callee first result) where
  own : Calling code values base i mc.here first (link_at (cells_of code) callee) callee result
  own = mc.calls mc.here

  pub call-inside : callee * 8 + 8 ≤ length code
  call-inside = own.inside

  pub lack-fits : Fits w64 (lacked + callee)
  lack-fits = record { fits = omega (arith, call-inside, mc.here.code-size) }

  pub lack-signed : SFits w64 (pos (lacked + callee))
  lack-signed = record { sfits = omega (arith, call-inside, mc.here.code-size) }

  module _ (l : ℕ) (pl : Part half_end (link_at (cells_of code) callee) l) where
    -- the arguments begin as the code has read it
    begins : (h : Here code values base i) → Calling code values base i h first l callee result
    begins h = subst (λ (e : ℕ). Calling code values base i h first e callee result) (sym pl.same) (mc.calls h)

    pub passes : Passes code values base first l (ltb base last)
    passes = call_passes code values base i mc.here last mc.deepest.rooms mc.deepest.is first l callee result (begins mc.here) pl.small

    module _ (after : List ℕ) (r : ℤ) (s : SFits w64 r) (ps : Passed code values after base first l (ltb base last) r) where
      kept-below : KeepsRun (cells_of values) (cells_of after)
      kept-below c x y = ps.below c (omega (arith, mc.here.base-is))

      pub argument-error : le_z (pos first_error) (read r) ≡ true → Calls code values after base last i (read r)
      argument-error t = rw (to_z-of_z s) (record {
        long = ps.long;
        kept = kept-below;
        does = λ h rooms lw steps out. call-fails code values base i last first l after r ps h callee result (begins h) (here.told-error r s t) rooms steps out;
      })

      module _ (t : le_z (pos first_error) (read r) ≡ false) where
        less : lt_z r (pos first_error) ≡ true
        less = here.told-value r s t

        pub signed : T (non_neg (read r))
        signed = rw (to_z-of_z s) (answer-signed code values base i last first l after r ps mc.here callee result (begins mc.here) less)

        pub fits : Fits w64 (nat_abs (read r))
        fits = rw (to_z-of_z s) (answer-fits code values base i last first l after r ps mc.here callee result (begins mc.here) less)

        closes-is : (h : Here code values base i) → nat_abs (read r) % answers ≡ (begins h).closes
        closes-is h = rw (to_z-of_z s) (answer-closes code values base i last first l after r ps h callee result (begins h) less)

        -- where the caller goes on
        module _ (w : ℕ) (e : w ≡ goes_on_at i (nat_abs (read r) % answers) result) where
          leads : (h : Here code values base i) → link_at (cells_of code) w ≡ (here.step_here code values base i h).after
          leads h = ap (link_at (cells_of code)) (e ∙ ap (λ (c : ℕ). goes_on_at i c result) (closes-is h)) ∙ sym (begins h).after_is

          pub leads-inside : w * 8 + 8 ≤ length code
          leads-inside =
              link-in code w (here.whole_here code values base i mc.here)
              (λ z. omega (arith, (here.small-name code values base i mc.here (here.step_here code values base i mc.here).after (here.named-after code values base i mc.here)).0, leads mc.here))

          module _ (u : ltb base last ≡ true) (l2 : ℕ) (p2 : Part half_end (link_at (cells_of code) w) l2) where
            goes : (h : Here code values base i) → l2 ≡ (here.step_here code values base i h).after
            goes h = p2.same ∙ leads h

            pub may : MayEnter code after base i callee result l2 (nat_abs (read r) / answers)
            may = rw (to_z-of_z s) (record {
              here = here-after code values base i last first l after r ps mc.here;
              enters = call-may code values base i last first l after r ps mc.here callee result (begins mc.here) less mc.deepest.rooms mc.deepest.is u l2 (goes mc.here);
            })

            pub enters-done : (after2 : List ℕ) (r2 : ℤ) → SFits w64 r2 → Entered code after base i callee result l2 (nat_abs (read r) / answers) after2 r2 → Calls code values after2 base last i (read r2)
            enters-done after2 r2 s2 en = rw (to_z-of_z s2) (record {
              long = en.long ∙ ps.long;
              kept = λ c x y. en.kept c x y ∙ kept-below c x y;
              does = λ h rooms lw steps out. call_enters code values base i last first l after r ps h callee result (begins h) less rooms lw u l2 (goes h) after2 r2 (rw (to_z-of_z s) at en) steps out;
            })

        pub lacks-done : ltb base last ≡ false → Calls code values after base last i (to_z w64 (lacked + callee))
        lacks-done u = record {
          long = ps.long;
          kept = kept-below;
          does = λ h rooms lw steps out. call-lacks code values base i last first l after r ps h callee result (begins h) less rooms lw u steps out;
        }

-- where the caller goes on
pub goes-closing : (i closes result : ℕ) → result ≡ 0 → closes ≡ goes_on_at i closes result
unfolding goes_on_at
goes-closing i closes result z = rw (eq-eqb result 0 z)

pub goes-own : (i closes result : ℕ) → (result ≡ 0 → ⊥) → i ≡ goes_on_at i closes result
unfolding goes_on_at
goes-own i closes result z = rw (ne_eqb result 0 z)

-- ---- a procedure call
module _ (code values : List ℕ) (base i : ℕ) where
  of-read : (h : Here code values base i) → op_at (cells_of code) i ≡ a_procedure_call
      → reads.CallsOf (here.m code values base i h) (here.n code values base i h) (here.code_here code values base i h).function h.text h.R (cells_of code) i (here.step_here code values base i h).after (here.step_here code values base i h).does
  of-read h op =
      let s = here.step_here code values base i h in
      reads-call-of (here.m code values base i h) (here.n code values base i h) (here.code_here code values base i h).function h.text h.R (cells_of code) i s.after s.does (here.action-here code values base i h) op

  module _ (op : op_at (cells_of code) i ≡ a_procedure_call) where
    of-calling : (h : Here code values base i) → Calling code values base i h (i + 1) (link_at (cells_of code) i) i 0
    unfolding perform CalleeIn result_in
    of-calling h =
        let g = of-read h op in
        let q : CalleeIn h.R h.offset (cells_of code) (action.call_of i g.k g.es) = subst (CalleeIn h.R h.offset (cells_of code)) g.does-is (here.callee-here code values base i h) in
        record {
          es = g.es;
          closes = g.closes;
          arguments = g.arguments;
          inside = here.step-in code values base i h;
          k = g.k;
          number = g.called.number;
          there = q.1;
          word = g.called.word;
          as_many = g.called.as_many;
          place = q.0;
          result_fits = nowhere refl;
          location = none;
          location-is = λ Z. refl;
          effect = λ rooms steps out. here.effect-here code values base i h rooms steps out (here.step_here code values base i h).after (action.call_of i g.k g.es) refl g.does-is;
          after_is = g.after_is ∙ ap (link_at (cells_of code)) (goes-closing i g.closes 0 refl);
        }

    pub of-may : (last : ℕ) → Deepest last → Here code values base i → MayCall code values base i last i (i + 1) 0
    of-may last dp h = record { here = h; deepest = dp; calls = of-calling }

-- ---- a call for a result
module _ (code values : List ℕ) (base i : ℕ) where
  pub for-read : (h : Here code values base i) → a_call_target ≤ op_at (cells_of code) i → op_at (cells_of code) i < a_procedure_call
      → reads.CallsFor (here.m code values base i h) (here.n code values base i h) (here.code_here code values base i h).function h.text h.R (cells_of code) i (here.step_here code values base i h).after (here.step_here code values base i h).does
  for-read h low high =
      let s = here.step_here code values base i h in
      reads-call-for (here.m code values base i h) (here.n code values base i h) (here.code_here code values base i h).function h.text h.R (cells_of code) i s.after s.does (here.action-here code values base i h) low high

  -- where its result goes, as the new call has it
  goes-fits : (P : Program) (R : List Head) (X : List ℕ) (d cell : ℕ) (w : Ref) → RefFits (length P.words) (slots_of_call (code_of_call P R X d)) w 1 → cell ≡ ref_cell (window_of d) w → ResultFits P R X (suc d) (cell + 1)
  unfolding RefFits ref_cell
  goes-fits P R X d cell (of_module k) f q = in_module k (omega arith) (omega arith)
  goes-fits P R X d cell (of_routine k) f q = in_caller d k refl (omega arith) (omega arith)

  module _ (next cell : ℕ) (low : a_call_target ≤ op_at (cells_of code) i) (high : op_at (cells_of code) i < a_procedure_call) where
    module _ (h : Here code values base i) (a : Aims code values base i h a_call_target cell next) where
      read_at : reads.CallsFor (here.m code values base i h) (here.n code values base i h) (here.code_here code values base i h).function h.text h.R (cells_of code) i (here.step_here code values base i h).after (here.step_here code values base i h).does
      read_at = for-read h low high

      spot-same : ◌≡◌ {A = Spot × ℕ} (read_at.s, read_at.j) (a.s, next)
      spot-same = same_some (read_at.s, read_at.j) (a.s, next) (sym read_at.target ∙ a.reads)

      next-is : read_at.j ≡ next
      next-is = ap (λ (y : Spot × ℕ). y.1) spot-same

      s-is : read_at.s ≡ a.s
      s-is = ap (λ (y : Spot × ℕ). y.0) spot-same

      cell-is : cell ≡ ref_cell (window_of h.d) a.w
      cell-is = a.cell-is ∙ ap (λ (b : ℕ). ref_cell b a.w) h.base-is

      -- its arguments are read from behind its callee, so that word is in the store
      callee-linked : link_at (cells_of code) (next + 1) ≡ 0 → ⊥
      callee-linked z =
          let m = here.m code values base i h in
          let n = here.n code values base i h in
          let f = (here.code_here code values base i h).function in
          let e : link_at (cells_of code) (read_at.j + 1) ≡ 0 = ap (λ (x : ℕ). link_at (cells_of code) (x + 1)) next-is ∙ z in
          let q : any_arguments m n f h.text h.R (cells_of code) (read_at.j + 3) 0 ≡ some (read_at.es, read_at.closes) = ap (any_arguments m n f h.text h.R (cells_of code) (read_at.j + 3)) (sym e) ∙ read_at.arguments in
          let p = some-arguments m n f h.text h.R (cells_of code) (read_at.j + 3) 0 read_at.es read_at.closes (λ y. omega arith) q in
          by-same (op_at (cells_of code) 0) a_next_argument
          (λ y. let x = argument-more m n f h.text h.R (cells_of code) (read_at.j + 3) 0 read_at.es read_at.closes (parts - 1) p y in omega (arith, span-grows m n (cells_of code) (read_at.j + 3) 0 x.e x.reads))
          (λ y. let x = argument-last m n f h.text h.R (cells_of code) (read_at.j + 3) 0 read_at.es read_at.closes (parts - 1) p y in omega (arith, span-grows m n (cells_of code) (read_at.j + 3) 0 x.e x.reads))

      callee-in : (next + 1) * 8 + 8 ≤ length code
      callee-in = link-in code (next + 1) (here.whole_here code values base i h) callee-linked

      for-calling : Calling code values base i h (next + 3) (link_at (cells_of code) (next + 1)) (next + 1) (cell + 1)
      unfolding perform CalleeIn result_in
      for-calling =
          let m = here.m code values base i h in
          let n = here.n code values base i h in
          let f = (here.code_here code values base i h).function in
          let g = read_at in
          let k = g.k in
          let three : g.j + 3 ≡ next + 3 = omega (arith, next-is) in
          let one : g.j + 1 ≡ next + 1 = omega (arith, next-is) in
          let does : (here.step_here code values base i h).does ≡ action.call_for a.s (next + 1) k g.es = g.does-is ∙ ap₂ (λ (y : Spot) (x : ℕ). action.call_for y x k g.es) s-is one in
          let q : CalleeIn h.R h.offset (cells_of code) (action.call_for a.s (next + 1) k g.es) = subst (CalleeIn h.R h.offset (cells_of code)) does (here.callee-here code values base i h) in
          let called : reads.Callee m n f h.text h.R (cells_of code) true (next + 1) g.es k = subst (λ (x : ℕ). reads.Callee m n f h.text h.R (cells_of code) true x g.es k) one g.called in
          let suc-is : cell + 1 ≡ suc (ref_cell (window_of h.d) a.w) = omega (arith, cell-is) in
          record {
            es = g.es;
            closes = g.closes;
            arguments = ap₂ (any_arguments m n f h.text h.R (cells_of code)) (sym three) (ap (link_at (cells_of code)) (sym one)) ∙ g.arguments;
            inside = callee-in;
            k = k;
            number = called.number;
            there = q.1;
            word = called.word;
            as_many = called.as_many;
            place = q.0;
            result_fits = goes-fits h.P h.R (cells_of values) h.d cell a.w a.fits cell-is;
            location = some (location_of (suc h.d) a.w);
            location-is = λ Z.
                ap (result_in h.P h.R Z) suc-is
                ∙ ap some (location-any h.P h.R (cells_of values) Z (ref_cell (window_of h.d) a.w) ∙ ref-location h.P h.R (cells_of values) h.d (roomy h) a.w a.fits);
            effect = λ rooms steps out.
                let S = here.state_here code values base i h rooms steps out in
                let M = memory_of S (here.call_here code values base i h rooms steps out) in
                here.effect-here code values base i h rooms steps out (here.step_here code values base i h).after (action.call_for a.s (next + 1) k g.es) refl does
                ∙ spot-found M S (λ y. calling h.P rooms M (next + 1) k g.es (some y) S) a.s a.w (ap (λ (N : Memory). spot_in N a.s) (memory-is code values base i h rooms steps out) ∙ a.is)
                ∙ ap (λ (x : ℕ). calling h.P rooms M (next + 1) k g.es (some (location_of x a.w)) S) (depth_is h.P h.R (cells_of values) h.d i steps out);
            after_is = g.after_is ∙ ap (link_at (cells_of code)) (goes-own i g.closes (cell + 1) (λ z. omega (arith, z)));
          }

  module _ (last next cell : ℕ) (cf : CallsFor code values base i last next cell) where
    callee_at : (next + 1) * 8 + 8 ≤ length code
    callee_at = callee-in next cell cf.low cf.high cf.here (cf.aims cf.here)

    pub to-callee : Fits w64 (next + 1)
    to-callee = record { fits = omega (arith, callee_at, cf.here.code-size) }

    pub to-first : Fits w64 (next + 3)
    to-first = record { fits = omega (arith, callee_at, cf.here.code-size) }

    pub to_cell : cell < store_bytes
    to_cell =
        let a = cf.aims cf.here in
        omega (arith, a.cell-is, cf.here.base-is, cf.here.deep, cell-most (length cf.here.P.words) (slots_of_call (code_of_call cf.here.P cf.here.R (cells_of values) cf.here.d)) base a.w 1 a.fits cf.here.holds.room (here.routine-holds code values base i cf.here).room)

    pub to-may : MayCall code values base i last (next + 1) (next + 3) (cell + 1)
    to-may = record { here = cf.here; deepest = cf.deepest; calls = λ h. for-calling next cell cf.low cf.high h (cf.aims h) }
