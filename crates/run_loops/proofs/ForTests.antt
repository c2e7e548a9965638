-- FOR: its test, its step and its DO, and what each test of a loop does.
use mathlib.Core.Path.{◌≡◌, refl, sym, ap, ap₂, subst, ◌∙◌}
use mathlib.Core.Bool.{Bool, true, false, not}
use mathlib.Core.List.{List, [], ◌++◌}
use mathlib.Core.Option.{Option}
use Prim.Native.Nat.{ℕ, zero, suc, ◌+◌, ◌-◌, ◌*◌, ◌/◌, ◌%◌, ◌<◌, ◌≤◌}
use native.Mathlib.Omega.{arith}
use lib.Dec.{ltb}
use lib.ListN.{length, get_or, set, replicate, length-replicate}
use lib.Seq.{get_or-append-add}
use lib.IntN.{ℤ, pos, negsuc, ◌+ℤ◌}
use lib.Signed.{lt_z}
use mir.Syntax.{w32, w64}
use mir.Val.{SFits, to_z, of_z}
use mir.Facts.{to_z-of_z}
use mir.ValLaws.{to_z_pos}
use borrow.Author.Tests.{ltb-false, le-ltb, not-true}
use Rattle.laws.proofs.Tests.{false-true}
use Rattle.std.specs.Prelude.{if◌then◌else◌}
use Rattle.paper.specs.Numbers.{value}
use Rattle.paper.specs.Terms.{of_routine, Term, Memory, load}
use Rattle.paper.specs.Steps.{Program, Action, repeat_for}
use Rattle.paper.specs.States.{Loop, Rooms, Effect, made, go_to, set_word, on_top, memory_of}
use Rattle.paper.specs.Running.{idle, passes, looping, counting_step, repeating, perform}
use Rattle.store_cells.specs.Cells.{cells_of}
use Rattle.store_numbers.proofs.Whole.{read, sub_cases}
use Rattle.code.specs.Cells.{head_at, op_at, value_at, link_at, window_of}
use Rattle.code.specs.Spans.{term_in}
use Rattle.code.specs.Steps.{Head, parts, a_for_test, a_step}
use Rattle.code.specs.Closed.{is_named, Named, targets_of, LoopFits}
use Rattle.code.specs.Windows.{ends_cell, steps_cell, loops_from, call_in, state_in}
use Rattle.layout.specs.Answers.{answers}
use Rattle.store_evaluation.specs.Answers.{first_error, Stands, Evaluated}
use Rattle.store_evaluation.specs.Answers as answers
use Rattle.store_evaluation.proofs.Places.{link-in}
use Rattle.store_evaluation.proofs.Numbers.{is-value}
use Rattle.store_evaluation.proofs.Operators.{sum_fits}
use Rattle.store_evaluation.proofs.Operands.{load-call}
use Rattle.store_reading.specs.Reading.{half_end, Part, Stored, Loaded}
use Rattle.run_machine.specs.Live.{slots_of_call, code_of_call, routine_of_call, Live}
use Rattle.run_machine.specs.Machine.{Here, Comes, goes_on, effect_at, Performs, Says}
use Rattle.run_loops.specs.Loops.{ForSteps, step_worth, StepGiven, DoAt}
use Rattle.run_machine.proofs.Actions.{given-step, no_step, RepeatsFor, reads-for-test}
use Rattle.run_machine.proofs.Agreeing.{code_in, set_same}
use Rattle.run_machine.proofs.States.{Roomy, roomy, goes_to, call-word}
use Rattle.run_machine.proofs.Living.{live-next, live-call}
use Rattle.run_machine.proofs.Current.{code_here, step_here, m, n, call_here, state_here, action-here, routine-holds, whole_here, memory-here, named-after, named-targets, loop-here, small-name, effect-here, goes-here, performs}
use Rattle.run_machine.proofs.Deciding.{steps_here}

-- ---- the test
module _ (z end step : ℤ) (sz : SFits w64 z) (se : SFits w64 end) (ss : SFits w64 step) where
  pub passes-down : lt_z (read step) (pos 0) ≡ true → not (lt_z (read z) (read end)) ≡ passes z (record { end = end; step = step })
  unfolding passes
  passes-down h = let g : lt_z step (pos 0) ≡ true = rw (to_z-of_z ss) at h in rw (g, passes) (ap₂ (λ (x y : ℤ). not (lt_z x y)) (to_z-of_z sz) (to_z-of_z se))

  pub passes_up : lt_z (read step) (pos 0) ≡ false → not (lt_z (read end) (read z)) ≡ passes z (record { end = end; step = step })
  unfolding passes
  passes_up h = let g : lt_z step (pos 0) ≡ false = rw (to_z-of_z ss) at h in rw (g, passes) (ap₂ (λ (x y : ℤ). not (lt_z x y)) (to_z-of_z se) (to_z-of_z sz))

-- a sum that passes has 32 bits, as its sides have
pub sum-small : (a step end : ℤ) → SFits w32 a → SFits w32 step → SFits w32 end → passes (a +ℤ step) (record { end = end; step = step }) ≡ true → SFits w32 (a +ℤ step)
unfolding passes
sum-small (pos x) (pos s) (pos y) fa fs fe h =
    let g : not (ltb y (x + s)) ≡ true = rw (le-ltb s 0 (omega arith), passes) at h in record { sfits = omega (arith, ltb-false y (x + s) (not-true _ g), fe.sfits) }
sum-small (pos x) (pos s) (negsuc y) fa fs fe h = false-true (rw (le-ltb s 0 (omega arith), passes) at h)
sum-small (negsuc x) (pos s) e fa fs fe h = sub_cases (λ z. SFits w32 z) s (suc x) (λ g. record { sfits = omega (arith, fa.sfits) }) (λ g. record { sfits = omega (arith, fs.sfits) })
sum-small (pos x) (negsuc s) e fa fs fe h = sub_cases (λ z. SFits w32 z) x (suc s) (λ g. record { sfits = omega (arith, fs.sfits) }) (λ g. record { sfits = omega (arith, fa.sfits) })
sum-small (negsuc x) (negsuc s) (pos y) fa fs fe h = false-true h
sum-small (negsuc x) (negsuc s) (negsuc y) fa fs fe h = record { sfits = omega (arith, ltb-false y (suc (x + s)) (not-true _ h), fe.sfits) }

-- ---- STEP and DO
module _ (code : List ℕ) (s w : ℕ) (ew : w ≡ head_at (cells_of code) s) where
  op-is : w % 256 ≡ op_at (cells_of code) s
  op-is = ap (λ (y : ℕ). y % 256) ew

  pub do-behind : w % 256 ≡ a_step → (r : ℕ) → Part half_end (link_at (cells_of code) s) r → DoAt code s r
  do-behind k r p = record { is = λ c function text R step d e. p.same ∙ sym (given-step c.m c.n function text R (cells_of code) s step d e (sym op-is ∙ k)).do-is }

  pub do-here : (w % 256 ≡ a_step → ⊥) → DoAt code s s
  do-here k = record { is = λ c function text R step d e. sym (no_step c.m c.n function text R (cells_of code) s step d e (λ z. k (op-is ∙ z))).do-is }

  module _ (values : List ℕ) (base : ℕ) where
    module _ (k : w % 256 ≡ a_step) (t : ℕ) (p : Part half_end (link_at (cells_of code) s) t) where
      pub step-stands : ForSteps code s → Stands code (s + 1) t
      step-stands f =
          let g = given-step f.c.m f.c.n f.function f.text f.R (cells_of code) s f.step f.d f.is (sym op-is ∙ k) in
          record { c = f.c; t = g.e; is = ap (term_in f.c.m f.c.n (cells_of code) (s + 1)) p.same ∙ g.reads; whole = f.whole }

      pub step_given : (a b r : ℤ) → SFits w64 r → Evaluated code values base (s + 1) t r → StepGiven code values base s a b (read r)
      unfolding step_worth
      step_given a b r sr v = rw (to_z-of_z sr) (record {
        small = v.small;
        is = λ c function text R step d e.
            let g = given-step c.m c.n function text R (cells_of code) s step d e (sym op-is ∙ k) in
            v.is c g.e (ap (term_in c.m c.n (cells_of code) (s + 1)) p.same ∙ g.reads) ∙ ap (λ (o : Option Term). step_worth (answers.memory_of c values base) o a b) (sym g.is);
      })

    module _ (k : w % 256 ≡ a_step → ⊥) (a b : ℤ) where
      -- without STEP
      step-chosen : (r : ℤ) → counting_step a b ≡ r → SFits w32 r → lt_z r (pos first_error) ≡ true → StepGiven code values base s a b r
      unfolding step_worth
      step-chosen r q f l = record {
        small = λ h. f;
        is = λ c function text R step d e.
            is-value r l ∙ ap value (sym q)
            ∙ ap (λ (o : Option Term). step_worth (answers.memory_of c values base) o a b) (sym (no_step c.m c.n function text R (cells_of code) s step d e (λ z. k (op-is ∙ z))).is);
      }

      module _ (sa : SFits w64 a) (sb : SFits w64 b) where
        chosen : (y : Bool) → lt_z (read b) (read a) ≡ y → lt_z b a ≡ y
        chosen y h = ap₂ lt_z (sym (to_z-of_z sb)) (sym (to_z-of_z sa)) ∙ h

        pub step_down : lt_z (read b) (read a) ≡ true → StepGiven code values base s a b (negsuc 0)
        unfolding counting_step
        step_down h = step-chosen (negsuc 0) (rw (chosen true h, counting_step)) (record { sfits = omega arith }) refl

        pub step-up : lt_z (read b) (read a) ≡ false → StepGiven code values base s a b (pos 1)
        unfolding counting_step
        step-up h = step-chosen (pos 1) (rw (chosen false h, counting_step)) (record { sfits = omega arith }) refl

-- ---- the loop at a word of a call
module _ (P : Program) (R : List Head) (X : List ℕ) (base : ℕ) where
  loops-at : (f from j : ℕ) → j < f
      → get_or (loops_from P R X base f from) j idle ≡ record { end = to_z w32 (get_or X (base + ends_cell + (from + j)) 0); step = to_z w32 (get_or X (base + steps_cell + (from + j)) 0) }
  unfolding loops_from
  loops-at zero from j h = absurd (omega arith)
  loops-at (suc f) from zero h =
      let q : from + 0 ≡ from = omega arith in rw q
  loops-at (suc f) from (suc j) h =
      let q : from + suc j ≡ suc from + j = omega arith in rw q (loops-at f (suc from) j (omega arith))

  pub loop-at : (next k : ℕ) → length (code_in P R X base).words ≤ k → k < slots_of_call (code_in P R X base)
      → get_or (call_in P R X base next).loops k idle ≡ record { end = to_z w32 (get_or X (base + ends_cell + k) 0); step = to_z w32 (get_or X (base + steps_cell + k) 0) }
  unfolding call_in
  loop-at next k a b =
      let c = code_in P R X base in
      let q : k ≡ length (replicate {A = Loop} (length c.words) idle) + (k - length c.words) = omega (arith, length-replicate {A = Loop} (length c.words) idle) in
      let s : length c.words + (k - length c.words) ≡ k = omega arith in
      ap (λ (j : ℕ). get_or (replicate (length c.words) idle ++ loops_from P R X base c.fors (length c.words)) j idle) q
      ∙ get_or-append-add (replicate (length c.words) idle) (loops_from P R X base c.fors (length c.words)) (k - length c.words) idle
      ∙ loops-at c.fors (length c.words) (k - length c.words) (omega arith)
      ∙ rw s

-- a word of the newest call gets a value, and the call goes on
pub word-goes : (P : Program) (R : List Head) (C : List ℕ) (offset : ℕ → ℕ) (X Y : List ℕ) (d i steps : ℕ) (out : List ℕ) → Roomy P Y d → Live P R Y d i
    → (k : ℕ) (z : ℤ) (b : ℕ) → k < slots_of_call (code_of_call P R Y d) → SFits w32 z → is_named (code_of_call P R Y d).steps b ≡ true → b < parts
    → (E : Effect) → E ≡ made (on_top (go_to b) (on_top (set_word k z) (state_in P R Y d i steps out)))
    → Comes P R C offset d i steps X (set Y (window_of d + k) (of_z w32 z)) out out E (to_z w64 b)
word-goes P R C offset X Y d i steps out g l k z b f s a small E e =
    let Z = set Y (window_of d + k) (of_z w32 z) in
    let room : k < 64 = omega (arith, g.calls (routine_of_call P R Y d)) in
    goes_on b (to_z_pos w64 b (omega arith))
    (live-call P R Y d (window_of d + k) (of_z w32 z) b (live-next P R Y d i b l a) d k (omega arith) refl)
    (e ∙ ap made (sym (goes_to P R Z d i steps out b ∙ ap (on_top (go_to b)) (call-word P R Y d g k (of_z w32 z) i steps out f
    ∙ ap (λ (y : ℤ). on_top (set_word k y) (state_in P R Y d i steps out)) (to_z-of_z s)))))

-- ---- each later test
module _ (code values : List ℕ) (base i t : ℕ) (q : Says code i a_for_test t) where
  module _ (h : Here code values base i) where
    again : RepeatsFor (m code values base i h) (n code values base i h) (code_here code values base i h).function h.text h.R (cells_of code) i
        (step_here code values base i h).after (step_here code values base i h).does
    again = reads-for-test _ _ _ _ _ _ i _ _ (action-here code values base i h) q.op-is

    -- the variable
    k-is : value_at (cells_of code) i % 256 ≡ t % 256
    k-is = ap (λ (v : ℕ). v % 256) (sym q.value-is)

    k-fits : t % 256 < n code values base i h
    k-fits = omega (arith, k-is, again.fits)

    k-own : length (code_here code values base i h).words ≤ t % 256
    unfolding LoopFits
    k-own = omega (arith, k-is, subst (LoopFits (length (code_here code values base i h).words)) again.does-is (loop-here code values base i h))

    pub for-inside : (base + t % 256 + steps_cell) * 4 + 4 ≤ length values
    for-inside = omega (arith, k-fits, (routine-holds code values base i h).room, h.base-is, h.deep, h.values-size)

    pub for-end-inside : (base + t % 256 + ends_cell) * 4 + 4 ≤ length values
    for-end-inside = omega (arith, for-inside)

    pub for-word-inside : (base + t % 256) * 4 + 4 ≤ length values
    for-word-inside = omega (arith, for-inside)

    -- where it goes
    body-named : is_named (steps_here code values base i h) (link_at (cells_of code) i) ≡ true
    unfolding Named targets_of
    body-named = (subst (λ (a : Action). Named (steps_here code values base i h) (targets_of a)) again.does-is (named-targets code values base i h)).0

    after_is : (step_here code values base i h).after ≡ link_at (cells_of code) (t / 256)
    after_is = again.after_is ∙ ap (λ (v : ℕ). link_at (cells_of code) (v / 256)) (sym q.value-is)

    done-named : is_named (steps_here code values base i h) (link_at (cells_of code) (t / 256)) ≡ true
    done-named = subst (λ (j : ℕ). is_named (steps_here code values base i h) j ≡ true) after_is (named-after code values base i h)

    pub for-word-in : t / 256 * 8 + 8 ≤ length code
    for-word-in = link-in code (t / 256) (whole_here code values base i h) (λ z. omega (arith, (small-name code values base i h (link_at (cells_of code) (t / 256)) done-named).0))

    module _ (rooms : Rooms) (steps : ℕ) (out : List ℕ) (a end step : ℤ) (la : Loaded (get_or (cells_of values) (base + t % 256) 0) a)
        (le : Loaded (get_or (cells_of values) (base + t % 256 + ends_cell) 0) end) (ls : Loaded (get_or (cells_of values) (base + t % 256 + steps_cell) 0) step) where
      loop-is : get_or (call_here code values base i h rooms steps out).loops (t % 256) idle ≡ record { end = end; step = step }
      loop-is =
          let X = cells_of values in
          let e : window_of h.d + ends_cell + t % 256 ≡ base + t % 256 + ends_cell = omega (arith, h.base-is) in
          let s : window_of h.d + steps_cell + t % 256 ≡ base + t % 256 + steps_cell = omega (arith, h.base-is) in
          loop-at h.P h.R X (window_of h.d) i (t % 256) k-own k-fits
          ∙ (λ j. record { end = (ap (λ (c : ℕ). to_z w32 (get_or X c 0)) e ∙ sym le.is) j; step = (ap (λ (c : ℕ). to_z w32 (get_or X c 0)) s ∙ sym ls.is) j })

      word-is : load (memory_of (state_here code values base i h rooms steps out) (call_here code values base i h rooms steps out)) (of_routine (t % 256)) ≡ a
      word-is =
          ap (λ (M : Memory). load M (of_routine (t % 256))) (memory-here code values base i h rooms steps out)
          ∙ load-call (m code values base i h) (n code values base i h) (cells_of values) (window_of h.d) (t % 256) k-fits
          ∙ ap (λ (b : ℕ). to_z w32 (get_or (cells_of values) (b + t % 256) 0)) (sym h.base-is) ∙ sym la.is

      again-effect : effect_at h.P h.R rooms (cells_of values) h.d i steps out
          ≡ looping (t % 256) (a +ℤ step) (record { end = end; step = step }) (link_at (cells_of code) i) (link_at (cells_of code) (t / 256)) (state_here code values base i h rooms steps out)
      unfolding perform repeating
      again-effect =
          effect-here code values base i h rooms steps out (link_at (cells_of code) (t / 256)) (repeat_for (t % 256) (link_at (cells_of code) i)) after_is
          (again.does-is ∙ ap (λ (v : ℕ). repeat_for (v % 256) (link_at (cells_of code) i)) (sym q.value-is))
          ∙ ap₂ (λ (y : ℤ) (l : Loop). looping (t % 256) (y +ℤ l.step) l (link_at (cells_of code) i) (link_at (cells_of code) (t / 256)) (state_here code values base i h rooms steps out)) word-is loop-is

  module _ (step : ℤ) (ss : SFits w64 step) (ls : Loaded (get_or (cells_of values) (base + t % 256 + steps_cell) 0) step)
      (a : ℤ) (sa : SFits w64 a) (la : Loaded (get_or (cells_of values) (base + t % 256) 0) a) where
    pub for-sum : SFits w64 (read a +ℤ read step)
    for-sum = sum_fits a step sa ss la.small ls.small

    sum_is : read (read a +ℤ read step) ≡ a +ℤ step
    sum_is = to_z-of_z for-sum ∙ ap₂ ◌+ℤ◌ (to_z-of_z sa) (to_z-of_z ss)

    module _ (end : ℤ) (se : SFits w64 end) (le : Loaded (get_or (cells_of values) (base + t % 256 + ends_cell) 0) end)
        (b : Bool) (eb : b ≡ passes (read (read a +ℤ read step)) (record { end = read end; step = read step })) where
      told : (y : Bool) → b ≡ y → passes (a +ℤ step) (record { end = end; step = step }) ≡ y
      told y e =
          let loops : ◌≡◌ {A = Loop} (record { end = read end; step = read step }) (record { end = end; step = step }) = λ j. record { end = to_z-of_z se j; step = to_z-of_z ss j } in
          ap₂ (λ (z : ℤ) (l : Loop). passes z l) (sym sum_is) (sym loops) ∙ sym eb ∙ e

      pub for-small : b ≡ true → SFits w32 (read (read a +ℤ read step))
      for-small y = rw sum_is (sum-small a step end la.small ls.small le.small (told true y))

      pub for-again : b ≡ true → Here code values base i → (after : List ℕ) → Stored values after (base + t % 256) (read (read a +ℤ read step))
          → (k : ℕ) → Part half_end (link_at (cells_of code) i) k → Performs code values after base i (to_z w64 k)
      unfolding looping
      for-again y here after sd k p =
          let set_is : (h : Here code values base i) → cells_of after ≡ set (cells_of values) (window_of h.d + t % 256) (of_z w32 (a +ℤ step)) =
          λ h. sd.words ∙ ap₂ (λ (b : ℕ) (z : ℤ). set (cells_of values) (b + t % 256) (of_z w32 z)) h.base-is sum_is in
          record {
            long = sd.long;
            kept = λ c x z.
                subst (λ (Y : List ℕ). get_or Y c 0 ≡ get_or (cells_of values) c 0) (sym (set_is here))
                (set_same (cells_of values) (window_of here.d + t % 256) (of_z w32 (a +ℤ step)) c (λ e. omega (arith, k-fits here, (routine-holds code values base i here).room)));
            does = λ h rooms steps out.
                subst (λ (Y : List ℕ). Comes h.P h.R (cells_of code) h.offset h.d i steps (cells_of values) Y out out (effect_at h.P h.R rooms (cells_of values) h.d i steps out) (to_z w64 k)) (sym (set_is h))
                (rw p.same (word-goes h.P h.R (cells_of code) h.offset (cells_of values) (cells_of values) h.d i steps out (roomy h) h.live (t % 256) (a +ℤ step) (link_at (cells_of code) i)
                (k-fits h) (sum-small a step end la.small ls.small le.small (told true y)) (body-named h) (small-name code values base i h (link_at (cells_of code) i) (body-named h)).1 _
                (again-effect h rooms steps out a end step la le ls ∙ rw (told true y, looping))));
          }

      pub for-done : b ≡ false → (k : ℕ) → Part half_end (link_at (cells_of code) (t / 256)) k → Performs code values values base i (to_z w64 k)
      unfolding looping
      for-done y k p =
          rw p.same (performs code values base i (to_z w64 (link_at (cells_of code) (t / 256))) (λ h rooms steps out.
          goes-here code values base i h rooms steps out (link_at (cells_of code) (t / 256)) _ (done-named h)
          (again-effect h rooms steps out a end step la le ls ∙ rw (told false y, looping))))
