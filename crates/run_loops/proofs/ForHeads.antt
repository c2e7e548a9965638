-- FOR: from, to and step are worked out once, then comes the first test.
use mathlib.Core.Path.{◌≡◌, refl, sym, ap, ap₂, subst, ◌∙◌}
use mathlib.Core.Bool.{Bool, true, false, not}
use mathlib.Core.List.{List}
use mathlib.Core.Option.{Option, none, some}
use Prim.Native.Nat.{ℕ, ◌+◌, ◌-◌, ◌*◌, ◌<◌, ◌≤◌}
use native.Mathlib.Omega.{arith}
use lib.ListN.{length, get_or, set, length-set}
use lib.IntN.{ℤ, pos, nat_abs}
use lib.Signed.{lt_z, le_z}
use mir.Syntax.{w32, w64}
use mir.Val.{SFits, to_z, of_z}
use mir.Facts.{to_z-of_z}
use mir.ValLaws.{to_z_pos}
use Rattle.laws.proofs.Tests.{by-same, apart}
use Rattle.std.specs.Prelude.{if◌then◌else◌}
use Rattle.paper.specs.Numbers.{Value, error}
use Rattle.paper.specs.Terms.{Term, Memory, worth}
use Rattle.paper.specs.Steps.{Code, Action, enter_for}
use Rattle.paper.specs.States.{Loop, State, Rooms, Effect, made, go_to, set_word, set_loop, on_top, memory_of, with_value}
use Rattle.paper.specs.Running.{passes, looping, with_step, entering, perform}
use Rattle.store_cells.specs.Cells.{cells_of}
use Rattle.store_numbers.proofs.Whole.{read}
use Rattle.code.specs.Cells.{op_at, value_at, link_at, window_of}
use Rattle.code.specs.Spans.{term_in, memory_in}
use Rattle.code.specs.Steps.{a_step, for_step, a_for}
use Rattle.code.specs.Closed.{is_named, Named, targets_of, LoopFits}
use Rattle.code.specs.Windows.{routine_cell, state_in, ends_cell, steps_cell}
use Rattle.code.proofs.Spanning.{span-grows}
use Rattle.store_evaluation.specs.Answers.{first_error, decoded, Stands, Evaluated}
use Rattle.store_evaluation.proofs.Places.{op-in, value-in, link-in}
use Rattle.store_evaluation.proofs.Numbers.{is-value, is-error, not-less}
use Rattle.store_reading.specs.Reading.{value_end, half_end, Part, Stored}
use Rattle.run_machine.specs.Live.{slots_of_call, code_of_call, Live}
use Rattle.run_machine.specs.Machine.{Here, Comes, goes_on, fails, effect_at, KeepsRun, Performs, Says}
use Rattle.run_loops.specs.Loops.{ForSteps, step_worth, StepGiven, DoAt, Begins}
use Rattle.raised.proofs.Raised.{errors, worth-error}
use Rattle.run_machine.proofs.Actions.{EntersFor, reads-for, no_step}
use Rattle.run_machine.proofs.Agreeing.{Same, set_same}
use Rattle.run_machine.proofs.States.{Roomy, roomy, goes_to, call-loop}
use Rattle.run_machine.proofs.Living.{routine-code, live-next, live-call}
use Rattle.run_machine.proofs.Current.{code_here, step_here, m, n, call_here, state_here, action-here, routine-holds, whole_here, counts-here, stands_here, memory-here}
use Rattle.run_machine.proofs.Current.{named-after, named-targets, loop-here, small-name, step-in, effect-here, value-here, failed-here, error-is, told-error, told-value, performs}
use Rattle.run_machine.proofs.Deciding.{steps_here}
use Rattle.run_loops.proofs.ForTests.{word-goes}

-- ---- the step, given or not
step-as : (M : Memory) (c : Option Term) (z y : ℤ) (s : State) (go : ℤ → Effect) → with_step M c z y s go ≡ with_value (step_worth M c z y) s go
unfolding with_step step_worth with_value
step-as M none z y s go = refl
step-as M (some e) z y s go = refl

step-error : (M : Memory) (c : Option Term) (z y : ℤ) (e : ℕ) → step_worth M c z y ≡ error e → e < errors
unfolding step_worth
step-error M none z y e q = apart (cc)
step-error M (some t) z y e q = worth-error M t e q

module _ (code values : List ℕ) (base i t : ℕ) (q : Says code i a_for t) where
  module _ (h : Here code values base i) where
    abbrev m-here : ℕ
    m-here = m code values base i h

    abbrev n-here : ℕ
    n-here = n code values base i h

    enter : EntersFor m-here n-here (code_here code values base i h).function h.text h.R (cells_of code) i (step_here code values base i h).after (step_here code values base i h).does
    enter = reads-for _ _ _ _ _ _ i _ _ (action-here code values base i h) q.op-is

    does-is : (step_here code values base i h).does ≡ enter_for t enter.from enter.to enter.c (value_at (cells_of code) enter.d)
    does-is = enter.does-is ∙ ap (λ (v : ℕ). enter_for v enter.from enter.to enter.c (value_at (cells_of code) enter.d)) (sym q.value-is)

    t-fits : t < n-here
    t-fits = omega (arith, q.value-is, enter.fits)

    t-own : length (code_here code values base i h).words ≤ t
    unfolding LoopFits
    t-own = subst (LoopFits (length (code_here code values base i h).words)) does-is (loop-here code values base i h)

    body-named : is_named (steps_here code values base i h) (value_at (cells_of code) enter.d) ≡ true
    unfolding Named targets_of
    body-named = (subst (λ (a : Action). Named (steps_here code values base i h) (targets_of a)) does-is (named-targets code values base i h)).0

    after-named : is_named (steps_here code values base i h) (link_at (cells_of code) i) ≡ true
    after-named = subst (λ (j : ℕ). is_named (steps_here code values base i h) j ≡ true) enter.after_is (named-after code values base i h)

    pub from_in : (i + 2) * 8 + 8 ≤ length code
    from_in = link-in code (i + 2) (whole_here code values base i h) (λ z. omega (arith, span-grows m-here n-here (cells_of code) (i + 3) (link_at (cells_of code) (i + 2)) enter.from enter.from-reads))

    to_at : link_at (cells_of code) (i + 2) * 8 + 8 ≤ length code
    to_at =
        link-in code (link_at (cells_of code) (i + 2)) (whole_here code values base i h)
        (λ z. omega (arith, span-grows m-here n-here (cells_of code) (link_at (cells_of code) (i + 2) + 1) (link_at (cells_of code) (link_at (cells_of code) (i + 2))) enter.to enter.to_reads))

    do-at : enter.d * 8 + 8 ≤ length code
    do-at = value-in code enter.d (whole_here code values base i h) (λ z. omega (arith, (small-name code values base i h (value_at (cells_of code) enter.d) body-named).0))

    -- STEP, or DO in its place
    steps-at : (s : ℕ) → s ≡ link_at (cells_of code) (link_at (cells_of code) (i + 2)) → ForSteps code s
    steps-at s e =
        let g : for_step m-here n-here (code_here code values base i h).function h.text h.R (cells_of code) s ≡ some (enter.c, enter.d) =
        ap (for_step m-here n-here (code_here code values base i h).function h.text h.R (cells_of code)) e ∙ enter.step in
        record {
          c = counts-here code values base i h;
          function = (code_here code values base i h).function;
          text = h.text;
          R = h.R;
          step = enter.c;
          d = enter.d;
          is = g;
          whole = whole_here code values base i h;
          inside = by-same (op_at (cells_of code) s) a_step
              (λ k. op-in code s (whole_here code values base i h) (λ z. omega arith))
              (λ k. omega (arith, do-at, (no_step m-here n-here (code_here code values base i h).function h.text h.R (cells_of code) s enter.c enter.d g k).do-is));
        }

    for-inside : (base + t + steps_cell) * 4 + 4 ≤ length values
    for-inside = omega (arith, t-fits, (routine-holds code values base i h).room, h.base-is, h.deep, h.values-size)

    -- ---- what it does
    module _ (rooms : Rooms) (steps : ℕ) (out : List ℕ) where
      abbrev S : State
      S = state_here code values base i h rooms steps out

      abbrev M : Memory
      M = memory_of S (call_here code values base i h rooms steps out)

      enters-with : ℤ → ℤ → ℤ → Effect
      enters-with a b c = looping t a (record { end = b; step = c }) (value_at (cells_of code) enter.d) (link_at (cells_of code) i) (on_top (set_loop t (record { end = b; step = c })) S)

      to-then : ℤ → ℤ → Effect
      to-then a b = with_value (step_worth M enter.c a b) S (enters-with a b)

      from-then : ℤ → Effect
      from-then a = with_value (worth M enter.to) S (to-then a)

      enter-effect : effect_at h.P h.R rooms (cells_of values) h.d i steps out ≡ with_value (worth M enter.from) S from-then
      unfolding perform entering from-then to-then enters-with
      enter-effect =
          effect-here code values base i h rooms steps out (link_at (cells_of code) i) (enter_for t enter.from enter.to enter.c (value_at (cells_of code) enter.d)) enter.after_is does-is
          ∙ ap (λ (f : ℤ → ℤ → (ℤ → Effect) → Effect). with_value (worth M enter.from) S (λ a. with_value (worth M enter.to) S (λ b. f a b (λ c.
          looping t a (record { end = b; step = c }) (value_at (cells_of code) enter.d) (link_at (cells_of code) i) (on_top (set_loop t (record { end = b; step = c })) S))))) steps-as
        where
          steps-as : ◌≡◌ {A = ℤ → ℤ → (ℤ → Effect) → Effect} (λ a b go. with_step M enter.c a b S go) (λ a b go. with_value (step_worth M enter.c a b) S go)
          steps-as j a b go = step-as M enter.c a b S go j

  module _ (to : ℕ) (pt : Part half_end (link_at (cells_of code) (i + 2)) to) where
    from-reads : (h : Here code values base i) → term_in (m-here h) (n-here h) (cells_of code) (i + 3) to ≡ some (enter h).from
    from-reads h = ap (term_in (m-here h) (n-here h) (cells_of code) (i + 3)) pt.same ∙ (enter h).from-reads

    pub from-stands : Here code values base i → Stands code (i + 3) to
    from-stands h = stands_here code values base i h (i + 3) to (enter h).from (from-reads h)

    pub to_in : Here code values base i → to * 8 + 8 ≤ length code
    to_in h = rw pt.same (to_at h)

    module _ (s : ℕ) (ps : Part half_end (link_at (cells_of code) to) s) where
      s-is : s ≡ link_at (cells_of code) (link_at (cells_of code) (i + 2))
      s-is = ps.same ∙ ap (link_at (cells_of code)) pt.same

      to_reads : (h : Here code values base i) → term_in (m-here h) (n-here h) (cells_of code) (to + 1) s ≡ some (enter h).to
      to_reads h = ap₂ (λ (x y : ℕ). term_in (m-here h) (n-here h) (cells_of code) (x + 1) y) pt.same s-is ∙ (enter h).to_reads

      pub to-stands : Here code values base i → Stands code (to + 1) s
      to-stands h = stands_here code values base i h (to + 1) s (enter h).to (to_reads h)

      pub for-steps : Here code values base i → ForSteps code s
      for-steps h = steps-at h s s-is

      -- the DO
      do-in : Here code values base i → (o : ℕ) → DoAt code s o → o * 8 + 8 ≤ length code
      do-in h o po =
          let e = po.is (counts-here code values base i h) (code_here code values base i h).function h.text h.R (enter h).c (enter h).d
          (ap (for_step (m-here h) (n-here h) (code_here code values base i h).function h.text h.R (cells_of code)) s-is ∙ (enter h).step) in
          omega (arith, do-at h)

    module _ (a : ℤ) (sa : SFits w64 a) (va : Evaluated code values base (i + 3) to a) where
      pub from-fails : le_z (pos first_error) (read a) ≡ true → Performs code values values base i (read a)
      from-fails k =
          rw (to_z-of_z sa) (performs code values base i a (λ h rooms steps out.
          failed-here code values base i h rooms steps out (i + 3) to (enter h).from (from-reads h) a va (told-error a sa k) (from-then h rooms steps out) _ (enter-effect h rooms steps out)))

      module _ (ka : le_z (pos first_error) (read a) ≡ false) where
        from-given : (h : Here code values base i) (rooms : Rooms) (steps : ℕ) (out : List ℕ) → effect_at h.P h.R rooms (cells_of values) h.d i steps out ≡ with_value (worth (M h rooms steps out) (enter h).to) (S h rooms steps out) (to-then h rooms steps out a)
        unfolding with_value from-then
        from-given h rooms steps out =
            enter-effect h rooms steps out ∙ ap (λ (y : Value). with_value y (S h rooms steps out) (from-then h rooms steps out))
            (value-here code values base i h rooms steps out (i + 3) to (enter h).from (from-reads h) a va (told-value a sa ka))

        module _ (s : ℕ) (ps : Part half_end (link_at (cells_of code) to) s) where
          module _ (b : ℤ) (sb : SFits w64 b) (vb : Evaluated code values base (to + 1) s b) where
            pub to-fails : le_z (pos first_error) (read b) ≡ true → Performs code values values base i (read b)
            to-fails k =
                rw (to_z-of_z sb) (performs code values base i b (λ h rooms steps out.
                failed-here code values base i h rooms steps out (to + 1) s (enter h).to (to_reads s ps h) b vb (told-error b sb k) (to-then h rooms steps out a) _ (from-given h rooms steps out)))

            module _ (kb : le_z (pos first_error) (read b) ≡ false) where
              to-given : (h : Here code values base i) (rooms : Rooms) (steps : ℕ) (out : List ℕ)
                  → effect_at h.P h.R rooms (cells_of values) h.d i steps out ≡ with_value (step_worth (M h rooms steps out) (enter h).c a b) (S h rooms steps out) (enters-with h rooms steps out a b)
              unfolding with_value to-then
              to-given h rooms steps out =
                  from-given h rooms steps out ∙ ap (λ (y : Value). with_value y (S h rooms steps out) (to-then h rooms steps out a))
                  (value-here code values base i h rooms steps out (to + 1) s (enter h).to (to_reads s ps h) b vb (told-value b sb kb))

              module _ (c : ℤ) (sc : SFits w64 c) (vr : StepGiven code values base s (read a) (read b) c) where
                vc : StepGiven code values base s a b c
                vc = let from : StepGiven code values base s a (read b) c = rw (to_z-of_z sa) at vr in rw (to_z-of_z sb) at from

                step-worth : (h : Here code values base i) (rooms : Rooms) (steps : ℕ) (out : List ℕ) → step_worth (M h rooms steps out) (enter h).c a b ≡ decoded c
                step-worth h rooms steps out =
                    ap (λ (N : Memory). step_worth N (enter h).c a b) (memory-here code values base i h rooms steps out)
                    ∙ sym (ap (λ (x : ℕ). step_worth (memory_in (m-here h) (n-here h) (cells_of values) x) (enter h).c a b) h.base-is)
                    ∙ sym (vc.is (counts-here code values base i h) (code_here code values base i h).function h.text h.R (enter h).c (enter h).d
                    (ap (for_step (m-here h) (n-here h) (code_here code values base i h).function h.text h.R (cells_of code)) (s-is s ps) ∙ (enter h).step))

                pub step-fails : le_z (pos first_error) (read c) ≡ true → Performs code values values base i (read c)
                unfolding with_value
                step-fails k =
                    let l = told-error c sc k in
                    rw (to_z-of_z sc) (performs code values base i c (λ h rooms steps out.
                    let w = step-worth h rooms steps out ∙ is-error c l in
                    fails (nat_abs c - first_error) (error-is c l) (step-error (M h rooms steps out) (enter h).c a b (nat_abs c - first_error) w) h.live
                    (to-given h rooms steps out ∙ ap (λ (y : Value). with_value y (S h rooms steps out) (enters-with h rooms steps out a b)) w)))

                module _ (kc : le_z (pos first_error) (read c) ≡ false) where
                  pub head-begins : Here code values base i → Begins code values base i t s (read a) (read b) (read c)
                  head-begins h = record {
                    here = h;
                    says = q;
                    to = to;
                    to_is = pt;
                    s-is = ps;
                    from-given = rw (to_z-of_z sa) va;
                    from-value = rw (to_z-of_z sa) (told-value a sa ka);
                    to-given = rw (to_z-of_z sb) vb;
                    to-value = rw (to_z-of_z sb) (told-value b sb kb);
                    step_given = rw (to_z-of_z sc) vr;
                    step_value = rw (to_z-of_z sc) (told-value c sc kc);
                  }

                  step_is : (h : Here code values base i) (rooms : Rooms) (steps : ℕ) (out : List ℕ) → effect_at h.P h.R rooms (cells_of values) h.d i steps out ≡ enters-with h rooms steps out a b c
                  unfolding with_value
                  step_is h rooms steps out =
                      to-given h rooms steps out ∙ ap (λ (y : Value). with_value y (S h rooms steps out) (enters-with h rooms steps out a b)) (step-worth h rooms steps out ∙ is-value c (told-value c sc kc))

                  a_small : SFits w32 a
                  a_small = va.small (told-value a sa ka)

                  b-small : SFits w32 b
                  b-small = vb.small (told-value b sb kb)

                  c-small : SFits w32 c
                  c-small = vc.small (told-value c sc kc)

                  module _ (v1 v2 : List ℕ) (d1 : Stored values v1 (base + t + ends_cell) (read b)) (d2 : Stored v1 v2 (base + t + steps_cell) (read c)) where
                    -- the store with the loop in it
                    Y-is : cells_of v2 ≡ set (set (cells_of values) (base + t + ends_cell) (of_z w32 b)) (base + t + steps_cell) (of_z w32 c)
                    Y-is =
                        d2.words ∙ ap₂ (λ (Z : List ℕ) (z : ℤ). set Z (base + t + steps_cell) (of_z w32 z)) (d1.words ∙ ap (λ (z : ℤ). set (cells_of values) (base + t + ends_cell) (of_z w32 z)) (to_z-of_z sb)) (to_z-of_z sc)

                    Y : List ℕ
                    Y = set (set (cells_of values) (base + t + ends_cell) (of_z w32 b)) (base + t + steps_cell) (of_z w32 c)

                    module _ (h : Here code values base i) where
                      t-room : t < 64
                      t-room = omega (arith, t-fits h, (routine-holds code values base i h).room)

                      Y-roomy : Roomy h.P Y h.d
                      unfolding Y
                      Y-roomy =
                          let g = roomy h in
                          record {
                            long = length-set (set (cells_of values) (base + t + ends_cell) (of_z w32 b)) (base + t + steps_cell) (of_z w32 c) ∙ length-set (cells_of values) (base + t + ends_cell) (of_z w32 b) ∙ g.long;
                            deep = g.deep;
                            words = g.words;
                            calls = g.calls;
                          }

                      Y-live : Live h.P h.R Y h.d i
                      unfolding Y
                      Y-live =
                          live-call h.P h.R (set (cells_of values) (base + t + ends_cell) (of_z w32 b)) h.d (base + t + steps_cell) (of_z w32 c) i
                          (live-call h.P h.R (cells_of values) h.d (base + t + ends_cell) (of_z w32 b) i h.live h.d (t + ends_cell) (omega (arith, t-room)) (omega (arith, h.base-is)))
                          h.d (t + steps_cell) (omega (arith, t-room)) (omega (arith, h.base-is))

                      Y-same : (j : ℕ) → (j ≡ base + t + ends_cell → ⊥) → (j ≡ base + t + steps_cell → ⊥) → Same (cells_of values) Y j
                      unfolding Y
                      Y-same j x y = set_same (set (cells_of values) (base + t + ends_cell) (of_z w32 b)) (base + t + steps_cell) (of_z w32 c) j y ∙ set_same (cells_of values) (base + t + ends_cell) (of_z w32 b) j x

                      Y-code : code_of_call h.P h.R Y h.d ≡ code_here code values base i h
                      Y-code = routine-code h.P h.R (cells_of values) Y h.d (Y-same (window_of h.d + routine_cell) (λ e. omega (arith, t-room, h.base-is)) (λ e. omega (arith, t-room, h.base-is)))

                      Y-kept : KeepsRun (cells_of values) Y
                      Y-kept j x y = Y-same j (λ e. omega (arith, t-room, h.base-is)) (λ e. omega (arith, t-room, h.base-is))

                      Y-state : (rooms : Rooms) (steps : ℕ) (out : List ℕ) → on_top (set_loop t (record { end = b; step = c })) (S h rooms steps out) ≡ state_in h.P h.R Y h.d i steps out
                      unfolding Y
                      Y-state rooms steps out =
                          ap (λ (l : Loop). on_top (set_loop t l) (S h rooms steps out)) (λ j. record { end = sym (to_z-of_z b-small) j; step = sym (to_z-of_z c-small) j })
                          ∙ sym (call-loop h.P h.R (cells_of values) h.d (roomy h) t (of_z w32 b) (of_z w32 c) (base + t + ends_cell) (base + t + steps_cell) (omega (arith, h.base-is)) (omega (arith, h.base-is)) i steps out (t-own h) (t-fits h))

                    module _ (x : Bool) (ex : x ≡ passes (read a) (record { end = read b; step = read c })) where
                      told : (y : Bool) → x ≡ y → passes a (record { end = b; step = c }) ≡ y
                      told y e =
                          let loops : ◌≡◌ {A = Loop} (record { end = read b; step = read c }) (record { end = b; step = c }) = λ j. record { end = to_z-of_z sb j; step = to_z-of_z sc j } in
                          ap₂ (λ (z : ℤ) (l : Loop). passes z l) (sym (to_z-of_z sa)) (sym loops) ∙ sym ex ∙ e

                      for-skips : x ≡ false → Here code values base i → (k : ℕ) → Part half_end (link_at (cells_of code) i) k → Performs code values v2 base i (to_z w64 k)
                      unfolding looping enters-with Y
                      for-skips y here k p = record {
                        long = d2.long ∙ d1.long;
                        kept = λ j l g. subst (λ (Z : List ℕ). get_or Z j 0 ≡ get_or (cells_of values) j 0) (sym Y-is) (Y-kept here j l g);
                        does = λ h rooms steps out.
                            let f = link_at (cells_of code) i in
                            let small = (small-name code values base i h f (after-named h)).1 in
                            subst (λ (Z : List ℕ). Comes h.P h.R (cells_of code) h.offset h.d i steps (cells_of values) Z out out (effect_at h.P h.R rooms (cells_of values) h.d i steps out) (to_z w64 k)) (sym Y-is)
                            (rw p.same (goes_on f (to_z_pos w64 f (omega arith))
                            (live-next h.P h.R Y h.d i f (Y-live h) (ap (λ (w : Code). is_named w.steps f) (Y-code h) ∙ after-named h))
                            (step_is h rooms steps out ∙ rw (told false y, looping) (ap (λ (T : State). made (on_top (go_to f) T)) (Y-state h rooms steps out)) ∙ ap made (sym (goes_to h.P h.R Y h.d i steps out f)))));
                      }

                      for-enters : x ≡ true → Here code values base i → (v3 : List ℕ) → Stored v2 v3 (base + t) (read a) → (o : ℕ) → DoAt code s o → (k : ℕ) → Part value_end (value_at (cells_of code) o) k
                          → Performs code values v3 base i (to_z w64 k)
                      unfolding looping enters-with Y
                      for-enters y here v3 d3 o po k p = record {
                        long = d3.long ∙ d2.long ∙ d1.long;
                        kept = λ j l g.
                            subst (λ (Z : List ℕ). get_or Z j 0 ≡ get_or (cells_of values) j 0) (sym (Z-is here))
                            (set_same Y (window_of here.d + t) (of_z w32 a) j (λ e. omega (arith, t-room here)) ∙ Y-kept here j l g);
                        does = λ h rooms steps out.
                            let f = value_at (cells_of code) (enter h).d in
                            subst (λ (Z : List ℕ). Comes h.P h.R (cells_of code) h.offset h.d i steps (cells_of values) Z out out (effect_at h.P h.R rooms (cells_of values) h.d i steps out) (to_z w64 k)) (sym (Z-is h))
                            (rw (k-is h) (word-goes h.P h.R (cells_of code) h.offset (cells_of values) Y h.d i steps out (Y-roomy h) (Y-live h) t a f
                            (subst (λ (w : Code). t < slots_of_call w) (sym (Y-code h)) (t-fits h)) a_small (ap (λ (w : Code). is_named w.steps f) (Y-code h) ∙ body-named h)
                            (small-name code values base i h f (body-named h)).1 _
                            (step_is h rooms steps out ∙ rw (told true y, looping) (ap (λ (T : State). made (on_top (go_to f) (on_top (set_word t a) T))) (Y-state h rooms steps out)))));
                      }
                        where
                          Z-is : (h : Here code values base i) → cells_of v3 ≡ set Y (window_of h.d + t) (of_z w32 a)
                          Z-is h = d3.words ∙ ap₂ (λ (Z : List ℕ) (z : ℤ). set Z (base + t) (of_z w32 z)) Y-is (to_z-of_z sa) ∙ ap (λ (x : ℕ). set Y (x + t) (of_z w32 a)) h.base-is

                          k-is : (h : Here code values base i) → k ≡ value_at (cells_of code) (enter h).d
                          k-is h =
                              p.same ∙ ap (value_at (cells_of code)) (po.is (counts-here code values base i h) (code_here code values base i h).function h.text h.R (enter h).c (enter h).d
                              (ap (for_step (m-here h) (n-here h) (code_here code values base i h).function h.text h.R (cells_of code)) (s-is s ps) ∙ (enter h).step))

-- ---- the first test, once the head is worked out
untold : (r : ℤ) → SFits w64 r → lt_z r (pos first_error) ≡ true → le_z (pos first_error) (read r) ≡ false
untold r s h = rw (to_z-of_z s) (sym (not-less (pos first_error) r) ∙ ap not h)

module _ (code values : List ℕ) (base i t s : ℕ) (a b c : ℤ) (g : Begins code values base i t s a b c) where
  pub loop-inside : (base + t + steps_cell) * 4 + 4 ≤ length values
  loop-inside = for-inside code values base i t g.says g.here

  pub end-inside : (base + t + ends_cell) * 4 + 4 ≤ length values
  end-inside = omega (arith, loop-inside)

  pub first-steps : ForSteps code s
  first-steps = for-steps code values base i t g.says g.to g.to_is s g.s-is g.here

  pub first-do-in : (o : ℕ) → DoAt code s o → o * 8 + 8 ≤ length code
  first-do-in = do-in code values base i t g.says g.to g.to_is s g.s-is g.here

  pub for-in : i * 8 + 8 ≤ length code
  for-in = step-in code values base i g.here

  -- values have 32 bits
  pub from-small : SFits w64 a → SFits w32 (read a)
  from-small f = rw (to_z-of_z f) (g.from-given.small g.from-value)

  pub to-small : SFits w64 b → SFits w32 (read b)
  to-small f = rw (to_z-of_z f) (g.to-given.small g.to-value)

  pub step_small : SFits w64 c → SFits w32 (read c)
  step_small f = rw (to_z-of_z f) (g.step_given.small g.step_value)

  module _ (v1 : List ℕ) (d1 : Stored values v1 (base + t + ends_cell) (read b)) where
    pub step-inside : (base + t + steps_cell) * 4 + 4 ≤ length v1
    step-inside = omega (arith, loop-inside, d1.long)

    module _ (v2 : List ℕ) (d2 : Stored v1 v2 (base + t + steps_cell) (read c)) where
      pub word-inside : (base + t) * 4 + 4 ≤ length v2
      word-inside = omega (arith, loop-inside, d1.long, d2.long)

      module _ (sa : SFits w64 a) (sb : SFits w64 b) (sc : SFits w64 c) (x : Bool) (ex : x ≡ passes (read a) (record { end = read b; step = read c })) where
        step-read : StepGiven code values base s (read a) (read b) c
        step-read = rw (to_z-of_z sa, to_z-of_z sb) g.step_given

        pub begin-skips : x ≡ false → (k : ℕ) → Part half_end (link_at (cells_of code) i) k → Performs code values v2 base i (to_z w64 k)
        begin-skips y k p =
            for-skips code values base i t g.says g.to g.to_is a sa g.from-given (untold a sa g.from-value) s g.s-is b sb g.to-given (untold b sb g.to-value)
            c sc step-read (untold c sc g.step_value) v1 v2 d1 d2 x ex y g.here k p

        pub begin-enters : x ≡ true → (v3 : List ℕ) → Stored v2 v3 (base + t) (read a) → (o : ℕ) → DoAt code s o → (k : ℕ) → Part value_end (value_at (cells_of code) o) k
            → Performs code values v3 base i (to_z w64 k)
        begin-enters y v3 d3 o po k p =
            for-enters code values base i t g.says g.to g.to_is a sa g.from-given (untold a sa g.from-value) s g.s-is b sb g.to-given (untold b sb g.to-value)
            c sc step-read (untold c sc g.step_value) v1 v2 d1 d2 x ex y g.here v3 d3 o po k p
