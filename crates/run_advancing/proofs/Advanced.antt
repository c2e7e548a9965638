-- A whole step: how the run goes on by what it answers.
use mathlib.Core.Path.{◌≡◌, refl, sym, ap, ap₂, subst, ◌∙◌}
use mathlib.Core.Bool.{Bool, true, false}
use mathlib.Core.List.{List, map}
use Prim.Native.Nat.{ℕ, suc, ◌+◌, ◌-◌, ◌<◌, ◌≤◌}
use native.Mathlib.Omega.{arith}
use lib.Dec.{T}
use lib.ListN.{length}
use lib.IntN.{ℤ, pos, nat_abs}
use lib.Signed.{lt_z, non_neg}
use mir.Syntax.{w32, w64}
use mir.Val.{Fits, SFits, to_z}
use mir.Facts.{to_z-of_z}
use Rattle.paper.specs.States.{State, Rooms, Effect, made, handing, ending}
use Rattle.paper.specs.Running.{next_step, step_of, Outcome, goes_on}
use Rattle.paper.specs.Words.{word_limit}
use Rattle.store_numbers.proofs.Whole.{read}
use Rattle.store_cells.specs.Cells.{cells_of}
use Rattle.code.specs.Cells.{window_of, place_at, window_cells}
use Rattle.code.specs.Windows.{call_in, waiting, state_in}
use Rattle.store_evaluation.specs.Answers.{first_error}
use Rattle.store_evaluation.specs.Parts.{addresses}
use Rattle.layout.specs.Endings.{ending_number}
use Rattle.run_machine.specs.Live.{Live}
use Rattle.run_machine.specs.Machine as machine
use Rattle.run_machine.specs.Machine.{depth_limit, entered, left, ended, lacked_by, handed, Here, LastWindow, Lends, Comes, enters, leaves, Steps, Stepped, effect_at}
use Rattle.run_machine.proofs.Current.{place_here, small-name}
use Rattle.run_machine.proofs.Elsewhere.{elsewhere}
use Rattle.run_errors.specs.declared.Machine.{Machine}
use Rattle.run_advancing.specs.declared.Turn.{Turn}
use Rattle.run_advancing.specs.declared.Turn.TheVariants.{On}
use Rattle.run_advancing.specs.Turns.{turned, Turns, on, Leaves, Advances, Breaks, ends, lacks, hands, fails, Unmade, outcome, Settled}
use Rattle.run_advancing.proofs.OneStep.{failed-calls, turned-is, turned-made, counted_is, failed-outcome}
use Rattle.run_advancing.proofs.Answers.{answer-below, answer-above, answer-is, answer-casts, lacked_by-is, leaves-then, leaves_kept, leaves-step}

module _ (text code values inputs out : List ℕ) (last : ℕ) (m : Machine) (a : Bool) (st : Steps text code values out m.base last m.next)
    (after out' : List ℕ) (r : ℤ) (s : SFits w64 r) (sd : Stepped text code values after inputs out out' m.base last m.next r) where
  abbrev i : ℕ
  i = m.next

  step-leaves : Leaves values after out out'
  step-leaves = leaves-step text code values after inputs out out' m.base last i r st.here sd

  module _ (h : Here code values m.base m.next) (x : h.text ≡ text) (rooms : Rooms) (lw : LastWindow rooms last) (l : Lends rooms inputs out) (steps : ℕ) where
    abbrev S : State
    S = state_in h.P h.R (cells_of values) h.d i steps out

    abbrev E : Effect
    E = effect_at h.P h.R rooms (cells_of values) h.d i steps out

    abbrev place-now : ℕ
    place-now = (next_step h.P (call_in h.P h.R (cells_of values) (window_of h.d) i)).place

    now-place : place_at (cells_of code) i ≡ h.offset place-now
    unfolding next_step step_of call_in
    now-place = place_here code values m.base i h

    abbrev Came : Type 0
    Came = Comes h.P h.R (cells_of code) h.offset h.d i steps (cells_of values) (cells_of after) out out' E r

    came : Came
    came = sd.does h x rooms lw l steps

    low : (e n : ℕ) → e < depth_limit → Live h.P h.R (cells_of after) e n → n < word_limit
    low e n de lv = (small-name code after (window_of e) n (elsewhere h after e (window_of e) n sd.long de refl lv) n lv.named).1

    abbrev Goes : (X : List ℕ) (t : Turn) → Type 0
    Goes X t = Turns a h.P h.R h.offset h.d i steps X out' (turned a h.P rooms S) t

    -- it is made
    goes-made : (e n : ℕ) → E ≡ made (state_in h.P h.R (cells_of after) e n steps out') → e < depth_limit → Live h.P h.R (cells_of after) e n
        → (j : Machine) → j.next ≡ n → j.base ≡ window_of e → Goes (cells_of after) (On j)
    goes-made e n q de lv j en b =
        on e j refl de b (subst (Live h.P h.R (cells_of after) e) (sym en) lv)
        (turned-made h.P rooms h.R (cells_of values) h.d i steps out a (state_in h.P h.R (cells_of after) e n steps out') q
        ∙ ap goes_on (counted_is h.P rooms h.R (cells_of after) e n steps out' ∙ ap (λ (k : ℕ). state_in h.P h.R (cells_of after) e k (steps + 1) out') (sym en)))

    number_by : Came → (k : ℕ) × (r ≡ pos k)
    number_by (machine.goes_on n e lv q) = (n, e)
    number_by (enters n e de lv q) = (entered + n, e)
    number_by (leaves c n e z lv q) = (left + n, e)
    number_by (machine.fails e z f lv q) = (first_error + e, z)
    number_by (machine.hands e x y q) = (handed, e)
    number_by (machine.ends n e f x y q) = (ended + ending_number n, e)
    number_by (machine.lacks n w at e f j k pl x y q) = (lacked_by n + w, e)

    -- ---- by the answer
    -- the next step
    arm_goes : lt_z (read r) (pos entered) ≡ true → Came → Goes (cells_of after) (On (record { next = nat_abs (read r); base = m.base }))
    arm_goes z (machine.goes_on n e lv q) = goes-made h.d n q h.deep lv (record { next = nat_abs (read r); base = m.base }) (answer-is r s n e) h.base-is
    arm_goes z (enters n e de lv q) = absurd (omega (arith, answer-below r s (entered + n) e entered z))
    arm_goes z (leaves c n e y lv q) = absurd (omega (arith, answer-below r s (left + n) e entered z))
    arm_goes z (machine.fails e y f lv q) = absurd (omega (arith, answer-below r s (first_error + e) y entered z))
    arm_goes z (machine.hands e v w q) = absurd (omega (arith, answer-below r s handed e entered z))
    arm_goes z (machine.ends n e f v w q) = absurd (omega (arith, answer-below r s (ended + ending_number n) e entered z))
    arm_goes z (machine.lacks n w at e f u j pl v y q) = absurd (omega (arith, answer-below r s (lacked_by n + w) e entered z, lacked_by-is n))

    -- a call is entered
    module _ (z : lt_z (read r) (pos entered) ≡ false) where
      arm-enters : lt_z (read r) (pos left) ≡ true → Came → Goes (cells_of after) (On (record { next = nat_abs (read r) - entered; base = m.base + window_cells }))
      arm-enters y (machine.goes_on n e lv q) = absurd (omega (arith, answer-above r s n e entered z, low h.d n h.deep lv))
      arm-enters y (enters n e de lv q) =
          goes-made (suc h.d) n q de lv (record { next = nat_abs (read r) - entered; base = m.base + window_cells }) (omega (arith, answer-is r s (entered + n) e)) (omega (arith, h.base-is))
      arm-enters y (leaves c n e o lv q) = absurd (omega (arith, answer-below r s (left + n) e left y))
      arm-enters y (machine.fails e o f lv q) = absurd (omega (arith, answer-below r s (first_error + e) o left y))
      arm-enters y (machine.hands e v w q) = absurd (omega (arith, answer-below r s handed e left y))
      arm-enters y (machine.ends n e f v w q) = absurd (omega (arith, answer-below r s (ended + ending_number n) e left y))
      arm-enters y (machine.lacks n w at e f u j pl v o q) = absurd (omega (arith, answer-below r s (lacked_by n + w) e left y, lacked_by-is n))

      -- a call is left
      module _ (y : lt_z (read r) (pos left) ≡ false) where
        arm-leaves : lt_z (read r) (pos ended) ≡ true → Came → (window_cells ≤ m.base) × Goes (cells_of after) (On (record { next = nat_abs (read r) - left; base = m.base - window_cells }))
        arm-leaves v (machine.goes_on n e lv q) = absurd (omega (arith, answer-above r s n e entered z, low h.d n h.deep lv))
        arm-leaves v (enters n e de lv q) = absurd (omega (arith, answer-above r s (entered + n) e left y, low (suc h.d) n de lv))
        arm-leaves v (leaves c n e o lv q) = (
          omega (arith, h.base-is),
          goes-made c n q (omega (arith, h.deep)) lv (record { next = nat_abs (read r) - left; base = m.base - window_cells }) (omega (arith, answer-is r s (left + n) e)) (omega (arith, h.base-is)),
        )
        arm-leaves v (machine.fails e o f lv q) = absurd (omega (arith, answer-below r s (first_error + e) o ended v))
        arm-leaves v (machine.hands e u w q) = absurd (omega (arith, answer-below r s handed e ended v))
        arm-leaves v (machine.ends n e f u w q) = absurd (omega (arith, answer-below r s (ended + ending_number n) e ended v))
        arm-leaves v (machine.lacks n w at e f u j pl o k q) = absurd (omega (arith, answer-below r s (lacked_by n + w) e ended v, lacked_by-is n))

        -- it is not made
        module _ (v : lt_z (read r) (pos ended) ≡ false) where
          pub record Stands : Type 0 where
            pub live : Live h.P h.R (cells_of after) h.d i
            pub broken : Breaks h.P h.R (cells_of code) h.offset h.d i steps (cells_of after) out' E r
            -- the rules make the same of it with the callers and the state that it leaves
            pub same : outcome a h.P place-now (waiting h.P h.R (cells_of values) h.d) S E
                ≡ outcome a h.P place-now (waiting h.P h.R (cells_of after) h.d) (state_in h.P h.R (cells_of after) h.d i steps out') E

          same-state : cells_of after ≡ cells_of values → out' ≡ out → state_in h.P h.R (cells_of after) h.d i steps out' ≡ S
          same-state b c = ap₂ (λ (X o : List ℕ). state_in h.P h.R X h.d i steps o) b c

          -- where nothing is touched
          untouched : cells_of after ≡ cells_of values → out' ≡ out → Breaks h.P h.R (cells_of code) h.offset h.d i steps (cells_of after) out' E r → Stands
          untouched b c br = record {
            live = subst (λ (X : List ℕ). Live h.P h.R X h.d i) (sym b) h.live;
            broken = br;
            same = sym (ap₂ (λ (X o : List ℕ). outcome a h.P place-now (waiting h.P h.R X h.d) (state_in h.P h.R X h.d i steps o) E) b c);
          }

          arm-breaks : Came → Stands
          arm-breaks (machine.goes_on n e lv q) = absurd (omega (arith, answer-above r s n e entered z, low h.d n h.deep lv))
          arm-breaks (enters n e de lv q) = absurd (omega (arith, answer-above r s (entered + n) e left y, low (suc h.d) n de lv))
          arm-breaks (leaves c n e o lv q) = absurd (omega (arith, answer-above r s (left + n) e ended v, low c n (omega (arith, h.deep)) lv))
          arm-breaks (machine.fails e o f lv q) = record {
            live = lv;
            broken = fails e o f q;
            same = failed-outcome a h.P _ _ _ _ _ _ e _ q (failed-calls h.P rooms h.R (cells_of values) h.d i steps out (cells_of after) out' e q);
          }
          arm-breaks (machine.hands e b c q) = untouched b c (hands e (q ∙ ap handing (sym (same-state b c))))
          arm-breaks (machine.ends n e f b c q) = untouched b c (ends n e f (q ∙ ap (ending (ending_number n)) (sym (same-state b c))))
          arm-breaks (machine.lacks n w at e f u j pl b c q) = untouched b c (lacks n w at e f u j pl q)

          abbrev after-here : Stands → Here code after m.base m.next
          after-here t = elsewhere h after h.d m.base i sd.long h.deep h.base-is t.live

          -- by what the rules make of it
          settled-turn : (b : Bool) → a ≡ b → (after2 : List ℕ) (t : Turn) → Settled b code after after2 m.base i r t → Goes (cells_of after2) t
          settled-turn b ab after2 t w =
              let q = arm-breaks came in
              let w' : Settled a code after after2 m.base i r t = subst (λ (c : Bool). Settled c code after after2 m.base i r t) (sym ab) w in
              subst (λ (o : Outcome). Turns a h.P h.R h.offset h.d i steps (cells_of after2) out' o t)
              (sym (turned-is h.P rooms h.R (cells_of values) h.d i steps out a ∙ q.same))
              (w'.is (after-here q) place-now steps out' E now-place q.broken)

  -- ---- what the code does with it
  -- as much is lent as the slices have
  lent : Rooms
  lent = record { depth = st.rooms.depth; output = length out; inputs = map (to_z w32) (cells_of inputs) }

  lent-deepest : LastWindow lent last
  unfolding lent
  lent-deepest = let w = st.deepest in record { some = w.some; most = w.most; is = w.is }

  lent-lends : Lends lent inputs out
  unfolding lent
  lent-lends = record { room = refl; reads = refl }

  abbrev given : Came st.here st.text-is lent lent-deepest lent-lends 0
  given = came st.here st.text-is lent lent-deepest lent-lends 0

  number : (k : ℕ) × (r ≡ pos k)
  number = number_by st.here st.text-is lent lent-deepest lent-lends 0 given

  pub step-cast : T (non_neg (read r)) × Fits w64 (nat_abs (read r))
  step-cast = let q = number in answer-casts r s q.0 q.1

  step-sub : (c : ℕ) → lt_z (read r) (pos c) ≡ false → c ≤ nat_abs (read r)
  step-sub c z = let q = number in omega (arith, answer-above r s q.0 q.1 c z, answer-is r s q.0 q.1)

  pub step-up : m.base + window_cells < addresses
  step-up = omega (arith, st.here.base-is, st.here.deep)

  pub step-goes : lt_z (read r) (pos entered) ≡ true → Advances text code values after inputs out out' last m a (On (record { next = nat_abs (read r); base = m.base }))
  step-goes z = record { leaves = step-leaves; is = λ h x rooms lw l steps. arm_goes h x rooms lw l steps z (came h x rooms lw l steps) }

  module _ (z : lt_z (read r) (pos entered) ≡ false) where
    pub step-sub-1 : entered ≤ nat_abs (read r)
    step-sub-1 = step-sub entered z

    pub step-enters : lt_z (read r) (pos left) ≡ true → Advances text code values after inputs out out' last m a (On (record { next = nat_abs (read r) - entered; base = m.base + window_cells }))
    step-enters y = record { leaves = step-leaves; is = λ h x rooms lw l steps. arm-enters h x rooms lw l steps z y (came h x rooms lw l steps) }

    module _ (y : lt_z (read r) (pos left) ≡ false) where
      pub step-sub-2 : left ≤ nat_abs (read r)
      step-sub-2 = step-sub left y

      pub step_down : lt_z (read r) (pos ended) ≡ true → window_cells ≤ m.base
      step_down v = (arm-leaves st.here st.text-is lent lent-deepest lent-lends 0 z y v given).0

      pub step_back : lt_z (read r) (pos ended) ≡ true → Advances text code values after inputs out out' last m a (On (record { next = nat_abs (read r) - left; base = m.base - window_cells }))
      step_back v = record { leaves = step-leaves; is = λ h x rooms lw l steps. (arm-leaves h x rooms lw l steps z y v (came h x rooms lw l steps)).1 }

      -- it is not made
      module _ (v : lt_z (read r) (pos ended) ≡ false) where
        pub step-unmade : Unmade code after m.base m.next (read r)
        step-unmade =
            let q = arm-breaks st.here st.text-is lent lent-deepest lent-lends 0 z y v given in
            record {
              here = after-here st.here st.text-is lent lent-deepest lent-lends 0 z y v q;
              steps = 0;
              out = out';
              E = _;
              broken = subst (Breaks st.here.P st.here.R (cells_of code) st.here.offset st.here.d i 0 (cells_of after) out' _) (sym (to_z-of_z s)) q.broken;
            }

        module _ (after2 : List ℕ) (t : Turn) where
          by-rules : (b : Bool) → a ≡ b → Settled b code after after2 m.base m.next (read r) t → Advances text code values after2 inputs out out' last m a t
          by-rules b ab w =
              let w' : Settled b code after after2 m.base i r t = subst (λ (q : ℤ). Settled b code after after2 m.base i q t) (to_z-of_z s) w in
              record {
                leaves = leaves-then values after after2 out out' out' step-leaves (leaves_kept after after2 out' w.long w.kept step-leaves.fits);
                is = λ h x rooms lw l steps. settled-turn h x rooms lw l steps z y v b ab after2 t w';
              }

          pub step-quits : a ≡ true → Settled true code after after2 m.base m.next (read r) t → Advances text code values after2 inputs out out' last m a t
          step-quits ab w = by-rules true ab w

          pub step-takes : a ≡ false → Settled false code after after2 m.base m.next (read r) t → Advances text code values after2 inputs out out' last m a t
          step-takes ab w = by-rules false ab w
