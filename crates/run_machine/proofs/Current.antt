-- The step that comes next: what the table says of it, what the cells say, and where it leads.
use mathlib.Core.Path.{◌≡◌, refl, sym, ap, subst, ◌∙◌}
use mathlib.Core.Bool.{true, false}
use mathlib.Core.List.{List, [], ◌∷◌}
use mathlib.Core.Option.{some}
use Prim.Native.Nat.{ℕ, ◌+◌, ◌-◌, ◌*◌, ◌%◌, ◌<◌, ◌≤◌}
use native.Mathlib.Omega.{arith}
use lib.ListN.{length, get_or}
use lib.IntN.{ℤ, pos, negsuc, nat_abs}
use lib.Signed.{lt_z, le_z}
use mir.Syntax.{w64}
use mir.Val.{SFits, to_z, of_z}
use mir.Facts.{to_z-of_z}
use mir.ValLaws.{to_z_pos}
use borrow.Author.Tests.{eq-eqb, ne_eqb, ltb-false, not-true, not-false}
use Rattle.laws.proofs.Tests.{by-same, false-true}
use Rattle.paper.specs.Numbers.{Value, value, error, is_zero}
use Rattle.paper.specs.Terms.{Term, Memory, worth}
use Rattle.paper.specs.Steps.{Action, Step, Code}
use Rattle.paper.specs.States.{Call, State, Rooms, Effect, made, memory_of, go_to, on_top, with_value}
use Rattle.paper.specs.Running.{step_named, step_of, next_step, perform}
use Rattle.store_cells.specs.Cells.{cells_of}
use Rattle.code.specs.Cells.{window_of, place_at}
use Rattle.code.specs.Spans.{term_in, memory_in}
use Rattle.code.specs.Steps.{no_head, parts, action_in, step_in}
use Rattle.code.specs.Steps as steps
use Rattle.code.specs.Closed.{Every, done, also, is_named, Named, targets_of, OwnLoop}
use Rattle.code.specs.Holds.{known, CalleeIn, HoldsRoutine}
use Rattle.code.specs.Windows.{call_in, waiting, state_in}
use Rattle.code.proofs.Options.{same_some, went}
use Rattle.store_evaluation.specs.Answers.{first_error, decoded, Counts, Stores, Stands, Evaluated}
use Rattle.store_evaluation.proofs.Numbers.{is-value, is-error, not-less, zero_bits}
use Rattle.store_numbers.proofs.Whole.{read}
use Rattle.run_machine.specs.Live.{slots_of_call, routine_of_call, code_of_call}
use Rattle.run_machine.specs.Machine.{Here, effect_at, Comes, goes_on, fails, Performs}
use Rattle.run_machine.proofs.States.{goes_to}
use Rattle.run_machine.proofs.Living.{live-next}
use Rattle.raised.proofs.Raised.{worth-error}

-- ---- lists of steps
pub named-every : {A : Step → Type 0} (S : List Step) (i : ℕ) → Every A S → is_named S i ≡ true → A (step_named S i)
unfolding is_named step_named
named-every [] i done e = false-true e
named-every {A} (s ∷ r) i (also a rest) e =
    by-same s.name i
    (λ h. rw (eq-eqb s.name i h, step_named) a)
    (λ h. rw (ne_eqb s.name i h, step_named) (named-every {A = A} r i rest (rw (ne_eqb s.name i h, is_named) at e)))

pub named-name : (S : List Step) (i : ℕ) → is_named S i ≡ true → (step_named S i).name ≡ i
unfolding is_named step_named
named-name [] i e = false-true e
named-name (s ∷ r) i e =
    by-same s.name i
    (λ h. rw (eq-eqb s.name i h, step_named) h)
    (λ h. rw (ne_eqb s.name i h, step_named) (named-name r i (rw (ne_eqb s.name i h, is_named) at e)))

-- ---- an answer that is an error
pub error-is : (r : ℤ) → lt_z r (pos first_error) ≡ false → r ≡ pos (first_error + (nat_abs r - first_error))
error-is (pos k) h = ap pos (omega (arith, ltb-false k first_error h))
error-is (negsuc k) h = false-true (sym h)

-- ---- what the code's tests say of an answer
module _ (r : ℤ) (s : SFits w64 r) where
  pub told-error : le_z (pos first_error) (read r) ≡ true → lt_z r (pos first_error) ≡ false
  told-error h = not-true _ (not-less (pos first_error) r ∙ (rw (to_z-of_z s) at h))

  pub told-value : le_z (pos first_error) (read r) ≡ false → lt_z r (pos first_error) ≡ true
  told-value h = not-false _ (not-less (pos first_error) r ∙ (rw (to_z-of_z s) at h))

  pub told-zero : of_z w64 r ≡ 0 → is_zero r ≡ true
  told-zero h = sym (zero_bits r s) ∙ eq-eqb (of_z w64 r) 0 h

  pub told-other : (of_z w64 r ≡ 0 → ⊥) → is_zero r ≡ false
  told-other h = sym (zero_bits r s) ∙ ne_eqb (of_z w64 r) 0 h

-- a step that changes nothing but where the call is
pub performs : (code values : List ℕ) (base i : ℕ) (r : ℤ)
    → ((h : Here code values base i) (rooms : Rooms) (steps : ℕ) (out : List ℕ)
    → Comes h.P h.R (cells_of code) h.offset h.d i steps (cells_of values) (cells_of values) out out (effect_at h.P h.R rooms (cells_of values) h.d i steps out) r)
    → Performs code values values base i r
performs code values base i r f = record { long = refl; does = f; kept = λ c a b. refl }

-- ---- what the cells say of it
module _ (code values : List ℕ) (base i : ℕ) (h : Here code values base i) where
  -- the routine of the newest call, and its step
  abbrev pub code_here : Code
  code_here = code_of_call h.P h.R (cells_of values) h.d

  abbrev pub step_here : Step
  step_here = step_named code_here.steps i

  -- how many words the module has, and the call
  abbrev pub m : ℕ
  m = length h.P.words

  abbrev pub n : ℕ
  n = slots_of_call code_here

  abbrev pub C : List ℕ
  C = cells_of code

  abbrev pub X : List ℕ
  X = cells_of values

  pub routine-holds : HoldsRoutine m h.text h.R h.offset C (get_or h.R (routine_of_call h.P h.R X h.d) no_head) code_here
  routine-holds = h.holds.routines (routine_of_call h.P h.R X h.d) h.live.top.routine

  pub step-here : step_in m n code_here.function h.text h.R C i ≡ some (known h.offset step_here)
  step-here =
      subst (λ (j : ℕ). step_in m n code_here.function h.text h.R C j ≡ some (known h.offset step_here)) (named-name code_here.steps i h.live.named)
      (named-every code_here.steps i routine-holds.steps-are h.live.named)

  record Says : Type 0 where
    pub action : action_in m n code_here.function h.text h.R C i ≡ some (step_here.after, step_here.does)
    pub place : place_at C i ≡ h.offset step_here.place

  says : Says
  unfolding step_in known
  says =
      let g = went (action_in m n code_here.function h.text h.R C i) (λ r. some (record { offset = place_at C i; after = r.0; does = r.1 })) (known h.offset step_here) step-here in
      let q = same_some (record { offset = place_at C i; after = g.a.0; does = g.a.1 }) (known h.offset step_here) g.next in
      record { action = g.first ∙ ap (λ (s : steps.Stands). some (s.after, s.does)) q; place = ap (λ (s : steps.Stands). s.offset) q }

  pub action-here : action_in m n code_here.function h.text h.R C i ≡ some (step_here.after, step_here.does)
  action-here = says.action

  pub place_here : place_at C i ≡ h.offset step_here.place
  place_here = says.place

  -- ---- what an evaluation asks
  abbrev pub counts-here : Counts
  counts-here = record { m = m; n = n; most = h.holds.room; window = routine-holds.room }

  pub stores-here : Stores values base
  stores-here = record {
    words = omega (arith, h.values-size);
    call = omega (arith, h.values-size, h.base-is, h.deep);
    number = h.live.errno;
  }

  pub whole_here : length code % 8 ≡ 0
  whole_here = rw h.code-size

  pub stands_here : (from to : ℕ) (t : Term) → term_in m n C from to ≡ some t → Stands code from to
  stands_here from to t e = record { c = counts-here; t = t; is = e; whole = whole_here }

  -- ---- where it leads
  low-name : (j : ℕ) → is_named code_here.steps j ≡ true → (0 < j) × (j + 1 < parts)
  low-name j e =
      subst (λ (k : ℕ). (0 < k) × (k + 1 < parts)) (named-name code_here.steps j e) (named-every code_here.steps j routine-holds.small e)

  pub small-name : (j : ℕ) → is_named code_here.steps j ≡ true → (0 < j) × (j < parts)
  small-name j e = ((low-name j e).0, omega (arith, (low-name j e).1))

  pub small-next : (j : ℕ) → is_named code_here.steps j ≡ true → j + 1 < parts
  small-next j e = (low-name j e).1

  pub step-in : i * 8 + 8 ≤ length code
  step-in = omega (arith, (small-name i h.live.named).1, h.code-size)

  goes-on : Named code_here.steps (step_here.after ∷ targets_of step_here.does)
  goes-on = named-every code_here.steps i routine-holds.closed.goes-on h.live.named

  pub named-after : is_named code_here.steps step_here.after ≡ true
  unfolding Named
  named-after = goes-on.0

  pub named-targets : Named code_here.steps (targets_of step_here.does)
  unfolding Named
  named-targets = goes-on.1

  pub callee-here : CalleeIn h.R h.offset C step_here.does
  callee-here = named-every code_here.steps i routine-holds.callees-are h.live.named

  pub loop-here : OwnLoop (length code_here.words) step_here
  loop-here = named-every code_here.steps i routine-holds.loops-fit h.live.named

  -- ---- what it does
  module _ (rooms : Rooms) (steps : ℕ) (out : List ℕ) where
    abbrev pub call_here : Call
    call_here = call_in h.P h.R X (window_of h.d) i

    abbrev pub state_here : State
    state_here = state_in h.P h.R X h.d i steps out

    pub effect-here : (after : ℕ) (does : Action) → step_here.after ≡ after → step_here.does ≡ does
        → effect_at h.P h.R rooms X h.d i steps out ≡ perform h.P rooms call_here (waiting h.P h.R X h.d) step_here.place after does state_here
    unfolding effect_at next_step step_of call_in
    effect-here after does p q = rw (sym p, sym q)

    pub memory-here : memory_of state_here call_here ≡ memory_in m n X (window_of h.d)
    unfolding state_in call_in memory_in
    memory-here = refl

    -- a step that only says where to go on
    pub goes-here : (b : ℕ) (E : Effect) → is_named code_here.steps b ≡ true → E ≡ made (on_top (go_to b) state_here)
        → Comes h.P h.R C h.offset h.d i steps X X out out E (to_z w64 b)
    goes-here b E k q =
        goes_on b (to_z_pos w64 b (omega (arith, (small-name b k).1))) (live-next h.P h.R X h.d i b h.live k)
        (q ∙ ap made (sym (goes_to h.P h.R X h.d i steps out b)))

    -- ---- expressions
    module _ (from to : ℕ) (t : Term) (e : term_in m n C from to ≡ some t) (r : ℤ) (v : Evaluated code values base from to r) where
      worth-here : worth (memory_of state_here call_here) t ≡ decoded r
      worth-here =
          ap (λ (M : Memory). worth M t) memory-here ∙ sym (ap (λ (b : ℕ). worth (memory_in m n X b) t) h.base-is) ∙ sym (v.is counts-here t e)

      pub value-here : lt_z r (pos first_error) ≡ true → worth (memory_of state_here call_here) t ≡ value r
      value-here k = worth-here ∙ is-value r k

      module _ (k : lt_z r (pos first_error) ≡ false) where
        pub error-here : worth (memory_of state_here call_here) t ≡ error (nat_abs r - first_error)
        error-here = worth-here ∙ is-error r k

        -- what raises an error in an expression fails, and nothing has changed
        pub failed-here : (go : ℤ → Effect) (E : Effect) → E ≡ with_value (worth (memory_of state_here call_here) t) state_here go
            → Comes h.P h.R C h.offset h.d i steps X X out out E r
        unfolding with_value
        failed-here go E q =
            fails (nat_abs r - first_error) (error-is r k) (worth-error (memory_of state_here call_here) t (nat_abs r - first_error) error-here) h.live
            (q ∙ ap (λ (y : Value). with_value y state_here go) error-here)
