-- Errors: the nearest call with an ERROR list takes one, and those below it are dropped.
use mathlib.Core.Path.{◌≡◌, refl, sym, ap, subst, ◌∙◌}
use mathlib.Core.Bool.{true, false}
use mathlib.Core.List.{List, [], ◌∷◌}
use mathlib.Core.Option.{Option, none, some}
use Prim.Native.Nat.{ℕ, zero, suc, ◌+◌, ◌-◌, ◌*◌, ◌<◌, ◌≤◌}
use native.Mathlib.Omega.{arith}
use lib.ListN.{length, get_or, set}
use lib.Seq.{get_or-set_other}
use lib.Dec.{T, leb}
use lib.IntN.{ℤ, pos, nat_abs}
use lib.Signed.{le_z, non_neg}
use mir.Syntax.{w64}
use mir.Val.{Fits, SFits}
use mir.Facts.{to_z-of_z}
use borrow.Author.Tests.{leb-false}
use Rattle.laws.proofs.Tests.{false-true}
use Rattle.paper.specs.Steps.{Program}
use Rattle.paper.specs.States.{Call, State, with_calls, with_errno, go_to, set_failed, on_top}
use Rattle.paper.specs.Running.{code_at, takes, caught, stopping, goes_on, arising}
use Rattle.store_numbers.proofs.Whole.{read}
use Rattle.store_cells.specs.Cells.{cells_of, Put}
use Rattle.store_cells.proofs.Laws.{length-words}
use Rattle.store_cells.proofs.Kept.{put-length}
use Rattle.code.specs.Cells.{window_of, link_at, errno_cell, first_window, window_cells}
use Rattle.code.specs.Steps.{Head, no_head}
use Rattle.code.specs.Closed.{is_named}
use Rattle.code.specs.Holds.{optionally}
use Rattle.code.specs.Windows.{routine_cell, waits_cell, failed_cell, call_in, waiting, state_in}
use Rattle.layout.specs.Answers.{first_error, answers}
use Rattle.store_evaluation.specs.Parts.{addresses}
use Rattle.std.specs.Prelude.{Some, None}
use Rattle.std.specs.Option.{is_some}
use Rattle.run_errors.specs.Taken.{Taken, Listed, listed}
use Rattle.run_errors.specs.declared.Machine.{Machine}
use Rattle.run_machine.specs.Live.{Live, has_failed, routine_of_call, code_of_call}
use Rattle.run_machine.specs.Machine.{handed, Here, KeepsRun}
use Rattle.run_errors.specs.Errors as errors
use Rattle.run_errors.specs.Errors.{HasRoutine, handler_at, Seeks, Nearest, Takes, dies, Unwound, Raises, raises, hands_on, Settles, stops, resumes, Arisen}
use Rattle.run_machine.proofs.States.{roomy, goes_to, call-failed, errno-cell}
use Rattle.run_machine.proofs.Living.{live-next, live-caller, live-failed, live-errno}
use Rattle.run_machine.proofs.Elsewhere.{elsewhere, caller}
use Rattle.run_machine.proofs.Current.{code_here, routine-holds, small-name}
use Rattle.store_reading.specs.Reading.{cell_values}
use Rattle.run_errors.proofs.Cases.{none-case, some-case, positive}

-- ---- a call's routine
module _ (code values : List ℕ) (base i : ℕ) (h : Here code values base i) where
  abbrev X : List ℕ
  X = cells_of values

  pub word-is : get_or X (base + routine_cell) 0 ≡ (get_or h.R (routine_of_call h.P h.R X h.d) no_head).word
  word-is = ap (λ (b : ℕ). get_or X (b + routine_cell) 0) h.base-is ∙ sym h.live.top.word

  pub has-routine : HasRoutine code values base
  has-routine = record {
    cell = omega (arith, h.values-size, h.base-is, h.deep);
    word = omega (arith, word-is, (routine-holds code values base i h).head_small, h.code-size);
  }

  pub handler-is : (code_here code values base i h).handler ≡ optionally (handler_at code values base)
  handler-is = (routine-holds code values base i h).handler-is ∙ ap (λ (w : ℕ). optionally (link_at (cells_of code) (w + 1))) (sym word-is)

  pub window-in : (base + window_cells) * 4 ≤ length values
  window-in = omega (arith, h.values-size, h.base-is, h.deep)

-- ---- the calls that may take an error
module _ (P : Program) (c : Call) (r : List Call) where
  abbrev found : Option ℕ → Option (List Call)
  found o = elim o as (λ _. Option (List Call)) [ none ↦ caught P r | some h ↦ elim c.failed as (λ _. Option (List Call)) [ none ↦ some (takes h c ∷ r) | some f ↦ none ] ]

  caught-is : caught P (c ∷ r) ≡ found (code_at P c.routine).handler
  unfolding caught
  caught-is = refl

  pub caught-on : (code_at P c.routine).handler ≡ none → caught P (c ∷ r) ≡ caught P r
  caught-on e = caught-is ∙ ap found e

  pub caught-dies : (h f : ℕ) → (code_at P c.routine).handler ≡ some h → c.failed ≡ some f → caught P (c ∷ r) ≡ none
  caught-dies h f e g = caught-is ∙ ap found e ∙ some-case c.failed f (some (takes h c ∷ r)) (λ _. none) g

  pub caught-here : (h : ℕ) → (code_at P c.routine).handler ≡ some h → c.failed ≡ none → caught P (c ∷ r) ≡ some (takes h c ∷ r)
  caught-here h e g = caught-is ∙ ap found e ∙ none-case c.failed (some (takes h c ∷ r)) (λ _. none) g

caught-nobody : (P : Program) → caught P [] ≡ none
unfolding caught
caught-nobody P = refl

zero-handler : optionally 0 ≡ none
unfolding optionally
zero-handler = refl

-- ---- a list that may be missing
pub none-listed : (x : ℕ) → listed x ≡ None → x ≡ 0
none-listed zero e = refl
none-listed (suc x) e = cc

pub some-listed : (x h : ℕ) → listed x ≡ Some h → (h ≡ x) × (h ≡ 0 → ⊥)
some-listed zero h e = cc
some-listed (suc x) h e = let q : h ≡ suc x = cc in (q, λ z. omega (arith, q, z))

pub none-found : (o : Listed) (x : ℕ) → o ≡ listed x → is_some o ≡ false → x ≡ 0
none-found o zero e t = refl
none-found o (suc x) e t = false-true (sym t ∙ ap is_some e)

pub some-found : (o : Listed) (x : ℕ) → o ≡ listed x → is_some o ≡ true → x ≡ 0 → ⊥
some-found o zero e t z = false-true (sym (ap is_some e) ∙ t)
some-found o (suc x) e t z = absurd (omega (arith, z))

-- ---- the search up the chain, whatever is asked of the calls
module _ (A : Type 0) (ask : Program → List Call → A) where
  abbrev pub SeekingFor : (code values : List ℕ) → (base i b s : ℕ) → Type 0
  SeekingFor code values base i b s = (h : Here code values base i) → Seeks A (ask h.P) h.P h.R (cells_of values) h.d i b s

  pub seek-first : (code values : List ℕ) (base i : ℕ) → SeekingFor code values base i base i
  seek-first code values base i h = record { e = h.d; up = omega arith; base-is = h.base-is; live = h.live; rest = refl }

  module _ (code values : List ℕ) (base i b s : ℕ) (h : Here code values base i) (q : Seeks A (ask h.P) h.P h.R (cells_of values) h.d i b s) where
    -- the call that was come to
    abbrev pub come : Here code values b s
    come = elsewhere h values q.e b s refl (omega (arith, q.up, h.deep)) q.base-is q.live

    -- past main's window there is a caller's
    pub come-above : (b ≡ first_window → ⊥) → window_of 1 ≤ b
    come-above d = above q.e q.base-is
      where
        above : (e : ℕ) → b ≡ window_of e → window_of 1 ≤ b
        above zero z = absurd (d z)
        above (suc e) z = omega arith

    -- the next call up is asked, where this one does not matter
    abbrev Skips : Type 0
    Skips =
        ask h.P (call_in h.P h.R (cells_of values) (window_of q.e) s ∷ waiting h.P h.R (cells_of values) q.e) ≡ ask h.P (waiting h.P h.R (cells_of values) q.e)

    abbrev Above : Type 0
    Above = Seeks A (ask h.P) h.P h.R (cells_of values) h.d i (b - window_cells) (get_or (cells_of values) (b - window_cells + waits_cell) 0)

    up_one : (e : ℕ) → q.e ≡ suc e → Skips → Above
    unfolding waiting
    up_one e z n =
        let a : b - window_cells ≡ window_of e = omega (arith, q.base-is) in
        record {
          e = e;
          up = omega (arith, q.up);
          base-is = a;
          live = live-caller h.P h.R (cells_of values) q.e e s z q.live (b - window_cells) (get_or (cells_of values) (b - window_cells + waits_cell) 0) a refl;
          rest = q.rest ∙ n
              ∙ ap (λ (j : ℕ). ask h.P (waiting h.P h.R (cells_of values) j)) z
              ∙ ap (λ (j : ℕ). ask h.P (call_in h.P h.R (cells_of values) (window_of e) (get_or (cells_of values) (j + waits_cell) 0) ∷ waiting h.P h.R (cells_of values) e)) (sym a);
        }

    pub seek-up : (b ≡ first_window → ⊥) → Skips → Above
    seek-up d n = go q.e refl
      where
        go : (e : ℕ) → q.e ≡ e → Above
        go zero z = absurd (d (q.base-is ∙ ap window_of z))
        go (suc e) z = up_one e z n

-- ---- who takes an error
abbrev pub Seeking : (code values : List ℕ) → (base i b s : ℕ) → Type 0
Seeking code values base i b s = SeekingFor (Option (List Call)) caught code values base i b s

pub seek-start : (code values : List ℕ) (base i : ℕ) → Seeking code values base i base i
seek-start code values base i = seek-first (Option (List Call)) caught code values base i

module _ (code values : List ℕ) (base i b s : ℕ) (k : Seeking code values base i b s) (h : Here code values base i) where
  pub come-here : Here code values b s
  come-here = come (Option (List Call)) caught code values base i b s h (k h)

  pub seek-routine : HasRoutine code values b
  seek-routine = has-routine code values b s come-here

  pub seek-in : (b + window_cells) * 4 ≤ length values
  seek-in = window-in code values b s come-here

  pub seek-get : (j : ℕ) → j < window_cells → (b - window_cells + j) * 4 + 4 ≤ length values
  seek-get j l = omega (arith, seek-in)

  pub seek-add : (j : ℕ) → j < window_cells → b - window_cells + j < addresses
  seek-add j l = omega (arith, seek-in, h.values-size)

  pub seek-sub : (b ≡ first_window → ⊥) → window_cells ≤ b
  seek-sub d = omega (arith, come-above (Option (List Call)) caught code values base i b s h (k h) d)

  pub seek-less : (b ≡ first_window → ⊥) → b - window_cells < b
  seek-less d = omega (arith, come-above (Option (List Call)) caught code values base i b s h (k h) d)

  handler-here : (code_at h.P (call_in h.P h.R (cells_of values) (window_of (k h).e) s).routine).handler ≡ optionally (handler_at code values b)
  unfolding call_in come-here
  handler-here = handler-is code values b s come-here

-- found, or at main
module _ (code values : List ℕ) (base i b s : ℕ) (k : Seeking code values base i b s) where
  pub nearest-found : (o : Listed) → o ≡ listed (handler_at code values b) → is_some o ≡ true → Nearest code values base i (record { next = s; base = b })
  nearest-found o e t = record { is = k; main = λ z. absurd (some-found o (handler_at code values b) e t z) }

  pub nearest-main : b ≡ first_window → Nearest code values base i (record { next = s; base = b })
  nearest-main m = record { is = k; main = λ z. m }

  pub seek-on : (o : Listed) → o ≡ listed (handler_at code values b) → is_some o ≡ false → (b ≡ first_window → ⊥) → (w : ℕ) → w ≡ get_or (cells_of values) (b - window_cells + waits_cell) 0 → Seeking code values base i (b - window_cells) w
  seek-on o e t d w ew h =
      subst (Seeks (Option (List Call)) (caught h.P) h.P h.R (cells_of values) h.d i (b - window_cells)) (sym ew)
      (seek-up (Option (List Call)) caught code values base i b s h (k h) d
      (caught-on h.P (call_in h.P h.R (cells_of values) (window_of (k h).e) s) (waiting h.P h.R (cells_of values) (k h).e)
      (handler-here code values base i b s k h ∙ ap optionally (none-found o (handler_at code values b) e t) ∙ zero-handler)))

-- ---- the call that was found
module _ (code values : List ℕ) (base i : ℕ) (t : Machine) (nr : Nearest code values base i t) where
  module _ (h : Here code values base i) where
    at_call : Here code values t.base t.next
    at_call = come-here code values base i t.base t.next nr.is h

    pub found-routine : HasRoutine code values t.base
    found-routine = seek-routine code values base i t.base t.next nr.is h

    pub found_in : (t.base + window_cells) * 4 ≤ length values
    found_in = seek-in code values base i t.base t.next nr.is h

    pub found_get : (j : ℕ) → j < window_cells → (t.base + j) * 4 + 4 ≤ length values
    found_get j l = omega (arith, found_in)

    pub found_add : (j : ℕ) → j < window_cells → t.base + j < addresses
    found_add j l = omega (arith, found_in, h.values-size)

    pub found-small : t.next < cell_values
    found-small = omega (arith, (small-name code values t.base t.next at_call t.next at_call.live.named).1)

  module _ (x : ℕ) (ex : x ≡ handler_at code values t.base) where
    -- no call has an ERROR list
    nobody : (h : Here code values base i) → x ≡ 0 → caught h.P (call_in h.P h.R (cells_of values) (window_of h.d) i ∷ waiting h.P h.R (cells_of values) h.d) ≡ none
    unfolding waiting
    nobody h z =
        let q = nr.is h in
        let m : q.e ≡ 0 = omega (arith, nr.main (sym ex ∙ z), q.base-is) in
        q.rest
        ∙ caught-on h.P (call_in h.P h.R (cells_of values) (window_of q.e) t.next) (waiting h.P h.R (cells_of values) q.e)
        (handler-here code values base i t.base t.next nr.is h ∙ ap optionally (sym ex ∙ z) ∙ zero-handler)
        ∙ ap (λ (j : ℕ). caught h.P (waiting h.P h.R (cells_of values) j)) m
        ∙ caught-nobody h.P

    pub unwind-none : x ≡ 0 → Unwound code values values base i None
    unwind-none z = record { long = refl; kept = λ c a b. refl; does = λ h. dies refl refl (nobody h z) }

    module _ (d : x ≡ 0 → ⊥) (f : ℕ) (ef : f ≡ get_or (cells_of values) (t.base + failed_cell) 0) where
      module _ (h : Here code values base i) where
        handler-some : (code_at h.P (call_in h.P h.R (cells_of values) (window_of (nr.is h).e) t.next).routine).handler ≡ some x
        handler-some = handler-here code values base i t.base t.next nr.is h ∙ ap optionally (sym ex) ∙ positive x d

        failed-is : (call_in h.P h.R (cells_of values) (window_of (nr.is h).e) t.next).failed ≡ optionally f
        unfolding call_in
        failed-is = ap optionally (ap (λ (b : ℕ). get_or (cells_of values) (b + failed_cell) 0) (sym (nr.is h).base-is) ∙ sym ef)

      -- it is in its ERROR list
      pub unwind-dies : (f ≡ 0 → ⊥) → Unwound code values values base i None
      unwind-dies g = record {
        long = refl;
        kept = λ c a b. refl;
        does = λ h. dies refl refl ((nr.is h).rest ∙ caught-dies h.P (call_in h.P h.R (cells_of values) (window_of (nr.is h).e) t.next) (waiting h.P h.R (cells_of values) (nr.is h).e) x f (handler-some h) (failed-is h ∙ positive f g));
      }

      -- it takes the error
      module _ (z : f ≡ 0) (after : List ℕ) (p : Put values after (t.base + failed_cell) t.next) where
        module _ (h : Here code values base i) where
          words_are : cells_of after ≡ set (cells_of values) (window_of (nr.is h).e + failed_cell) t.next
          words_are = p.words ∙ ap (λ (b : ℕ). set (cells_of values) (b + failed_cell) t.next) (nr.is h).base-is

          kept_run : KeepsRun (cells_of values) (cells_of after)
          kept_run c a b =
              ap (λ (x : List ℕ). get_or x c 0) words_are
              ∙ get_or-set_other (cells_of values) (window_of (nr.is h).e + failed_cell) c t.next 0 (λ e. omega arith)

          in-store : window_of (nr.is h).e + failed_cell < length (cells_of values)
          in-store = omega (arith, length-words values, found_in h, (nr.is h).base-is)

          some-step : optionally t.next ≡ some t.next
          some-step = positive t.next (λ e. omega (arith, (small-name code values t.base t.next (at_call h) t.next (at_call h).live.named).0))

          on-top-takes : (steps : ℕ) (out : List ℕ)
              → on_top (go_to x) (on_top (set_failed (some t.next)) (state_in h.P h.R (cells_of values) (nr.is h).e t.next steps out))
              ≡ with_calls (takes x (call_in h.P h.R (cells_of values) (window_of (nr.is h).e) t.next) ∷ waiting h.P h.R (cells_of values) (nr.is h).e) (state_in h.P h.R (cells_of values) (nr.is h).e t.next steps out)
          unfolding on_top state_in takes call_in
          on-top-takes steps out = refl

          state-failed : (steps : ℕ) (out : List ℕ)
              → state_in h.P h.R (set (cells_of values) (window_of (nr.is h).e + failed_cell) t.next) (nr.is h).e t.next steps out
              ≡ on_top (set_failed (optionally t.next)) (state_in h.P h.R (cells_of values) (nr.is h).e t.next steps out)
          unfolding at_call come-here
          state-failed steps out = call-failed h.P h.R (cells_of values) (nr.is h).e (roomy (at_call h)) t.next t.next steps out

          taken-state : (steps : ℕ) (out : List ℕ)
              → state_in h.P h.R (cells_of after) (nr.is h).e x steps out
              ≡ with_calls (takes x (call_in h.P h.R (cells_of values) (window_of (nr.is h).e) t.next) ∷ waiting h.P h.R (cells_of values) (nr.is h).e) (state_in h.P h.R (cells_of values) (nr.is h).e t.next steps out)
          taken-state steps out =
              goes_to h.P h.R (cells_of after) (nr.is h).e t.next steps out x
              ∙ ap (on_top (go_to x))
              (ap (λ (y : List ℕ). state_in h.P h.R y (nr.is h).e t.next steps out) words_are
              ∙ state-failed steps out
              ∙ ap (λ (o : Option ℕ). on_top (set_failed o) (state_in h.P h.R (cells_of values) (nr.is h).e t.next steps out)) some-step)
              ∙ on-top-takes steps out

          calls_are : call_in h.P h.R (cells_of after) (window_of (nr.is h).e) x ∷ waiting h.P h.R (cells_of after) (nr.is h).e
              ≡ takes x (call_in h.P h.R (cells_of values) (window_of (nr.is h).e) t.next) ∷ waiting h.P h.R (cells_of values) (nr.is h).e
          unfolding state_in
          calls_are = ap (λ (s : State). s.calls) (taken-state 0 [])

          rest-state : (e j steps : ℕ) (out : List ℕ)
              → with_calls (call_in h.P h.R (cells_of after) (window_of (nr.is h).e) x ∷ waiting h.P h.R (cells_of after) (nr.is h).e) (state_in h.P h.R (cells_of values) e j steps out)
              ≡ state_in h.P h.R (cells_of after) (nr.is h).e x steps out
          unfolding state_in
          rest-state e j steps out =
              ap (λ (cs : List Call). with_calls cs (state_in h.P h.R (cells_of values) e j steps out)) calls_are ∙ sym (taken-state steps out)

          named-x : is_named (code_of_call h.P h.R (cells_of values) (nr.is h).e).steps x ≡ true
          unfolding at_call come-here
          named-x =
              let q = at_call h in
              (routine-holds code values t.base t.next q).closed.handles x (handler-is code values t.base t.next q ∙ ap optionally (sym ex) ∙ positive x d)

          live-after : Live h.P h.R (cells_of after) (nr.is h).e x
          live-after =
              let q = nr.is h in
              subst (λ (y : List ℕ). Live h.P h.R y q.e x) (sym words_are)
              (live-failed h.P h.R (cells_of values) q.e (window_of q.e + failed_cell) t.next x (live-next h.P h.R (cells_of values) q.e t.next x q.live named-x) refl in-store (has_failed q.live.named))

        pub unwind-takes : Here code values base i → Unwound code values after base i (Some (record { next = x; base = t.base }))
        unwind-takes h₀ = record {
          long = put-length p (omega (arith, found_in h₀));
          kept = kept_run h₀;
          does = λ h.
              let q = nr.is h in
              errors.takes q.e (record { next = x; base = t.base }) refl (omega (arith, d)) q.base-is (omega (arith, q.up, h.deep)) (live-after h)
              (q.rest
              ∙ caught-here h.P (call_in h.P h.R (cells_of values) (window_of q.e) t.next) (waiting h.P h.R (cells_of values) q.e) x (handler-some h) (failed-is h ∙ ap optionally z ∙ zero-handler)
              ∙ ap some (sym (calls_are h)))
              (rest-state h);
        }

-- ---- an error by a step's answer
module _ (r : ℤ) (f : SFits w64 r) (a : Raises r) where
  read_is : read r ≡ r
  read_is = to_z-of_z f

  pub record Raised : Type 0 where
    pub e : ℕ
    pub low : e < answers
    pub is : r ≡ pos (first_error + e)

  module _ (t : le_z (pos first_error) (read r) ≡ true) where
    raised_of : (q : Raises r) → Raised
    raised_of (raises e l z) = record { e = e; low = l; is = z }
    raised_of (hands_on z) = let g : le_z (pos first_error) (pos handed) ≡ true = rw (read_is, z) at t in false-true g

    pub raised : Raised
    raised = raised_of a

    pub raised-cast : T (non_neg (read r)) × Fits w64 (nat_abs (read r))
    raised-cast =
        let q = raised in
        let l = q.low in
        rw (read_is, q.is) (tt, record { fits = omega arith })

    pub raised-sub : first_error ≤ nat_abs (read r)
    raised-sub = let q = raised in rw (read_is, q.is) (omega arith)

    pub raised_is : nat_abs (read r) - first_error ≡ raised.e
    raised_is = let q = raised in rw (read_is) (ap (λ (z : ℤ). nat_abs z - first_error) q.is ∙ omega arith)

    pub raised-small : nat_abs (read r) - first_error < cell_values
    raised-small = omega (arith, raised_is, raised.low)

    raised-same : (e : ℕ) → r ≡ pos (first_error + e) → e ≡ nat_abs (read r) - first_error
    raised-same e z = sym (rw (read_is) (ap (λ (z : ℤ). nat_abs z - first_error) z ∙ omega arith))

    raised-not : {A : Type 0} → r ≡ pos handed → A
    raised-not z = let g : le_z (pos first_error) (pos handed) ≡ true = rw (read_is, z) at t in false-true g

  handed-not : {A : Type 0} (e : ℕ) → le_z (pos first_error) (read r) ≡ false → r ≡ pos (first_error + e) → A
  handed-not e t z =
      let g : leb first_error (first_error + e) ≡ false = rw (read_is, z) at t in
      absurd (omega (arith, leb-false first_error (first_error + e) g))

-- ERRNO is set
module _ (code values mid : List ℕ) (base i e : ℕ) (p : Put values mid errno_cell e) (h : Here code values base i) (l : e < answers) where
  abbrev pub errno-here : Here code mid base i
  errno-here =
      elsewhere h mid h.d base i (put-length p (omega (arith, h.values-size))) h.deep h.base-is
      (rw p.words (live-errno h.P h.R (cells_of values) h.d errno_cell e i h.live refl (omega (arith, length-words values, h.values-size)) (omega arith)))

  pub errno-state : (steps : ℕ) (out : List ℕ) → state_in h.P h.R (cells_of mid) h.d i steps out ≡ with_errno e (state_in h.P h.R (cells_of values) h.d i steps out)
  errno-state steps out = rw p.words (errno-cell h.P h.R (cells_of values) h.d (roomy h) e i steps out)

-- what `arising` comes to
arising-none : (P : Program) (e place : ℕ) (calls : List Call) (s : State) → caught P calls ≡ none → arising P e place calls s ≡ stopping true 3 place (with_errno e s)
unfolding arising
arising-none P e place calls s q = none-case (caught P calls) (stopping true 3 place (with_errno e s)) (λ cs. goes_on (with_calls cs (with_errno e s))) q

arising-some : (P : Program) (e place : ℕ) (calls cs : List Call) (s : State) → caught P calls ≡ some cs → arising P e place calls s ≡ goes_on (with_calls cs (with_errno e s))
unfolding arising
arising-some P e place calls cs s q = some-case (caught P calls) cs (stopping true 3 place (with_errno e s)) (λ cs. goes_on (with_calls cs (with_errno e s))) q

-- by the calls of a state that holds the error's number already
module _ (P : Program) (R : List Head) (X after : List ℕ) (c j d i steps place : ℕ) (out : List ℕ) (t : Taken) where
  settles : (e : ℕ) (s : State) → Live P R X d i → with_errno e s ≡ state_in P R X d i steps out
      → Takes P R X after c j t → Settles P R after d i steps place out t (arising P e place (call_in P R X (window_of c) j ∷ waiting P R X c) s)
  settles e s lv q (dies z same n) =
      stops z (subst (λ (x : List ℕ). Live P R x d i) (sym same) lv)
      (arising-none P e place (call_in P R X (window_of c) j ∷ waiting P R X c) s n ∙ ap (stopping true 3 place) (q ∙ ap (λ (x : List ℕ). state_in P R x d i steps out) (sym same)))
  settles e s lv q (errors.takes k m tm l b deep live n rest) =
      resumes k m tm l b deep live
      (arising-some P e place (call_in P R X (window_of c) j ∷ waiting P R X c) (call_in P R after (window_of k) m.next ∷ waiting P R after k) s n
      ∙ ap goes_on (ap (with_calls (call_in P R after (window_of k) m.next ∷ waiting P R after k)) q ∙ rest d i steps out))

calls-of : (P : Program) (R : List Head) (X : List ℕ) (d i steps : ℕ) (out : List ℕ) → (state_in P R X d i steps out).calls ≡ call_in P R X (window_of d) i ∷ waiting P R X d
unfolding state_in
calls-of P R X d i steps out = refl

with-errno : (P : Program) (R : List Head) (X : List ℕ) (d i steps : ℕ) (out : List ℕ) → with_errno (get_or X errno_cell 0) (state_in P R X d i steps out) ≡ state_in P R X d i steps out
unfolding state_in
with-errno P R X d i steps out = refl

-- ---- each return of `arise`
module _ (code values : List ℕ) (base i : ℕ) (r : ℤ) (f : SFits w64 r) (a : Raises r) where
  module _ (t : le_z (pos first_error) (read r) ≡ true) (mid : List ℕ) (p : Put values mid errno_cell (nat_abs (read r) - first_error)) where
    pub arise-here : Here code values base i → Here code mid base i
    arise-here h = errno-here code values mid base i (nat_abs (read r) - first_error) p h (omega (arith, raised_is r f a t, (raised r f a t).low))

    pub arise-fails : Here code values base i → (after : List ℕ) (k : Taken) → Unwound code mid after base i k → Arisen code values after base i r k
    unfolding arise-here
    arise-fails h₀ after k u = record {
      long = u.long ∙ put-length p (omega (arith, h₀.values-size));
      kept = λ c x y. u.kept c x y ∙ ap (λ (w : List ℕ). get_or w c 0) p.words ∙ get_or-set_other (cells_of values) errno_cell c (nat_abs (read r) - first_error) 0 (λ z. omega arith);
      hands = λ h z steps place out. raised-not r f a t z;
      fails = λ h e z steps place out.
          let e-is : e ≡ nat_abs (read r) - first_error = raised-same r f a t e z in
          let s = state_in h.P h.R (cells_of values) h.d i steps out in
          let low : nat_abs (read r) - first_error < answers = omega (arith, raised_is r f a t, (raised r f a t).low) in
          let st = errno-state code values mid base i (nat_abs (read r) - first_error) p h low steps out in
          subst (λ (cs : List Call). Settles h.P h.R (cells_of after) h.d i steps place out k (arising h.P e place cs s))
          (sym (calls-of h.P h.R (cells_of mid) h.d i steps out) ∙ ap (λ (x : State). x.calls) st)
          (settles h.P h.R (cells_of mid) (cells_of after) h.d i h.d i steps place out k e s (arise-here h).live (ap (λ (x : ℕ). with_errno x s) e-is ∙ sym st) (u.does (arise-here h)));
    }

  module _ (t : le_z (pos first_error) (read r) ≡ false) where
    pub arise-main : base ≡ first_window → Arisen code values values base i r None
    unfolding waiting
    arise-main m = record {
      long = refl;
      kept = λ c x y. refl;
      fails = λ h e z steps place out. handed-not r f a e t z;
      hands = λ h z steps place out.
          let d : h.d ≡ 0 = omega (arith, h.base-is) in
          let s = state_in h.P h.R (cells_of values) h.d i steps out in
          let n : caught h.P (waiting h.P h.R (cells_of values) h.d) ≡ none = ap (λ (j : ℕ). caught h.P (waiting h.P h.R (cells_of values) j)) d ∙ caught-nobody h.P in
          stops refl h.live (arising-none h.P (get_or (cells_of values) errno_cell 0) place (waiting h.P h.R (cells_of values) h.d) s n ∙ ap (stopping true 3 place) (with-errno h.P h.R (cells_of values) h.d i steps out));
    }

    module _ (m : base ≡ first_window → ⊥) (w : ℕ) (ew : w ≡ get_or (cells_of values) (base - window_cells + waits_cell) 0) where
      one_up : (h : Here code values base i) (e : ℕ) → h.d ≡ suc e → Here code values (base - window_cells) w
      one_up h e z = caller h e z (base - window_cells) w (omega (arith, h.base-is)) ew

      above : (h : Here code values base i) (d : ℕ) → h.d ≡ d → Here code values (base - window_cells) w
      above h zero z = absurd (m (h.base-is ∙ ap window_of z))
      above h (suc e) z = one_up h e z

      pub arise-up : Here code values base i → Here code values (base - window_cells) w
      arise-up h = above h h.d refl

      hands-on : (after : List ℕ) (k : Taken) → Unwound code values after (base - window_cells) w k → (h : Here code values base i) (d : ℕ) → h.d ≡ d → (steps place : ℕ) (out : List ℕ)
          → Settles h.P h.R (cells_of after) h.d i steps place out k
          (arising h.P (get_or (cells_of values) errno_cell 0) place (waiting h.P h.R (cells_of values) h.d) (state_in h.P h.R (cells_of values) h.d i steps out))
      unfolding waiting one_up
      hands-on after k u h zero z steps place out = absurd (m (h.base-is ∙ ap window_of z))
      hands-on after k u h (suc e) z steps place out =
          let b : base - window_cells ≡ window_of e = omega (arith, h.base-is) in
          let ws : w ≡ get_or (cells_of values) (window_of e + waits_cell) 0 = ew ∙ ap (λ (j : ℕ). get_or (cells_of values) (j + waits_cell) 0) b in
          let s = state_in h.P h.R (cells_of values) h.d i steps out in
          let q : call_in h.P h.R (cells_of values) (window_of e) w ∷ waiting h.P h.R (cells_of values) e ≡ waiting h.P h.R (cells_of values) h.d =
          ap (λ (j : ℕ). call_in h.P h.R (cells_of values) (window_of e) j ∷ waiting h.P h.R (cells_of values) e) ws ∙ sym (ap (waiting h.P h.R (cells_of values)) z) in
          subst (λ (cs : List Call). Settles h.P h.R (cells_of after) h.d i steps place out k (arising h.P (get_or (cells_of values) errno_cell 0) place cs s)) q
          (settles h.P h.R (cells_of values) (cells_of after) e w h.d i steps place out k (get_or (cells_of values) errno_cell 0) s h.live (with-errno h.P h.R (cells_of values) h.d i steps out) (u.does (one_up h e z)))

      pub arise-hands : (after : List ℕ) (k : Taken) → Unwound code values after (base - window_cells) w k → Arisen code values after base i r k
      arise-hands after k u = record {
        long = u.long;
        kept = u.kept;
        fails = λ h e z steps place out. handed-not r f a e t z;
        hands = λ h z steps place out. hands-on after k u h h.d refl steps place out;
      }
