-- RETRY and TRYNEXT: the routine goes on with the failed step, or with the one after it, and is in its ERROR list no more.
use mathlib.Core.Path.{◌≡◌, refl, sym, ap, subst, ◌∙◌}
use mathlib.Core.Bool.{true}
use mathlib.Core.List.{List, ◌∷◌}
use mathlib.Core.Option.{none, some}
use Prim.Native.Nat.{ℕ, ◌+◌, ◌<◌}
use native.Mathlib.Omega.{arith}
use lib.ListN.{length, get_or, set}
use lib.Seq.{get_or-set_other, set-get_or}
use lib.IntN.{pos}
use mir.Syntax.{w64}
use mir.Val.{SFits, to_z}
use mir.Facts.{to_z_pos}
use Rattle.paper.specs.Steps.{Program, retry, try_next}
use Rattle.paper.specs.States.{Call, Rooms, Effect, made, with_calls, go_to, set_failed, on_top}
use Rattle.paper.specs.Running.{step_of, perform, retrying, trying_next}
use Rattle.store_cells.specs.Cells.{cells_of}
use Rattle.store_cells.proofs.Laws.{length-words}
use Rattle.code.specs.Cells.{window_of, op_at}
use Rattle.code.specs.Closed.{is_named}
use Rattle.code.specs.Holds.{optionally}
use Rattle.code.specs.Windows.{failed_cell, call_in, waiting, state_in}
use Rattle.run_machine.specs.Live.{Live, FailedFits, none_failed, has_failed}
use Rattle.run_machine.specs.Machine.{Here, Comes, goes_on, KeepsRun, Performs, effect_at}
use Rattle.run_resuming.specs.Resuming.{StepAt, After, Forgot}
use Rattle.run_machine.proofs.States.{roomy, goes_to, call-failed}
use Rattle.run_machine.proofs.Living.{live-next, live-failed}
use Rattle.run_machine.proofs.Elsewhere.{elsewhere}
use Rattle.run_machine.proofs.Actions as Actions
use Rattle.run_machine.proofs.Current.{code_here, step_here, action-here, effect-here, small-name, named-after}
use Rattle.code.specs.Steps.{a_retry, a_try_next}
use Rattle.paper.specs.Words.{word_limit}
use Rattle.std.specs.Prelude.{Some, None}
use Rattle.run_errors.specs.Taken.{Listed}
use Rattle.run_errors.proofs.Cases.{none-case, some-case, positive}
use Rattle.run_errors.proofs.CallsDropped.{none-listed, some-listed}

-- ---- answers
pub answer-fits : (n : ℕ) → n < word_limit → SFits w64 (pos n)
answer-fits n h = record { sfits = omega arith }

pub answer-is : (n : ℕ) → n < word_limit → to_z w64 n ≡ pos n
answer-is n h = to_z_pos w64 {n = n} (omega arith)

module _ (code values : List ℕ) (base i : ℕ) (h : Here code values base i) where
  pub step-low : i < word_limit
  step-low = (small-name code values base i h i h.live.named).1

  pub step_fits : SFits w64 (pos i)
  step_fits = answer-fits i step-low

  -- the same call at another of its steps
  pub here-at : (n : ℕ) → is_named (code_here code values base i h).steps n ≡ true → Here code values base n
  here-at n e = elsewhere h values h.d base n refl h.deep h.base-is (live-next h.P h.R (cells_of values) h.d i n h.live e)

-- ---- the failed step
-- f was the failed step, or 0 where there was none
pub record Was (before after : List ℕ) (base f : ℕ) : Type 0 where
  pub was : f ≡ get_or (cells_of before) (base + failed_cell) 0
  pub words : cells_of after ≡ set (cells_of before) (base + failed_cell) 0
  pub long : length after ≡ length before

module _ (code values after : List ℕ) (base i f : ℕ) (g : Was values after base f) (h : Here code values base i) where
  f-is : f ≡ get_or (cells_of values) (window_of h.d + failed_cell) 0
  f-is = g.was ∙ ap (λ (b : ℕ). get_or (cells_of values) (b + failed_cell) 0) h.base-is

  words_are : cells_of after ≡ set (cells_of values) (window_of h.d + failed_cell) 0
  words_are = g.words ∙ ap (λ (b : ℕ). set (cells_of values) (b + failed_cell) 0) h.base-is

  pub forgot-keeps : KeepsRun (cells_of values) (cells_of after)
  forgot-keeps c a b = ap (λ (x : List ℕ). get_or x c 0) words_are ∙ get_or-set_other (cells_of values) (window_of h.d + failed_cell) c 0 0 (λ e. omega (arith, h.deep))

  in-store : window_of h.d + failed_cell < length (cells_of values)
  in-store = omega (arith, length-words values, h.values-size, h.deep)

  -- nothing has changed
  same : f ≡ 0 → cells_of after ≡ cells_of values
  same z = words_are ∙ ap (set (cells_of values) (window_of h.d + failed_cell)) (sym z ∙ f-is) ∙ set-get_or (cells_of values) (window_of h.d + failed_cell) 0

  -- the failed step is one of the routine
  fits-named : FailedFits h.P h.R (cells_of values) h.d f → (f ≡ 0 → ⊥) → is_named (code_here code values base i h).steps f ≡ true
  fits-named (none_failed z) d = absurd (d z)
  fits-named (has_failed e) d = e

  pub failed-named : (f ≡ 0 → ⊥) → is_named (code_here code values base i h).steps f ≡ true
  failed-named d = fits-named (subst (FailedFits h.P h.R (cells_of values) h.d) (sym f-is) h.live.top.failed) d

  pub failed-low : (f ≡ 0 → ⊥) → f < word_limit
  failed-low d = (small-name code values base i h f (failed-named d)).1

  module _ (rooms : Rooms) (steps : ℕ) (out : List ℕ) where
    -- the newest call stays as it is
    stays : (t : Call → Call) → t (call_in h.P h.R (cells_of values) (window_of h.d) i) ≡ call_in h.P h.R (cells_of values) (window_of h.d) i
        → on_top t (state_in h.P h.R (cells_of values) h.d i steps out) ≡ state_in h.P h.R (cells_of values) h.d i steps out
    unfolding on_top state_in
    stays t e = ap (λ (c : Call). with_calls (c ∷ waiting h.P h.R (cells_of values) h.d) (state_in h.P h.R (cells_of values) h.d i steps out)) e

    pub goes-stay : (t : Call → Call) (E : Effect) → E ≡ made (on_top t (state_in h.P h.R (cells_of values) h.d i steps out))
        → t (call_in h.P h.R (cells_of values) (window_of h.d) i) ≡ call_in h.P h.R (cells_of values) (window_of h.d) i → f ≡ 0
        → Comes h.P h.R (cells_of code) h.offset h.d i steps (cells_of values) (cells_of after) out out E (to_z w64 i)
    goes-stay t E e q z =
        let s = same z in
        goes_on i (answer-is i (step-low code values base i h)) (rw s h.live) (rw s (e ∙ ap made (stays t q)))

    -- it goes on at n
    changed : (n : ℕ) (t : Call → Call) → t (call_in h.P h.R (cells_of values) (window_of h.d) i) ≡ go_to n (set_failed none (call_in h.P h.R (cells_of values) (window_of h.d) i))
        → on_top t (state_in h.P h.R (cells_of values) h.d i steps out) ≡ on_top (go_to n) (on_top (set_failed none) (state_in h.P h.R (cells_of values) h.d i steps out))
    unfolding on_top state_in
    changed n t e = ap (λ (c : Call). with_calls (c ∷ waiting h.P h.R (cells_of values) h.d) (state_in h.P h.R (cells_of values) h.d i steps out)) e

    after-state : (n : ℕ) → state_in h.P h.R (cells_of after) h.d n steps out ≡ on_top (go_to n) (on_top (set_failed none) (state_in h.P h.R (cells_of values) h.d i steps out))
    unfolding optionally
    after-state n =
        goes_to h.P h.R (cells_of after) h.d i steps out n
        ∙ ap (on_top (go_to n)) (ap (λ (x : List ℕ). state_in h.P h.R x h.d i steps out) words_are ∙ call-failed h.P h.R (cells_of values) h.d (roomy h) 0 i steps out)

    pub goes_at : (n : ℕ) (t : Call → Call) (E : Effect) → E ≡ made (on_top t (state_in h.P h.R (cells_of values) h.d i steps out))
        → t (call_in h.P h.R (cells_of values) (window_of h.d) i) ≡ go_to n (set_failed none (call_in h.P h.R (cells_of values) (window_of h.d) i))
        → is_named (code_here code values base i h).steps n ≡ true
        → Comes h.P h.R (cells_of code) h.offset h.d i steps (cells_of values) (cells_of after) out out E (to_z w64 n)
    goes_at n t E e q k =
        goes_on n (answer-is n (small-name code values base i h n k).1)
        (subst (λ (x : List ℕ). Live h.P h.R x h.d n) (sym words_are)
        (live-failed h.P h.R (cells_of values) h.d (window_of h.d + failed_cell) 0 n (live-next h.P h.R (cells_of values) h.d i n h.live k) refl in-store (none_failed refl)))
        (e ∙ ap made (changed n t q ∙ sym (after-state n)))

  -- what the failed cell says of the call
  not-failed : f ≡ 0 → (call_in h.P h.R (cells_of values) (window_of h.d) i).failed ≡ none
  unfolding call_in optionally
  not-failed z = ap optionally (sym f-is ∙ z)

  has-failed : (f ≡ 0 → ⊥) → (call_in h.P h.R (cells_of values) (window_of h.d) i).failed ≡ some f
  unfolding call_in
  has-failed d = ap optionally (sym f-is) ∙ positive f d

  retry-stays : (c : Call) → c.failed ≡ none → retrying c ≡ c
  unfolding retrying
  retry-stays c e = none-case c.failed c (λ f. go_to f (set_failed none c)) e

  retry-goes : (c : Call) → c.failed ≡ some f → retrying c ≡ go_to f (set_failed none c)
  unfolding retrying
  retry-goes c e = some-case c.failed f c (λ f. go_to f (set_failed none c)) e

  try-stays : (P : Program) (c : Call) → c.failed ≡ none → trying_next P c ≡ c
  unfolding trying_next
  try-stays P c e = none-case c.failed c (λ f. go_to (step_of P c f).after (set_failed none c)) e

  try-goes : (P : Program) (c : Call) → c.failed ≡ some f → trying_next P c ≡ go_to (step_of P c f).after (set_failed none c)
  unfolding trying_next
  try-goes P c e = some-case c.failed f c (λ f. go_to (step_of P c f).after (set_failed none c)) e

-- ---- each return
module _ (code values : List ℕ) (base i : ℕ) (h : Here code values base i) where
  retry-effect : op_at (cells_of code) i ≡ a_retry → (rooms : Rooms) (steps : ℕ) (out : List ℕ)
      → effect_at h.P h.R rooms (cells_of values) h.d i steps out ≡ made (on_top retrying (state_in h.P h.R (cells_of values) h.d i steps out))
  unfolding perform
  retry-effect o rooms steps out =
      let c = code_here code values base i h in
      let s = step_here code values base i h in
      let q = Actions.reads-retry _ _ _ _ _ _ i s.after s.does (action-here code values base i h) o in
      effect-here code values base i h rooms steps out s.after retry refl q.does-is

  try-effect : op_at (cells_of code) i ≡ a_try_next → (rooms : Rooms) (steps : ℕ) (out : List ℕ)
      → effect_at h.P h.R rooms (cells_of values) h.d i steps out ≡ made (on_top (trying_next h.P) (state_in h.P h.R (cells_of values) h.d i steps out))
  unfolding perform
  try-effect o rooms steps out =
      let s = step_here code values base i h in
      let q = Actions.reads-try-next _ _ _ _ _ _ i s.after s.does (action-here code values base i h) o in
      effect-here code values base i h rooms steps out s.after try_next refl q.does-is

module _ (code values after : List ℕ) (base i f : ℕ) (g : Was values after base f) where
  pub retry-none : Here code values base i → op_at (cells_of code) i ≡ a_retry → f ≡ 0 → Performs code values after base i (to_z w64 i)
  retry-none h₀ o z = record {
    long = g.long;
    kept = forgot-keeps code values after base i f g h₀;
    does = λ h rooms steps out. goes-stay code values after base i f g h rooms steps out retrying _ (retry-effect code values base i h o rooms steps out)
        (retry-stays code values after base i f g h _ (not-failed code values after base i f g h z)) z;
  }

  pub retry-again : Here code values base i → op_at (cells_of code) i ≡ a_retry → (f ≡ 0 → ⊥) → Performs code values after base i (to_z w64 f)
  retry-again h₀ o d = record {
    long = g.long;
    kept = forgot-keeps code values after base i f g h₀;
    does = λ h rooms steps out. goes_at code values after base i f g h rooms steps out f retrying _ (retry-effect code values base i h o rooms steps out)
        (retry-goes code values after base i f g h _ (has-failed code values after base i f g h d)) (failed-named code values after base i f g h d);
  }

  pub try-none : Here code values base i → op_at (cells_of code) i ≡ a_try_next → f ≡ 0 → Performs code values after base i (to_z w64 i)
  try-none h₀ o z = record {
    long = g.long;
    kept = forgot-keeps code values after base i f g h₀;
    does = λ h rooms steps out. goes-stay code values after base i f g h rooms steps out (trying_next h.P) _ (try-effect code values base i h o rooms steps out)
        (try-stays code values after base i f g h h.P _ (not-failed code values after base i f g h z)) z;
  }

  -- the failed step as what comes after it is asked of
  pub failed-step : Here code values base i → (f ≡ 0 → ⊥) → StepAt code f
  failed-step h d =
      let k = here-at code values base i h f (failed-named code values after base i f g h d) in
      let s = step_here code values base f k in
      record {
        m = _;
        n = _;
        function = _;
        text = k.text;
        R = k.R;
        next = s.after;
        does = s.does;
        is = action-here code values base f k;
        goes-on = (small-name code values base f k s.after (named-after code values base f k)).0;
        size = k.code-size;
      }

  module _ (n : ℕ) (a : After code f n) where
    next-is : (h : Here code values base i) (d : f ≡ 0 → ⊥) → n ≡ (step_of h.P (call_in h.P h.R (cells_of values) (window_of h.d) i) f).after
    unfolding failed-step here-at step_of call_in
    next-is h d = a.is (failed-step h d)

    next-named : (h : Here code values base i) (d : f ≡ 0 → ⊥) → is_named (code_here code values base i h).steps n ≡ true
    unfolding failed-step here-at
    next-named h d =
        let k = here-at code values base i h f (failed-named code values after base i f g h d) in
        subst (λ (j : ℕ). is_named (code_here code values base i h).steps j ≡ true) (sym (a.is (failed-step h d))) (named-after code values base f k)

    pub next_low : Here code values base i → (f ≡ 0 → ⊥) → n < word_limit
    next_low h d = (small-name code values base i h n (next-named h d)).1

    pub try-again : Here code values base i → op_at (cells_of code) i ≡ a_try_next → (f ≡ 0 → ⊥) → Performs code values after base i (to_z w64 n)
    try-again h₀ o d = record {
      long = g.long;
      kept = forgot-keeps code values after base i f g h₀;
      does = λ h rooms steps out. goes_at code values after base i f g h rooms steps out n (trying_next h.P) _ (try-effect code values base i h o rooms steps out)
          (try-goes code values after base i f g h h.P _ (has-failed code values after base i f g h d) ∙ ap (λ (j : ℕ). go_to j (set_failed none (call_in h.P h.R (cells_of values) (window_of h.d) i))) (sym (next-is h d)))
          (next-named h d);
    }

-- ---- the same by what is answered of the failed step
module _ (code values after : List ℕ) (base i : ℕ) (r : Listed) (g : Forgot values after base r) where
  module _ (e : r ≡ None) where
    was-none : Was values after base 0
    was-none = record { was = sym (none-listed _ (sym g.was ∙ e)); words = g.words; long = g.long }

    pub retries-none : Here code values base i → op_at (cells_of code) i ≡ a_retry → Performs code values after base i (to_z w64 i)
    retries-none h o = retry-none code values after base i 0 was-none h o refl

    pub tries-none : Here code values base i → op_at (cells_of code) i ≡ a_try_next → Performs code values after base i (to_z w64 i)
    tries-none h o = try-none code values after base i 0 was-none h o refl

  module _ (f : ℕ) (e : r ≡ Some f) where
    was-step : (f ≡ get_or (cells_of values) (base + failed_cell) 0) × (f ≡ 0 → ⊥)
    was-step = some-listed _ f (sym g.was ∙ e)

    was-some : Was values after base f
    was-some = record { was = was-step.0; words = g.words; long = g.long }

    pub step-fits : Here code values base i → SFits w64 (pos f)
    step-fits h = answer-fits f (failed-low code values after base i f was-some h was-step.1)

    pub retries-some : Here code values base i → op_at (cells_of code) i ≡ a_retry → Performs code values after base i (to_z w64 f)
    retries-some h o = retry-again code values after base i f was-some h o was-step.1

    pub step-at : Here code values base i → StepAt code f
    step-at h = failed-step code values after base i f was-some h was-step.1

    module _ (n : ℕ) (a : After code f n) where
      pub next-fits : Here code values base i → SFits w64 (pos n)
      next-fits h = answer-fits n (next_low code values after base i f was-some n a h was-step.1)

      pub tries-some : Here code values base i → op_at (cells_of code) i ≡ a_try_next → Performs code values after base i (to_z w64 n)
      tries-some h o = try-again code values after base i f was-some n a h o was-step.1
